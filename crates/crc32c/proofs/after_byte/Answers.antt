use Rattle.std.proofs.Common.{arith}
use Rattle.crc32c.proofs.Steps.{from_entry}
use Rattle.crc32c.proofs.after_byte.Goals as goal

pub returns : goal.returns
returns c = let entry = from_entry c.args.r c.args.byte (omega arith) in cc
