use Rattle.std.proofs.Common.{refl}
use Rattle.std.proofs.lemmas.Simd.{get_or_wider}
use Rattle.crc32c.proofs.words.Goals as goal

pub returns : goal.returns
returns c j lt = get_or_wider 256 4 4294967296 4 c.args.block j refl c.requires lt
