use Rattle.std.proofs.Common.{arith}
use Rattle.bpf_isa.proofs.Places.{PLACES_is}
use Rattle.bpf_isa.proofs.opcode.place.Goals as goal

pub returns : goal.returns
returns c = PLACES_is c.args.opcode (omega arith)
