use Rattle.std.proofs.Common.{◌∙◌, arith}
use Rattle.bpf_asm.proofs.Scanning.{place_is}
use Rattle.bpf_asm.proofs.operand.place.Goals as goal

pub returns : goal.returns
returns c = c.between.ensures ∙ place_is c.args.text.now (omega arith) (omega arith) (omega arith)
