use Rattle.bpf_asm.specs.Operands.{is_sign}
use Rattle.bpf_asm.proofs.Scanning.{Passed}
use Rattle.bpf_asm.proofs.operand.sign_place.Given as goal

abbrev pub invariant-loop-place : goal.invariant-loop-place
invariant-loop-place l = Passed is_sign l.text l.place
