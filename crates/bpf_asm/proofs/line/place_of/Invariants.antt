use Rattle.std.proofs.Common.{◌==◌, ℕ}
use Rattle.bpf_asm.proofs.Scanning.{Passed}
use Rattle.bpf_asm.proofs.line.place_of.Given as goal

abbrev pub invariant-loop-place : goal.invariant-loop-place
invariant-loop-place l = Passed (λ (b : ℕ). b == l.byte) l.text l.place
