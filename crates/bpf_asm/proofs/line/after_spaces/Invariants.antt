use Rattle.std.proofs.Common.{◌≡◌, drop}
use Rattle.bpf_asm.specs.Reading.{after_spaces}
use Rattle.bpf_asm.proofs.line.after_spaces.Given as goal

abbrev pub invariant-loop-place : goal.invariant-loop-place
invariant-loop-place l = after_spaces l.text ≡ after_spaces (drop l.place l.text)
