use Rattle.std.proofs.Common.{◌≡◌, drop, find}
use Rattle.std.specs.Str.{bytes_eq}
use Rattle.machine_spec.specs.declared.instruction.Instruction.{Instruction}
use Rattle.bpf_asm.specs.Words.{word_of}
use Rattle.bpf_asm.proofs.word.first_named.Given as goal

abbrev pub invariant-loop-form : goal.invariant-loop-form
invariant-loop-form l =
    find (λ (form : Instruction). bytes_eq (word_of form) l.word) l.forms
    ≡ find (λ (form : Instruction). bytes_eq (word_of form) l.word) (drop l.form-index l.forms)
