use Rattle.std.proofs.Common.{◌≡◌, ◌∙◌, ◌++◌, sym, ℕ, List, Option, Some, None, find}
use Rattle.std.specs.{Option.option_or, Str.bytes_eq}
use Rattle.std.proofs.lemmas.List.Folds.{find-append}
use Rattle.machine_spec.specs.declared.{instruction.Instruction.Instruction, opcode.TheConstants.TEMPLATES}
use Rattle.bpf_asm.specs.{declared.word.TheConstants.OTHER_FORMS, Words.word_of, Words.form_named}
use Rattle.bpf_asm.proofs.word.form_named.Goals as goal

-- a search of one table and then of another is one of both
in_both : (word : List ℕ) (forms others : List Instruction) (first : Option Instruction) →
    find (λ form. bytes_eq (word_of form) word) forms ≡ first →
    option_or first (find (λ form. bytes_eq (word_of form) word) others)
    ≡ find (λ form. bytes_eq (word_of form) word) (forms ++ others)
in_both word forms others first found =
    rw (find-append (λ form. bytes_eq (word_of form) word) forms others, found)

pub returns-in-Some : goal.returns-in-Some
unfolding form_named
returns-in-Some c = in_both c.args.word.now TEMPLATES OTHER_FORMS (Some c.in-Some.form)
    (sym c.first_named.ensures ∙ c.in-Some.is)

pub returns-in-None : goal.returns-in-None
unfolding form_named
returns-in-None c = c.first_named-in-None.ensures
    ∙ in_both c.args.word.now TEMPLATES OTHER_FORMS None (sym c.first_named.ensures ∙ c.in-None.is)
