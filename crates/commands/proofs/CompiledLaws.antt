-- What a file has after a text of rules was compiled.
use Rattle.std.proofs.Common.{◌≡◌, ◌⊎◌, ℕ, List, Option, Err, refl, inl, inr}
use Rattle.rules_compiler.specs.{Programs.CompilesText, declared.text.TextFault.TextFault}
use Rattle.commands.specs.{declared.status.Status.Status, Compiled.IsFileOf, Compiled.WritesFile}
use Rattle.commands.specs.Compiled.{WritesProgram}
use Rattle.commands.specs.Compiled.{status_of_text}
use Rattle.commands.specs.declared.status.Status.TheVariants.{Failed}

-- a program was written, or a file or memory failed
pub put_program : (text bytes : List ℕ) (status : Status) (before after : Option (List ℕ)) → IsFileOf text bytes →
    WritesFile bytes status after → WritesProgram text status before after
put_program text bytes status before after is (inl is_failed) = inl is_failed
put_program text bytes status before after is (inr done) = inr (inl (record {
  file = is.file;
  of_text = is.of_text;
  status_is = done.0;
  written = rw is.bytes_are at done.1;
}))

-- a fault was reported
pub told_fault : (text : List ℕ) (why : TextFault) (status : Status) (file : Option (List ℕ)) →
    CompilesText text (Err why) → (status ≡ status_of_text why) ⊎ (status ≡ Failed) →
    WritesProgram text status file file
told_fault text why status file of_text (inl same) =
    inr (inr (record { why = why; of_text = of_text; status_is = same; kept = refl }))
told_fault text why status file of_text (inr is_failed) = inl is_failed

pub ruleset compiled = (put_program, told_fault)
