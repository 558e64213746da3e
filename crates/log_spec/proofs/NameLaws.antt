-- A text that is too long for a name is refused for its form.
use Rattle.std.proofs.Common.{◌≡◌, ◌<◌, ℕ, false, List, length, Some, arith}
use Rattle.std.proofs.lemmas.Bool.Decides.{nat_tests}
use Rattle.machine_spec.specs.Image.{Program}
use Rattle.log_spec.specs.declared.{limits.TheConstants.MAX_NAME}
use Rattle.log_spec.specs.declared.event.Refusal.TheVariants as refusal
use Rattle.log_spec.specs.Catalogue.{ProgramTable, is_name, IsLoadRefusal}

pub long_refused : (table : ProgramTable) (name : List ℕ) (program : Program) → MAX_NAME < length name →
    IsLoadRefusal table name program (Some refusal.Name)
long_refused table name program lt =
    let form : is_name name ≡ false = grind (arith, nat_tests) in rw form
