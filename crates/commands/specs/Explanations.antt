-- What `explain` prints of a program.
use Rattle.std.specs.Prelude.{◌≡◌, ◌⊎◌, ℕ, List, Option, Some, None, Err, string_bytes}
use Rattle.std.specs.Io.KnownBytes.{Appends}
use Rattle.machine_spec.specs.{declared.instruction.IsaFault.IsaFault, Image.Program, Image.read_image}
use Rattle.explain.specs.{declared.explanation.Explanation.Explanation, declared.explanation.Diagnosis.Diagnosis}
use Rattle.explain.specs.{declared.way.Coverage.Coverage, Explanations.Explains}
use Rattle.commands.specs.declared.status.Status.{Status}
use Rattle.commands.specs.declared.status.Status.TheVariants.{Done, Refused, Failed}

-- the status of a verdict: whether the program is refused
abbrev pub status_of_refusal : Option Diagnosis → Status
status_of_refusal None = Done
status_of_refusal (Some _) = Refused

-- the status of an explanation's verdict
abbrev pub status_of_explained : Explanation → Status
status_of_explained explanation = status_of_refusal explanation.refusal

-- a program with code is explained to an extent, and standard output gets all of the lines
pub record PrintsExplained (extent : Coverage) (program : Program) (status : Status) (before after : Option (List ℕ))
    : Type 0 where
  pub explanation : Explanation
  pub explained : Explains extent program explanation
  pub status_is : status ≡ status_of_explained explanation
  pub printed : Appends before after (string_bytes explanation.lines)

-- an image without code is refused
pub record IsNoCode (image : List ℕ) (status : Status) : Type 0 where
  pub fault : IsaFault
  pub refused : read_image image ≡ Err fault
  pub status_is : status ≡ Refused

-- A call that explains a program ends with this status, which is `Failed` where standard output or memory failed.
abbrev pub PrintsExplanation : Coverage → Program → Status → Option (List ℕ) → Option (List ℕ) → Type 0
PrintsExplanation extent program status before after =
    (status ≡ Failed) ⊎ (PrintsExplained extent program status before after ⊎ IsNoCode program.image status)
