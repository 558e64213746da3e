-- What the calls on one image print of it.
use Rattle.std.specs.Prelude.{◌≡◌, ◌⊎◌, ℕ, take, List, [], ◌∷◌, ◌++◌, length, Option, Result, Ok, Err, codes}
use Rattle.std.specs.Prelude.{decimal}
use Rattle.std.specs.Io.KnownBytes.{Appends}
use Rattle.machine_spec.specs.declared.instruction.IsaFault.TheVariants as isa
use Rattle.machine_spec.specs.Image.{Program}
use Rattle.verifier_spec.specs.{Loading.IsAccepted, Loading.IsRefusedWith, declared.fault.LoadFault.LoadFault}
use Rattle.verifier_spec.specs.declared.fault.Check.TheVariants as check
use Rattle.verifier_spec.specs.declared.fault.LoadFault.TheVariants.{Isa, Verify}
use Rattle.commands.specs.declared.{image.Refused.Refused, status.Status.Status}
use Rattle.commands.specs.declared.image.Refused.TheVariants as refused
use Rattle.commands.specs.declared.status.Status.TheVariants as exit

-- as much of a file as is read of a program, which is more than the greatest image has
abbrev pub first_bytes : List ℕ → List ℕ
first_bytes bytes = take 0x800000 bytes

-- `accepted N instructions`
abbrev pub accepted_line : ℕ → List ℕ
accepted_line count = codes "accepted " ++ (decimal count ++ (codes " instructions" ++ 10 ∷ []))

-- a program is not loaded since memory ran out
abbrev pub RanOut : LoadFault → Type 0
RanOut (Isa fault) = fault ≡ isa.Memory
RanOut (Verify reported) = reported.kind ≡ check.Memory

-- A program is refused with its fault; nothing is said where memory ran out.
abbrev pub IsRefusal : Program → Refused → Type 0
IsRefusal program (refused.Image fault) = IsRefusedWith program fault
IsRefusal program refused.Memory = Unit {0}

-- What `check` prints of a program, seen by view: how many instructions its code has, where that has an annotation.
abbrev pub ChecksAs : {X : Type 0} → Program → (X → List ℕ) → Result X Refused → Type 0
ChecksAs program view (Ok text) = (accepted : IsAccepted program)
    × (view text ≡ accepted_line (length accepted.code))
ChecksAs program view (Err reported) = IsRefusal program reported

-- a program is accepted, and standard output gets its line
pub record PrintsAccepted (program : Program) (status : Status) (before after : Option (List ℕ)) : Type 0 where
  pub accepted : IsAccepted program
  pub status_is : status ≡ exit.Done
  pub printed : Appends before after (accepted_line (length accepted.code))

-- a program is refused with its fault, and standard output gets nothing
pub record PrintsNone (program : Program) (status : Status) (before after : Option (List ℕ)) : Type 0 where
  pub fault : LoadFault
  pub refused : IsRefusedWith program fault
  pub status_is : status ≡ exit.Refused
  pub kept : after ≡ before

-- A call that verifies a program ends with this status, which is `Failed` where a file, standard output or memory
-- failed.
abbrev pub PrintsCheck : Program → Status → Option (List ℕ) → Option (List ℕ) → Type 0
PrintsCheck program status before after =
    (status ≡ exit.Failed) ⊎ (PrintsAccepted program status before after ⊎ PrintsNone program status before after)
