-- What appending a line to an image does, whatever the lines after it are.
use Rattle.std.specs.Prelude.{◌≡◌, ℕ, List, length, Option, Result, Err}
use Rattle.machine_spec.specs.declared.instruction.Instruction.{Instruction}
use Rattle.bpf_asm.specs.declared.{fault.LineFault.LineFault, fault.AsmFault.AsmFault}
use Rattle.bpf_asm.specs.{Images.before_bytes, Images.with_line}

-- the image was old before the line with this number and is new after it
pub record IsAdded (number : ℕ) (reading : Result (Option Instruction) LineFault) (old new : List ℕ) : Type 0 where
  pub whatever : (later : ℕ → Result (List ℕ) AsmFault) →
      before_bytes old (with_line number (length old) reading later) ≡ before_bytes new (later (length new))

-- the line with this number is refused with this fault, after lines whose image is old
pub record IsRefused (number : ℕ) (reading : Result (Option Instruction) LineFault) (old : List ℕ)
    (fault : AsmFault) : Type 0 where
  pub whatever : (later : ℕ → Result (List ℕ) AsmFault) → with_line number (length old) reading later ≡ Err fault
