-- Code as it is put together: each piece begins at its first instruction and goes on behind its last one.
use Rattle.std.specs.Prelude.{ℕ, pos, List, [], ◌∷◌, ◌++◌, length}
use Rattle.machine_spec.specs.declared.{instruction.Instruction.Instruction, instruction.Source.Source}
use Rattle.machine_spec.specs.declared.{operation.Test.Test, operation.Width.TheVariants.Bits64}
use Rattle.machine_spec.specs.declared.instruction.Instruction.TheVariants.{JumpIf, Exit}

-- instructions each of which leads to the next one; the end of the run; two pieces; a piece that is left out where a
-- register passes a test
pub data Code : Type 0 where
  Plain : List Instruction → Code
  Ends : Code
  Then : (first next : Code) → Code
  Unless : (test : Test) → (register : ℕ) → (source : Source) → (block : Code) → Code

-- the instructions of code
abbrev pub instructions : Code → List Instruction
instructions (Plain list) = list
instructions Ends = Exit ∷ []
instructions (Then first next) = instructions first ++ instructions next
instructions (Unless test register source block) =
    JumpIf Bits64 test register source (pos (length (instructions block))) ∷ instructions block
