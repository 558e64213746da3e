-- What holds between pieces.
use Rattle.std.proofs.Common.{◌≡◌, ℕ, ◌^◌, ◌<◌, pos, List, [], arith}
use Rattle.std.proofs.lemmas.Int.{ints}
use Rattle.wire_spec.specs.declared.record.Header.{Header}
use Rattle.machine_spec.specs.declared.{instruction.Region.Region, limits.TheConstants.STACK_SIZE}
use Rattle.machine_spec.specs.declared.operation.Width.TheVariants.{Bits64}
use Rattle.machine_spec.specs.Values.{Number, Address, immediate}
use Rattle.machine_spec.specs.Machine.{Input, State, Yield, length_of}

-- what a run has that has emitted nothing and added headers
abbrev pub silent : List Header → Yield
silent added = record { emissions = []; added = added }

-- nothing is emitted, headers are added, and r7, r9 and r10 have the value's length, its address and the stack's end
pub record ReadyWith (input : Input) (added : List Header) (s : State) : Type 0 where
  pub none : s.emitted ≡ silent added
  pub length_is : s.registers 7 ≡ Number (length_of input Region.Value)
  pub value_is : s.registers 9 ≡ Address Region.Value (pos 0)
  pub frame_is : s.registers 10 ≡ Address Region.Stack (pos STACK_SIZE)

-- what holds between rules, where no header is added yet
abbrev pub Ready : Input → State → Type 0
Ready input s = ReadyWith input [] s

pub small_immediate : (n : ℕ) → n < 2 ^ 31 → immediate Bits64 (pos n) ≡ n
small_immediate n small = omega (arith, ints)
