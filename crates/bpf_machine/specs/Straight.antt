-- Forms of instructions as the plain machine's steps distinguish them.
use Rattle.std.specs.Prelude.{◌≡◌, Bool, true, false, Option}
use Rattle.machine_spec.specs.{declared.instruction.Instruction.Instruction, Machine.Access, Traps.writes_record}
use Rattle.machine_spec.specs.Traps.{leaves_stack}
use Rattle.machine_spec.specs.declared.instruction.Instruction.TheVariants.{Move, Compute, Load, Unary, Store, JumpIf}
use Rattle.machine_spec.specs.declared.instruction.Instruction.TheVariants.{Jump, Wide, Call, Exit}

-- bytes that may be written lie in the stack
pub record IsWritable (access : Option Access) : Type 0 where
  pub record_stays : writes_record access ≡ false
  pub in_stack : leaves_stack access ≡ false

-- an instruction that sets a register or bytes of the stack and goes on to the next slot
abbrev pub is_straight : Instruction → Bool
is_straight (Move _ _ _) = true
is_straight (Compute _ _ _ _) = true
is_straight (Load _ _ _ _ _) = true
is_straight (Unary _ _ _) = true
is_straight (Store _ _ _ _) = true
is_straight (JumpIf _ _ _ _ _) = false
is_straight (Jump _) = false
is_straight (Wide _ _) = false
is_straight (Call _) = false
is_straight Exit = false
