-- The checks of an instruction, in the order in which they are reported.
use Rattle.std.specs.Prelude.{ℕ, zero, suc, ◌+◌, ◌^◌, ℤ, pos, ◌+ℤ◌, neg_ℤ, Bool, true, false, ◌==◌, ◌&&◌, ◌||◌, not}
use Rattle.std.specs.Prelude.{nat_lt, nat_le, int_lt, int_le, if◌then◌else◌, List, [], ◌∷◌, length, Option, Some, None}
use Rattle.std.specs.Prelude.{is_some, is_none, unsigned_abs}
use Rattle.std.specs.{List.list_any, Ordering.int_eq}
use Rattle.machine_spec.specs.declared.{limits.TheConstants.STACK_SIZE, helper.Helper.Helper, helper.Argument.Argument}
use Rattle.machine_spec.specs.declared.{operation.Width.Width, operation.Operation.Operation, instruction.Region.Region}
use Rattle.machine_spec.specs.declared.{instruction.Size.Size, instruction.Source.Source}
use Rattle.machine_spec.specs.declared.{instruction.Instruction.Instruction, instruction.Placed.Placed}
use Rattle.machine_spec.specs.declared.{summary.Operands.Operands, summary.Direction.Direction}
use Rattle.machine_spec.specs.declared.{summary.MemoryOperand.MemoryOperand, summary.Condition.Condition}
use Rattle.machine_spec.specs.declared.{summary.Summary.Summary, operation.Width.TheVariants.Bits64}
use Rattle.machine_spec.specs.declared.instruction.Source.TheVariants.{Register, Immediate}
use Rattle.machine_spec.specs.{Summaries.summary_of, Image.target_of, Arithmetic.signed}
use Rattle.machine_spec.specs.Values.{immediate, moves_address, is_subtraction, byte_count}
use Rattle.machine_spec.specs.Traps.{writes_frame, calls_no_helper, helper_called, arguments_of, read_registers}
use Rattle.machine_spec.specs.Traps.{is_read, is_stack, first_of}
use Rattle.verifier_spec.specs.{declared.interval.Interval.Interval, declared.state.Abs.Abs}
use Rattle.verifier_spec.specs.{declared.state.StackSet.StackSet, declared.state.Abstract.Abstract}
use Rattle.verifier_spec.specs.{declared.fault.Check.Check, StackSets.is_set}
use Rattle.verifier_spec.specs.Kinds.{kind_at, length_range, range_of, is_unknown, is_number_kind, is_address_kind}
use Rattle.verifier_spec.specs.Kinds.{furthest, same_region}

-- the kind of a second operand: a register's, or the one number that an immediate is
abbrev pub source_kind : Abstract → Width → Source → Abs
source_kind s width (Register r) = kind_at s r
source_kind s width (Immediate imm) = Abs.Num (immediate width imm) (immediate width imm)

-- an instruction reads a register that may have no value
abbrev pub reads_unknown : Summary → Abstract → Bool
reads_unknown m s = list_any (λ r. is_unknown (kind_at s r)) (read_registers m)

-- ---- kinds

-- Numbers that are all below 2^63, or none of them: so that read as signed they are in order.
abbrev pub is_one_sign : Interval → Bool
is_one_sign range = nat_lt range.high (2 ^ 63) || nat_le (2 ^ 63) range.low

-- the least and the greatest of the displacements that an operation makes of numbers of one sign
abbrev pub least_displacement : Operation → Interval → ℤ
least_displacement operation range =
    if is_subtraction operation then neg_ℤ (signed Bits64 range.high) else signed Bits64 range.low

abbrev pub greatest_displacement : Operation → Interval → ℤ
greatest_displacement operation range =
    if is_subtraction operation then neg_ℤ (signed Bits64 range.low) else signed Bits64 range.high

-- an address from low to high, moved by any of the numbers, stays in its range
abbrev pub can_move : Operation → ℤ → ℤ → Option Interval → Bool
can_move operation low high (Some range) =
    is_one_sign range
    && (int_le (neg_ℤ (pos furthest)) (low +ℤ least_displacement operation range)
    && int_le (high +ℤ greatest_displacement operation range) (pos furthest))
can_move operation low high None = false

-- what an operation takes: numbers, or an address and a number that moves it and can't take it out of its range
abbrev pub can_compute_kinds : Abstract → Width → Operation → Abs → Abs → Bool
can_compute_kinds s width operation Abs.None b = false
can_compute_kinds s width operation (Abs.Num _ _) b = is_number_kind b
can_compute_kinds s width operation (Abs.Len _) b = is_number_kind b
can_compute_kinds s width operation (Abs.Addr _ low high) b = moves_address width operation
    && can_move operation low high (range_of s b)

-- an instruction may not take the kinds of its operands, or of what its condition compares, and the base of its load or
-- store may be no address
abbrev pub has_wrong_kinds : Operands → Abstract → Bool
has_wrong_kinds (Operands.Number width source) s = not (is_number_kind (source_kind s width source))
has_wrong_kinds (Operands.Computed width operation dst source) s =
    not (can_compute_kinds s width operation (kind_at s dst) (source_kind s width source))
has_wrong_kinds _ s = false

abbrev pub has_wrong_base_kind : Option MemoryOperand → Abstract → Bool
has_wrong_base_kind (Some m) s = not (is_address_kind (kind_at s m.base))
has_wrong_base_kind None s = false

abbrev pub has_wrong_condition_kind : Option Condition → Abstract → Bool
has_wrong_condition_kind (Some c) s =
    not (is_number_kind (kind_at s c.dst) && is_number_kind (source_kind s c.width c.source))
has_wrong_condition_kind None s = false

-- ---- memory

-- The bytes that an instruction may read or write: `size` bytes from some place from low to high.
pub record Reach : Type 0 where
  pub direction : Direction
  pub region : Region
  pub low : ℤ
  pub high : ℤ
  pub size : ℕ

-- those of an access at an offset from a base of a kind; of a base that is no address, none
abbrev pub reach_at : Direction → Abs → ℤ → Size → Option Reach
reach_at direction (Abs.Addr region lo hi) offset size =
    Some (record {
      direction = direction;
      region = region;
      low = lo +ℤ offset;
      high = hi +ℤ offset;
      size = byte_count size;
    })
reach_at direction _ offset size = None

-- those of an instruction's load or store in a state
abbrev pub reach_of : Option MemoryOperand → Abstract → Option Reach
reach_of (Some m) s = reach_at m.direction (kind_at s m.base) m.offset m.size
reach_of None s = None

-- all of them lie in the first `len` bytes of their region
abbrev pub is_reach_within : Reach → ℕ → Bool
is_reach_within reach len = int_le (pos 0) reach.low && int_le (reach.high +ℤ pos reach.size) (pos len)

-- they are written, and in the key or the value
abbrev pub may_write_record : Option Reach → Bool
may_write_record (Some reach) = not (is_read reach.direction) && not (is_stack reach.region)
may_write_record None = false

-- they may lie outside the key or the value, by its least length
abbrev pub may_leave_record : Abstract → Option Reach → Bool
may_leave_record s (Some reach) =
    if is_stack reach.region then false else not (is_reach_within reach (length_range s reach.region).min)
may_leave_record s None = false

-- they may lie outside the stack
abbrev pub may_leave_stack : Option Reach → Bool
may_leave_stack (Some reach) = if is_stack reach.region then not (is_reach_within reach STACK_SIZE) else false
may_leave_stack None = false

-- `count` places from one on are all in the set
abbrev pub are_set : StackSet → ℕ → ℕ → Bool
are_set set place zero = true
are_set set place (suc count) = is_set set place && are_set set (place + 1) count

-- how many places there are from low up to high and `size` bytes more, where low is at least 0 and high at least low
abbrev pub reach_length : Reach → ℕ
reach_length reach = unsigned_abs (reach.high +ℤ neg_ℤ reach.low) + reach.size

-- they are read, and on the stack, where one may not be set
abbrev pub may_read_unset : Abstract → Option Reach → Bool
may_read_unset s (Some reach) = if is_read reach.direction
    && is_stack reach.region then not (are_set s.set (unsigned_abs reach.low) (reach_length reach)) else false
may_read_unset s None = false

-- ---- calls and the exit

-- the bytes that an address and a number of these kinds may name
abbrev pub named_reach : Direction → Abs → Option Interval → Option Reach
named_reach direction (Abs.Addr region lo hi) (Some range) =
    Some (record { direction = direction; region = region; low = lo; high = hi; size = range.high })
named_reach direction _ _ = None

-- they may lie outside what is known of their region, or not be set, or not be named at all
abbrev pub may_name_wrongly : Abstract → Option Reach → Bool
may_name_wrongly s (Some reach) =
    (may_leave_record s (Some reach) || may_leave_stack (Some reach)) || may_read_unset s (Some reach)
may_name_wrongly s None = true

-- an address and a number name exactly the key or the value
abbrev pub is_whole : Abs → Abs → Bool
is_whole (Abs.Addr region lo hi) (Abs.Len other) = same_region region other && (int_eq lo (pos 0) && int_eq hi (pos 0))
is_whole _ _ = false

-- room may be no byte at all, not be on the stack or pass its end
abbrev pub may_be_wrong_room : Option Reach → Option Interval → Bool
may_be_wrong_room (Some reach) (Some range) =
    range.low == 0 || (may_write_record (Some reach) || may_leave_stack (Some reach))
may_be_wrong_room _ _ = true

-- an argument may not be what it must be
abbrev pub is_wrong_argument_kind : Abstract → Argument → Bool
is_wrong_argument_kind s Argument.Nothing = false
is_wrong_argument_kind s (Argument.Number r) = not (is_number_kind (kind_at s r))
is_wrong_argument_kind s (Argument.Bytes address count) =
    not (is_whole (kind_at s address) (kind_at s count))
    && may_name_wrongly s (named_reach Direction.Read (kind_at s address) (range_of s (kind_at s count)))
is_wrong_argument_kind s (Argument.Room address count) =
    may_be_wrong_room (named_reach Direction.Write (kind_at s address) (range_of s (kind_at s count)))
    (range_of s (kind_at s count))

-- one of the arguments of the helper that is called may not be
abbrev pub may_call_wrongly : Option ℤ → Abstract → Bool
may_call_wrongly call s = list_any (is_wrong_argument_kind s) (arguments_of (helper_called call))

-- r0 may be no number at the exit
abbrev pub may_exit_wrongly : Bool → Abstract → Bool
may_exit_wrongly true s = not (is_number_kind (kind_at s 0))
may_exit_wrongly false s = false

-- ---- which check

-- the checks of an instruction in their order, each with the test whether it fails
abbrev pub checks : List Helper → Summary → Abstract → List (Bool × Check)
checks helpers m s =
    (writes_frame m.writes, Check.Frame)
    ∷ (calls_no_helper helpers m.call, Check.Helper)
    ∷ (reads_unknown m s, Check.Unset)
    ∷ (has_wrong_kinds m.takes s, Check.WrongType)
    ∷ (has_wrong_base_kind m.memory s, Check.WrongType)
    ∷ (has_wrong_condition_kind m.condition s, Check.WrongType)
    ∷ (may_write_record (reach_of m.memory s), Check.ReadOnly)
    ∷ (may_leave_record s (reach_of m.memory s), Check.RecordBounds)
    ∷ (may_leave_stack (reach_of m.memory s), Check.StackBounds)
    ∷ (may_read_unset s (reach_of m.memory s), Check.StackUnset)
    ∷ (may_call_wrongly m.call s, Check.HelperArg)
    ∷ (may_exit_wrongly m.exits s, Check.Exit)
    ∷ []

-- the first check that fails in a program with a helper table, if one does
unfoldable pub failed_check : List Helper → Instruction → Abstract → Option Check
failed_check helpers i s = first_of (checks helpers (summary_of i) s)

-- ---- the checks of every instruction, reached or not

-- the distance of an instruction's jump, if it is one
abbrev pub jump_of : Instruction → Option ℤ
jump_of i = (summary_of i).jump

-- a jump forward whose target is outside the image or the second slot of a wide instruction
abbrev pub leads_nowhere : List Placed → ℕ → Option ℤ → Bool
leads_nowhere code slot (Some offset) =
    if int_lt offset (pos 0) then false else is_none (target_of code slot (Some offset))
leads_nowhere code slot None = false

-- a jump back
abbrev pub leads_back : Option ℤ → Bool
leads_back (Some offset) = int_lt offset (pos 0)
leads_back None = false

-- EXIT or a jump without a condition: the next instruction does not follow on it
abbrev pub never_falls : Summary → Bool
never_falls m = m.exits || (is_some m.jump && is_none m.condition)

-- instruction number k is the last one and neither
abbrev pub runs_off : List Placed → ℕ → Summary → Bool
runs_off code k m = (k + 1 == length code) && not (never_falls m)

-- the checks of instruction number k that ask nothing of a state, in their order
abbrev pub shape_checks : List Placed → ℕ → Placed → List (Bool × Check)
shape_checks code k placed =
    (leads_nowhere code placed.slot (jump_of placed.instruction), Check.JumpTarget)
    ∷ (leads_back (jump_of placed.instruction), Check.BackJump)
    ∷ (runs_off code k (summary_of placed.instruction), Check.RunsOff)
    ∷ []
