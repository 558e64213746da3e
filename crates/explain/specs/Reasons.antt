-- What a refusal is about: the register that a check asks for something else of, the bytes that an access may reach.
use Rattle.std.specs.Prelude.{ℕ, zero, suc, ℤ, pos, ◌+ℤ◌, neg_ℤ, Bool, ◌&&◌, not, int_le, if◌then◌else◌, List, Option}
use Rattle.std.specs.Prelude.{Some, None, option_map, unwrap_or, find, slice_get}
use Rattle.std.specs.Option.{option_or}
use Rattle.machine_spec.specs.declared.{limits.TheConstants.STACK_SIZE, instruction.Source.Source}
use Rattle.machine_spec.specs.declared.{instruction.Placed.Placed, operation.Width.Width, operation.Operation.Operation}
use Rattle.machine_spec.specs.declared.{helper.Argument.Argument, summary.Operands.Operands}
use Rattle.machine_spec.specs.declared.{summary.MemoryOperand.MemoryOperand, summary.Condition.Condition}
use Rattle.machine_spec.specs.declared.summary.Summary.{Summary}
use Rattle.machine_spec.specs.declared.instruction.Source.TheVariants.{Register, Immediate}
use Rattle.machine_spec.specs.Summaries.{summary_of}
use Rattle.machine_spec.specs.Values.{moves_address}
use Rattle.machine_spec.specs.Traps.{helper_called, arguments_of, read_registers}
use Rattle.verifier_spec.specs.declared.{interval.Interval.Interval, state.Abs.Abs, state.StackSet.StackSet}
use Rattle.verifier_spec.specs.declared.{state.Abstract.Abstract, fault.Check.Check, fault.VerifyFault.VerifyFault}
use Rattle.verifier_spec.specs.Kinds.{kind_at, length_range, range_of, is_unknown, is_number_kind, is_address_kind}
use Rattle.verifier_spec.specs.Checks.{source_kind, is_one_sign, least_displacement, greatest_displacement, Reach}
use Rattle.verifier_spec.specs.Checks.{reach_of, are_set, is_wrong_argument_kind}
use Rattle.verifier_spec.specs.Annotation.{Claims, claim_at}
use Rattle.explain.specs.declared.{reason.Reached.Reached, reason.Reason.Reason}

-- ---- jumps

-- the slot that a jump at a slot leads to
abbrev pub landing_slot : ℕ → ℤ → ℤ
landing_slot slot offset = (pos slot +ℤ pos 1) +ℤ offset

-- the slot that an instruction's jump leads to; none where it does not jump
abbrev pub landing_of : Placed → Option ℤ
landing_of placed = option_map (landing_slot placed.slot) (summary_of placed.instruction).jump

-- ---- kinds

-- the first register that is read and of which nothing is known
abbrev pub unknown_register : Summary → Abstract → Option ℕ
unknown_register m s = find (λ r. is_unknown (kind_at s r)) (read_registers m)

-- a register that is no number
abbrev pub no_number : Abstract → ℕ → Option Reason
no_number s r = if is_number_kind (kind_at s r) then None else Some (Reason.NoNumber r (kind_at s r))

-- a register that is no address
abbrev pub no_address : Abstract → ℕ → Option Reason
no_address s r = if is_address_kind (kind_at s r) then None else Some (Reason.NoAddress r (kind_at s r))

-- a source that is no number; an immediate always is one
abbrev pub no_number_source : Abstract → Source → Option Reason
no_number_source s (Register r) = no_number s r
no_number_source s (Immediate _) = None

-- a register's number that moves an address and whose sign is not settled; an immediate's always is
abbrev pub no_sign : Abstract → ℕ → Source → Option Reason
no_sign s dst (Register r) = Some (Reason.NoSign dst r (kind_at s r))
no_sign s dst (Immediate _) = None

-- why a source can't move the address in a register: its sign is not settled, it moves it too far, or it is no number
abbrev pub wrong_move : Abstract → Operation → ℕ → Source → Option Interval → Option Reason
wrong_move s operation dst source (Some range) =
    if is_one_sign range
    then Some (Reason.TooFar dst (kind_at s dst) (least_displacement operation range)
    (greatest_displacement operation range))
    else no_sign s dst source
wrong_move s operation dst source None = no_number_source s source

-- what an operation can't take: an address that it doesn't move, another address, a number that moves it wrongly
abbrev pub wrong_operand : Abstract → Width → Operation → ℕ → Source → Abs → Option Reason
wrong_operand s width operation dst source (Abs.Addr region low high) =
    if moves_address width operation then wrong_move s operation dst source (range_of s (source_kind s width source))
    else no_number s dst
wrong_operand s width operation dst source Abs.None = no_number s dst
wrong_operand s width operation dst source (Abs.Num low high) = no_number_source s source
wrong_operand s width operation dst source (Abs.Len region) = no_number_source s source

-- what an instruction can't take of its operands: a source that is no number, or what its operation can't take; none
-- where it takes any value, or nothing
abbrev pub wrong_operands : Operands → Abstract → Option Reason
wrong_operands Operands.Nothing s = None
wrong_operands (Operands.Any _) s = None
wrong_operands (Operands.Number width source) s = no_number_source s source
wrong_operands (Operands.Computed width operation dst source) s =
    wrong_operand s width operation dst source (kind_at s dst)

-- the base of a load or a store that is no address; none where there is no load or store
abbrev pub wrong_base : Option MemoryOperand → Abstract → Option Reason
wrong_base (Some m) s = no_address s m.base
wrong_base None s = None

-- the first register that a condition compares and that is no number; none where there is no condition
abbrev pub wrong_condition : Option Condition → Abstract → Option Reason
wrong_condition (Some c) s = option_or (no_number s c.dst) (no_number_source s c.source)
wrong_condition None s = None

-- in the order of the checks
abbrev pub wrong_type : Summary → Abstract → Option Reason
wrong_type m s = option_or (wrong_operands m.takes s)
    (option_or (wrong_base m.memory s) (wrong_condition m.condition s))

-- ---- memory

-- the bytes that an access may reach, from the first to the last
abbrev pub reached_by : MemoryOperand → Abs → Option Reach → Option Reached
reached_by m kind (Some reach) =
    Some (record {
      base = m.base;
      kind = kind;
      region = reach.region;
      first = reach.low;
      last = (reach.high +ℤ pos reach.size) +ℤ neg_ℤ (pos 1);
    })
reached_by m kind None = None

-- the bytes that an instruction may load or store in a state; none where it does neither, or its base is no address
abbrev pub reached_bytes : Option MemoryOperand → Abstract → Option Reached
reached_bytes (Some m) s = reached_by m (kind_at s m.base) (reach_of (Some m) s)
reached_bytes None s = None

-- bytes that the key or the value may lack, with how many bytes it has at least in a state
abbrev pub outside_record : Abstract → Reached → Reason
outside_record s bytes = Reason.OutsideRecord bytes (length_range s bytes.region).min

-- the least number below one that passes a test
unfoldable pub first_below : ℕ → (ℕ → Bool) → Option ℕ
first_below zero test = None
first_below (suc n) test = option_or (first_below n test) (if test n then Some n else None)

-- a stack place is among the bytes and may not be set
abbrev pub is_unset_in : StackSet → Reached → ℕ → Bool
is_unset_in set bytes place = int_le bytes.first (pos place)
    && (int_le (pos place) bytes.last && not (are_set set place 1))

-- the first of some bytes on the stack that may not be set; none where all are set, or there are no such bytes
abbrev pub unset_byte : StackSet → Option Reached → Option Reason
unset_byte set (Some bytes) = option_map (Reason.UnsetByte bytes) (first_below STACK_SIZE (is_unset_in set bytes))
unset_byte set None = None

-- ---- calls

-- no address or no number
abbrev pub wrong_pair : Abstract → ℕ → ℕ → Option Reason
wrong_pair s address count =
    if not (is_address_kind (kind_at s address)) then Some (Reason.NoAddress address (kind_at s address))
    else if not (is_number_kind (kind_at s count)) then Some (Reason.NoNumber count (kind_at s count))
    else None

-- or bytes that may not be there or not be set
abbrev pub wrong_bytes : Abstract → ℕ → ℕ → Reason
wrong_bytes s address count = unwrap_or (wrong_pair s address count)
    (Reason.WrongBytes address (kind_at s address) count (kind_at s count))

-- or room that may have no byte or not lie on the stack
abbrev pub wrong_room : Abstract → ℕ → ℕ → Reason
wrong_room s address count = unwrap_or (wrong_pair s address count)
    (Reason.WrongRoom address (kind_at s address) count (kind_at s count))

-- why a helper can't take an argument, as no number, no bytes or no room; none where there is no argument
abbrev pub wrong_argument : Abstract → Option Argument → Option Reason
wrong_argument s (Some (Argument.Number r)) = Some (Reason.NoNumber r (kind_at s r))
wrong_argument s (Some (Argument.Bytes address count)) = Some (wrong_bytes s address count)
wrong_argument s (Some (Argument.Room address count)) = Some (wrong_room s address count)
wrong_argument s (Some Argument.Nothing) = None
wrong_argument s None = None

-- the first argument that may not be what it must be
abbrev pub first_wrong_argument : Summary → Abstract → Option Argument
first_wrong_argument m s = find (is_wrong_argument_kind s) (arguments_of (helper_called m.call))

-- ---- by check

-- of an instruction that may be unreached
abbrev pub shape_reason : Placed → Check → Option Reason
shape_reason placed Check.JumpTarget = option_map Reason.NoTarget (landing_of placed)
shape_reason placed Check.BackJump = option_map Reason.Back (landing_of placed)
shape_reason placed Check.RunsOff = Some Reason.Last
shape_reason placed _ = None

-- of one that is reached, in a state
abbrev pub state_reason : Placed → Summary → Abstract → Check → Option Reason
state_reason placed m s Check.JumpTarget = shape_reason placed Check.JumpTarget
state_reason placed m s Check.BackJump = shape_reason placed Check.BackJump
state_reason placed m s Check.RunsOff = shape_reason placed Check.RunsOff
state_reason placed m s Check.Frame = Some Reason.Frame
state_reason placed m s Check.Helper = option_map Reason.NoHelper m.call
state_reason placed m s Check.Unset = option_map Reason.Unknown (unknown_register m s)
state_reason placed m s Check.WrongType = wrong_type m s
state_reason placed m s Check.ReadOnly = option_map Reason.ReadOnly (reached_bytes m.memory s)
state_reason placed m s Check.RecordBounds = option_map (outside_record s) (reached_bytes m.memory s)
state_reason placed m s Check.StackBounds = option_map Reason.OutsideStack (reached_bytes m.memory s)
state_reason placed m s Check.StackUnset = unset_byte s.set (reached_bytes m.memory s)
state_reason placed m s Check.HelperArg = wrong_argument s (first_wrong_argument m s)
state_reason placed m s Check.Exit = Some (Reason.NoNumber 0 (kind_at s 0))
state_reason placed m s Check.Memory = None
state_reason placed m s Check.Notes = None

-- what a check that an instruction fails is about, in the state before it or where it is not reached
abbrev pub reason_of : Placed → Option Abstract → Check → Option Reason
reason_of placed (Some s) check = state_reason placed (summary_of placed.instruction) s check
reason_of placed None check = shape_reason placed check

-- the same where there is an instruction; else none
abbrev pub placed_reason : Option Placed → Option Abstract → Check → Option Reason
placed_reason (Some placed) known check = reason_of placed known check
placed_reason None known check = None

-- what a fault of code with these states is about
abbrev pub reason_at : List Placed → Claims → VerifyFault → Option Reason
reason_at code claims fault = placed_reason (slice_get code fault.pc) (claim_at claims fault.pc) fault.kind
