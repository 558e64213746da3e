-- What an instruction makes of an abstract state, along each of its edges.
use Rattle.std.specs.Prelude.{ℕ, ◌-◌, ◌*◌, ◌^◌, ℤ, ◌+ℤ◌, Bool, true, false, ◌&&◌, if◌then◌else◌, List, ◌∷◌, slice_set}
use Rattle.std.specs.Prelude.{Option, Some, None, unsigned_abs}
use Rattle.std.specs.{Ordering.int_eq, List.fold}
use Rattle.machine_spec.specs.declared.{operation.Width.Width, operation.Operation.Operation, operation.Change.Change}
use Rattle.machine_spec.specs.declared.{operation.Test.Test, instruction.Region.Region, instruction.Size.Size}
use Rattle.machine_spec.specs.declared.{instruction.Extension.Extension, instruction.Source.Source}
use Rattle.machine_spec.specs.declared.{instruction.Instruction.Instruction, helper.Helper.Helper}
use Rattle.machine_spec.specs.declared.{helper.Argument.Argument, summary.Condition.Condition}
use Rattle.machine_spec.specs.declared.summary.Direction.TheVariants.{Write}
use Rattle.machine_spec.specs.declared.operation.Width.TheVariants.{Bits32, Bits64}
use Rattle.machine_spec.specs.declared.instruction.Extension.TheVariants.{Zero, Sign}
use Rattle.machine_spec.specs.declared.instruction.Source.TheVariants.{Register, Immediate}
use Rattle.machine_spec.specs.declared.instruction.Instruction.TheVariants.{Move, Compute, Load, Unary, Store, JumpIf}
use Rattle.machine_spec.specs.declared.instruction.Instruction.TheVariants.{Jump, Wide, Call, Exit}
use Rattle.machine_spec.specs.{Summaries.summary_of, Values.immediate, Values.byte_count, Machine.signature_of}
use Rattle.machine_spec.specs.{Machine.helper_of, Traps.is_stack}
use Rattle.verifier_spec.specs.declared.{interval.Interval.Interval, state.Abs.Abs, state.Range.Range}
use Rattle.verifier_spec.specs.declared.{state.StackSet.StackSet, state.Abstract.Abstract}
use Rattle.verifier_spec.specs.Intervals.{from_to, cut_to_width, result_range, changed_range, narrowed_interval}
use Rattle.verifier_spec.specs.{StackSets.with_places, Ranges.lengths_from_to, Kinds.kind_at, Kinds.range_of}
use Rattle.verifier_spec.specs.Checks.{source_kind, least_displacement, greatest_displacement, Reach, reach_at}

-- a register's kind changed
abbrev pub with_kind : Abstract → ℕ → Abs → Abstract
with_kind s r kind = record s { registers = slice_set s.registers r kind }

-- ---- arithmetic

-- the numbers of an interval
abbrev pub numbers : Interval → Abs
numbers range = Abs.Num range.low range.high

-- what a function of intervals makes of a kind's numbers
abbrev pub on_range : (Interval → Interval) → Option Interval → Abs
on_range f (Some range) = numbers (f range)
on_range f None = Abs.None

-- what an operation makes of the numbers of two kinds
abbrev pub on_ranges : Width → Operation → Option Interval → Option Interval → Abs
on_ranges width operation (Some a) (Some b) = numbers (result_range width operation a b)
on_ranges width operation _ _ = Abs.None

-- an address moved by a number that is read as signed
abbrev pub moved_address : Operation → Region → ℤ → ℤ → Option Interval → Abs
moved_address operation region low high (Some range) =
    Abs.Addr region (low +ℤ least_displacement operation range) (high +ℤ greatest_displacement operation range)
moved_address operation region low high None = Abs.None

-- a move of 64 bits moves any value, and one of 32 bits the low half of a number
abbrev pub moved_kind : Abstract → Width → Abs → Abs
moved_kind s Bits64 kind = kind
moved_kind s Bits32 kind = on_range (cut_to_width Bits32) (range_of s kind)

-- an operation on two kinds that it takes; what it makes of lengths or numbers is a number
abbrev pub computed_kind : Abstract → Width → Operation → Abs → Abs → Abs
computed_kind s width operation Abs.None b = Abs.None
computed_kind s width operation (Abs.Num lo hi) b =
    on_ranges width operation (range_of s (Abs.Num lo hi)) (range_of s b)
computed_kind s width operation (Abs.Len region) b =
    on_ranges width operation (range_of s (Abs.Len region)) (range_of s b)
computed_kind s width operation (Abs.Addr region low high) b = moved_address operation region low high (range_of s b)

-- a change of a number or a length is a number
abbrev pub changed_kind : Abstract → Change → Abs → Abs
changed_kind s change kind = on_range (changed_range change) (range_of s kind)

-- ---- memory

-- what a load gives: a number of its size; one that is sign-extended may be any
abbrev pub loaded_kind : Size → Extension → Abs
loaded_kind size Zero = Abs.Num 0 (2 ^ (8 * byte_count size) - 1)
loaded_kind size Sign = Abs.Num 0 (2 ^ 64 - 1)

-- a store at one known place of the stack sets its bytes; any other changes nothing that is known
abbrev pub with_stored : StackSet → Option Reach → StackSet
with_stored set (Some reach) = if is_stack reach.region
    && int_eq reach.low reach.high then with_places set (unsigned_abs reach.low) reach.size else set
with_stored set None = set

-- ---- conditional jumps by a constant

-- the range of a region's lengths changed; the stack's stays
abbrev pub with_lengths : Abstract → Region → Range → Abstract
with_lengths s Region.Stack range = s
with_lengths s Region.Key range = record s { key = range }
with_lengths s Region.Value range = record s { value = range }

-- The state along an edge, by what it leaves of a register's numbers, or none: a number takes the new interval; a
-- length stays one, and its region's range has the new ends.
abbrev pub with_range : Abstract → ℕ → Abs → Option Interval → Option Abstract
with_range s r kind None = None
with_range s r (Abs.Num _ _) (Some range) = Some (with_kind s r (numbers range))
with_range s r (Abs.Len region) (Some range) = Some (with_lengths s region (lengths_from_to range.low range.high))
with_range s r _ (Some range) = Some s

-- what a jump by a constant leaves of a kind's numbers
abbrev pub narrowed_range : Width → Test → Bool → Option Interval → ℕ → Option Interval
narrowed_range width test taken (Some range) c = narrowed_interval width test taken range c
narrowed_range width test taken None c = Some (from_to 0 0)

-- the state along an edge of a conditional jump; a test against a register says nothing
abbrev pub state_after_test : Abstract → Width → Test → Bool → ℕ → Source → Option Abstract
state_after_test s width test taken dst (Register _) = Some s
state_after_test s width test taken dst (Immediate imm) =
    with_range s dst (kind_at s dst) (narrowed_range width test taken (range_of s (kind_at s dst))
    (immediate width imm))

-- the state along the edge of a jump whose condition is met
abbrev pub met_edge : Option Condition → Abstract → Option Abstract
met_edge (Some c) s = state_after_test s c.width c.test true c.dst c.source
met_edge None s = Some s

-- ---- calls

-- what a helper returns: a number to its greatest
abbrev pub answer_kind : Helper → Abs
answer_kind helper = Abs.Num 0 (signature_of helper).greatest

-- the registers after a call: r0 has the answer, and nothing is known of r1 to r5
abbrev pub after_call_kinds : List Abs → Abs → List Abs
after_call_kinds (_ ∷ _ ∷ _ ∷ _ ∷ _ ∷ _ ∷ kinds) answer = answer ∷ Abs.None ∷ Abs.None ∷ Abs.None ∷ Abs.None ∷ Abs.None
    ∷ kinds
after_call_kinds kinds answer = kinds

-- The set of stack bytes after a helper wrote room, and after what it did to an argument: of room at one known place of
-- the stack, as many bytes as it has at least become set.
abbrev pub with_room : StackSet → Abs → Option Interval → StackSet
with_room set (Abs.Addr region lo hi) (Some range) = if is_stack region
    && int_eq lo hi then with_places set (unsigned_abs lo) range.low else set
with_room set _ _ = set

abbrev pub with_argument : Abstract → StackSet → Argument → StackSet
with_argument s set (Argument.Room address count) = with_room set (kind_at s address) (range_of s (kind_at s count))
with_argument s set _ = set

-- the state after a call of a helper
abbrev pub called_kinds : Option Helper → Abstract → Option Abstract
called_kinds (Some helper) s =
    Some (record s {
      registers = after_call_kinds s.registers (answer_kind helper);
      set = fold (with_argument s) s.set (signature_of helper).arguments;
    })
called_kinds None s = None

-- ---- the two edges

-- Of an instruction whose checks pass: the state at the next instruction, or none where it can't come there.
unfoldable pub falls_to : Instruction → Abstract → Option Abstract
falls_to (Move width dst source) s = Some (with_kind s dst (moved_kind s width (source_kind s width source)))
falls_to (Compute width operation dst source) s =
    Some (with_kind s dst (computed_kind s width operation (kind_at s dst) (source_kind s width source)))
falls_to (Unary change dst src) s = Some (with_kind s dst (changed_kind s change (kind_at s src)))
falls_to (Load size extension dst base offset) s = Some (with_kind s dst (loaded_kind size extension))
falls_to (Store size base offset source) s =
    Some (record s { set = with_stored s.set (reach_at Write (kind_at s base) offset size) })
falls_to (JumpIf width test dst source offset) s = state_after_test s width test false dst source
falls_to (Jump distance) s = None
falls_to (Wide dst number) s = Some (with_kind s dst (Abs.Num number number))
falls_to (Call number) s = called_kinds (helper_of number) s
falls_to Exit s = None

-- the state along the edge of an instruction's jump, or none if it is no jump
abbrev pub jump_edge : Option Condition → Option ℤ → Abstract → Option Abstract
jump_edge condition (Some _) s = met_edge condition s
jump_edge condition None s = None

-- the state at the target of an instruction's jump, or none where it can't come there
unfoldable pub jumps_to : Instruction → Abstract → Option Abstract
jumps_to i s = jump_edge (summary_of i).condition (summary_of i).jump s
