-- What usually leads to a refusal: by the kinds that are found, what the instruction does, and which bytes are missing.
use Rattle.std.specs.Prelude.{ℕ, ◌+◌, ◌^◌, ℤ, pos, ◌+ℤ◌, neg_ℤ, Bool, ◌==◌, ◌&&◌, ◌||◌, not, nat_lt, nat_le, int_lt}
use Rattle.std.specs.Prelude.{int_le, if◌then◌else◌, List, Option, Some, None, is_some, slice_get}
use Rattle.std.specs.{Int.int_min, Int.int_max, Option.option_or}
use Rattle.wire_spec.specs.declared.limits.TheConstants.{MAX_KEY, MAX_VALUE}
use Rattle.machine_spec.specs.declared.{limits.TheConstants.STACK_SIZE, instruction.Region.Region, helper.Table.Table}
use Rattle.machine_spec.specs.declared.{instruction.Placed.Placed, summary.Summary.Summary}
use Rattle.machine_spec.specs.{Image.helpers_of, Machine.helper_among, Summaries.summary_of, Traps.is_stack}
use Rattle.verifier_spec.specs.declared.{interval.Interval.Interval, state.Abs.Abs, state.StackSet.StackSet}
use Rattle.verifier_spec.specs.declared.{state.Abstract.Abstract, fault.VerifyFault.VerifyFault}
use Rattle.verifier_spec.specs.{Kinds.length_range, Kinds.range_of, Annotation.Claims, Annotation.claim_at}
use Rattle.explain.specs.declared.{reason.Reached.Reached, reason.Reason.Reason, hint.Hint.Hint}
use Rattle.explain.specs.{Reasons.first_below, Reasons.is_unset_in, Loops.back_hint, Meetings.lost_hint}

-- ---- kinds

-- where a number is used as an address; the places of an object's globals and constants are small
abbrev pub address_hint : Abs → Option Hint
address_hint Abs.None = None
address_hint (Abs.Num low high) = if nat_lt high (2 ^ 32) then Some Hint.Global else Some Hint.NoPointer
address_hint (Abs.Len region) = Some Hint.Length
address_hint (Abs.Addr region low high) = None

-- where an address is used as a number, by what the instruction does
abbrev pub number_hint : Summary → Option Hint
number_hint m =
    if is_some m.condition then Some Hint.Compared else
    if is_some m.memory then Some Hint.Spilled else
    if is_some m.call || m.exits then None else Some Hint.Computed

-- ---- helpers

-- where a helper is called that the program's table lacks and table two has
abbrev pub helper_hint : ℤ → Option Hint
helper_hint number = if is_some (helper_among (helpers_of Table.Two) number) then Some Hint.TableTwo else None

-- ---- bytes of a region

-- how many bytes a region has at most
abbrev pub limit : Region → ℕ
limit Region.Stack = STACK_SIZE
limit Region.Key = MAX_KEY
limit Region.Value = MAX_VALUE

-- the first of the bytes that a region may lack, which is known to have as many
abbrev pub first_missing : Reached → ℕ → ℤ
first_missing bytes known = int_min (int_max bytes.first (pos known)) bytes.last

-- the bytes are not all among those that their region may have
abbrev pub leaves_region : Reached → Bool
leaves_region bytes = int_lt bytes.first (pos 0) || int_le (pos (limit bytes.region)) bytes.last

-- those before the region, or else those past its end
abbrev pub no_bytes : Reached → Hint
no_bytes bytes =
    if int_lt bytes.first (pos 0)
    then Hint.NoBytes bytes.region bytes.first (int_min bytes.last (neg_ℤ (pos 1)))
    else Hint.NoBytes bytes.region (int_max bytes.first (pos (limit bytes.region))) bytes.last

-- a test of the length helps where it leaves more than the greatest keys or values
abbrev pub record_hint : Reached → ℕ → Hint
record_hint bytes known =
    if int_lt bytes.first (pos 0) then no_bytes bytes else
    if int_le (pos (limit bytes.region) +ℤ neg_ℤ (pos 1)) bytes.last then Hint.Far bytes.region bytes.last else
    Hint.Missing bytes.region (first_missing bytes known) bytes.last

-- ---- the stack

-- a place is the last of those from one on that are among the bytes and may not be set
abbrev pub ends_unset : StackSet → Reached → ℕ → ℕ → Bool
ends_unset set bytes first place = nat_le first place && not (is_unset_in set bytes (place + 1))

-- the places from one to a last one, which may not be set; none where there is no last one
abbrev pub unset_to : ℕ → Option ℕ → Option Hint
unset_to first (Some last) = Some (Hint.Unset first last)
unset_to first None = None

-- the places from one on that are among the bytes and may not be set
abbrev pub unset_from : StackSet → Reached → Option ℕ → Option Hint
unset_from set bytes (Some first) = unset_to first (first_below STACK_SIZE (ends_unset set bytes first))
unset_from set bytes None = None

-- of bytes on the stack: those before it or past its end, or else the first of them that may not be set, with those
-- right after it that may not be set either; none where all are set
abbrev pub stack_hint : StackSet → Reached → Option Hint
stack_hint set bytes = if leaves_region bytes then Some (no_bytes bytes) else unset_from set bytes
    (first_below STACK_SIZE (is_unset_in set bytes))

-- ---- arguments of a call

-- the bytes that an address and a number name
abbrev pub named_bytes : ℕ → Abs → Option Interval → Option Reached
named_bytes address (Abs.Addr region low high) (Some range) =
    Some (record {
      base = address;
      kind = Abs.Addr region low high;
      region = region;
      first = low;
      last = (high +ℤ pos range.high) +ℤ neg_ℤ (pos 1);
    })
named_bytes address _ _ = None

-- where a helper reads them
abbrev pub bytes_hint : Abstract → Option Reached → Option Hint
bytes_hint s (Some bytes) = if is_stack bytes.region then stack_hint s.set bytes else Some
    (record_hint bytes (length_range s bytes.region).min)
bytes_hint s None = None

-- where a helper writes them, as many as a number of these
abbrev pub room_hint : Reached → Interval → Hint
room_hint bytes range = if not (is_stack bytes.region) then Hint.Room else if range.low == 0 then Hint.NoRoom else
    no_bytes bytes

-- the same where the bytes and their number are known; else none
abbrev pub room_hint_of : Option Reached → Option Interval → Option Hint
room_hint_of (Some bytes) (Some range) = Some (room_hint bytes range)
room_hint_of _ _ = None

-- ---- by what the refusal is about

-- what usually leads to a refusal of an instruction in a state, by what it is about; none where nothing is said of that
abbrev pub hint_of : Abstract → Summary → Reason → Option Hint
hint_of s m (Reason.NoHelper number) = helper_hint number
hint_of s m (Reason.NoNumber _ _) = number_hint m
hint_of s m (Reason.NoAddress _ kind) = address_hint kind
hint_of s m (Reason.NoSign _ _ _) = Some Hint.Unbounded
hint_of s m (Reason.TooFar _ _ _ _) = Some Hint.Unbounded
hint_of s m (Reason.ReadOnly _) = Some Hint.ReadOnly
hint_of s m (Reason.OutsideRecord bytes known) = Some (record_hint bytes known)
hint_of s m (Reason.OutsideStack bytes) = Some (no_bytes bytes)
hint_of s m (Reason.UnsetByte bytes place) = unset_from s.set bytes (Some place)
hint_of s m (Reason.WrongBytes address kind _ count) = bytes_hint s (named_bytes address kind (range_of s count))
hint_of s m (Reason.WrongRoom address kind _ count) =
    room_hint_of (named_bytes address kind (range_of s count)) (range_of s count)
hint_of s m _ = None

-- the same where it is known what the refusal is about; else none
abbrev pub hint_with : Abstract → Summary → Option Reason → Option Hint
hint_with s m (Some reason) = hint_of s m reason
hint_with s m None = None

-- the same with the state before the instruction; none where it is not reached
abbrev pub hint_where : Placed → Option Abstract → Option Reason → Option Hint
hint_where placed (Some s) reason = hint_with s (summary_of placed.instruction) reason
hint_where placed None reason = None

-- Of a fault at an instruction of a program: of a jump back whether it closes a loop, of a register that may hold
-- nothing where it was lost, and else by what the fault is about.
abbrev pub placed_hint : Table → List Placed → Claims → ℕ → Option Reason → Option Placed → Option Hint
placed_hint table code claims pc reason (Some placed) =
    option_or (option_or (back_hint code pc (Some placed)) (lost_hint table code claims pc reason))
    (hint_where placed (claim_at claims pc) reason)
placed_hint table code claims pc reason None = None

-- what usually leads to a fault of code with these states that has this reason; none where nothing is said of it
abbrev pub hint_at : Table → List Placed → Claims → VerifyFault → Option Reason → Option Hint
hint_at table code claims fault reason = placed_hint table code claims fault.pc reason (slice_get code fault.pc)
