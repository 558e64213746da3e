-- A state without a trap reads no byte that is not there.
use Rattle.std.proofs.Common.{◌≡◌, ℕ, zero, suc, ◌+◌, ◌<◌, ◌≤◌, ℤ, pos, ◌≤ℤ◌, Bool, true, false, not, ◌&&◌}
use Rattle.std.proofs.Common.{if◌then◌else◌, nat_lt, nat_le, int_lt, List, [], ◌∷◌, length, slice_get, Option, Some}
use Rattle.std.proofs.Common.{None, is_none, is_some, IsSome, unsigned_abs, refl, sym, ap, subst, ◌∙◌, ⊎_elim, arith}
use Rattle.std.specs.List.{list_any}
use Rattle.std.proofs.lemmas.Bool.{and_parts, or_parts, leb-true, not-false, not-true, false≢true}
use Rattle.std.proofs.lemmas.Option.{same_Some, none-some, slice_get-get_or}
use Rattle.std.proofs.lemmas.Int.{ints}
use Rattle.machine_spec.specs.{declared.instruction.Instruction.Instruction, declared.instruction.Region.Region}
use Rattle.machine_spec.specs.{declared.limits.TheConstants.STACK_SIZE, declared.helper.Argument.Argument}
use Rattle.machine_spec.specs.{declared.summary.Direction.TheVariants.Write, Summaries.summary_of}
use Rattle.machine_spec.specs.declared.instruction.Region.TheVariants as region
use Rattle.machine_spec.specs.declared.instruction.Trap.TheVariants as trap
use Rattle.machine_spec.specs.Values.{Value, Nothing, Number, Address}
use Rattle.machine_spec.specs.Image.{Program, slot_count, form_at}
use Rattle.machine_spec.specs.Machine.{Input, State, Access, access_of, named_access, byte_in, bytes_of, length_of}
use Rattle.machine_spec.specs.Traps.{is_in_region, is_stack, is_read, has_unset, leaves_record, leaves_stack}
use Rattle.machine_spec.specs.Traps.{reads_unset, helper_called, arguments_of, names_wrongly, is_wrong_argument}
use Rattle.machine_spec.specs.Traps.{calls_wrongly, first_of, traps, trap_of, trap_at}
use Rattle.machine_spec.specs.declared.helper.Argument.TheVariants as argument
use Rattle.machine_spec.proofs.{FirstOf.none_hold, Helpers.names_parts}
use Rattle.log_item.specs.Programs.{argument_access, ReadsWithin}

-- a byte of a list that is long enough
has_byte : (bytes : List ℕ) (k : ℕ) → k < length bytes → IsSome (slice_get bytes k)
has_byte bytes k below = ap is_some (slice_get-get_or bytes k 0 below)

there : (byte : Option ℕ) → is_none byte ≡ false → IsSome byte
there (Some b) h = refl
there None h = absurd (false≢true (sym h))

-- where none is unset, each is set
set_at : (stack : ℕ → Option ℕ) (from count place : ℕ) → has_unset stack from count ≡ false → place < count →
    IsSome (stack (from + place))
set_at stack from zero place h below = absurd (omega arith)
set_at stack from (suc count) zero h below =
    let here : from ≡ from + 0 = omega arith in
    let p = or_parts (is_none (stack from)) (has_unset stack (from + 1) count) h in
    subst (λ (k : ℕ). IsSome (stack k)) here (there (stack from) p.0)
set_at stack from (suc count) (suc place) h below =
    let next : (from + 1) + place ≡ from + suc place = omega arith in
    let p = or_parts (is_none (stack from)) (has_unset stack (from + 1) count) h in
    subst (λ (k : ℕ). IsSome (stack k)) next (set_at stack (from + 1) count place p.1 (omega arith))

from_zero : (start : ℤ) → int_lt start (pos 0) ≡ false → pos 0 ≤ℤ start
from_zero start h = grind (arith, ints)

-- bytes within a length
pub record AreWithin (start : ℤ) (size len : ℕ) : Type 0 where
  pub start_is : pos 0 ≤ℤ start
  pub end_is : unsigned_abs start + size ≤ len

within : (start : ℤ) (size len : ℕ) → not (is_in_region start size len) ≡ false → AreWithin start size len
within start size len h =
    let p = and_parts (not (int_lt start (pos 0))) (nat_le (unsigned_abs start + size) len)
    (not-false (is_in_region start size len) h) in
    record {
      start_is = from_zero start (not-true (int_lt start (pos 0)) p.0);
      end_is = leb-true (unsigned_abs start + size) len p.1;
    }

module _ (input : Input) (stack : ℕ → Option ℕ) (start : ℤ) (size place : ℕ) (below : place < size) where
  in_record : (bytes : List ℕ) → not (is_in_region start size (length bytes)) ≡ false →
      (pos 0 ≤ℤ start) × IsSome (slice_get bytes (unsigned_abs start + place))
  in_record bytes h =
      let w = within start size (length bytes) h in
      (w.start_is, has_byte bytes (unsigned_abs start + place) (omega (arith, w.end_is, below)))

  in_region : (r : Region) (reads : Bool) → reads ≡ true
      → (if is_stack r then false else not (is_in_region start size (length_of input r))) ≡ false
      → (if is_stack r then not (is_in_region start size STACK_SIZE) else false) ≡ false
      → (if reads && is_stack r then has_unset stack (unsigned_abs start) size else false) ≡ false
      → (pos 0 ≤ℤ start) × IsSome (byte_in input stack r (unsigned_abs start + place))
  in_region r false is inside on_stack set = absurd (false≢true is)
  in_region region.Stack true is inside on_stack set =
      ((within start size STACK_SIZE on_stack).start_is, set_at stack (unsigned_abs start) size place set below)
  in_region region.Key true is inside on_stack set = in_record (bytes_of input.given.key) inside
  in_region region.Value true is inside on_stack set = in_record (bytes_of input.given.value) inside

-- the conditions on the bytes of an access
pub record IsInside (input : Input) (s : State) (a : Option Access) : Type 0 where
  pub inside : leaves_record input a ≡ false
  pub on_stack : leaves_stack a ≡ false
  pub set : reads_unset s.stack a ≡ false

access_inside : (input : Input) (s : State) (o : Option Access) (a : Access) (place : ℕ) → IsInside input s o →
    o ≡ Some a → is_read a.direction ≡ true → place < a.size →
    (pos 0 ≤ℤ a.start) × IsSome (byte_in input s.stack a.region (unsigned_abs a.start + place))
access_inside input s o a place h e reads below =
    let is = subst (λ (access : Option Access). IsInside input s access) e h in
    in_region input s.stack a.start a.size place below a.region (is_read a.direction) reads is.inside is.on_stack is.set

-- a test that fails of each element fails of one
element_fails : (p : Argument → Bool) (xs : List Argument) (k : ℕ) (x : Argument) → list_any p xs ≡ false →
    slice_get xs k ≡ Some x → p x ≡ false
element_fails p [] k x h e = absurd (none-some x e)
element_fails p (y ∷ ys) zero x h e = subst (λ z. p z ≡ false) (same_Some y x e) (or_parts (p y) (list_any p ys) h).0
element_fails p (y ∷ ys) (suc k) x h e = element_fails p ys k x (or_parts (p y) (list_any p ys) h).1 e

-- room is not read
room_unread : (address count : Value) (a : Access) → named_access Write address count ≡ Some a →
    is_read a.direction ≡ true → ⊥
room_unread (Address at start) (Number n) a e reads =
    false≢true (ap (λ (b : Access). is_read b.direction) (same_Some _ a e) ∙ reads)
room_unread (Address at start) Nothing a e reads = none-some a e
room_unread (Address at start) (Address other there) a e reads = none-some a e
room_unread Nothing count a e reads = none-some a e
room_unread (Number n) count a e reads = none-some a e

-- bytes that an argument names rightly
argument_inside : (input : Input) (s : State) (x : Argument) (a : Access) → is_wrong_argument input s x ≡ false →
    argument_access s.registers x ≡ Some a → is_read a.direction ≡ true → IsInside input s (Some a)
argument_inside input s argument.Nothing a h e reads = absurd (none-some a e)
argument_inside input s (argument.Number r) a h e reads = absurd (none-some a e)
argument_inside input s (argument.Room address count) a h e reads =
    absurd (room_unread (s.registers address) (s.registers count) a e reads)
argument_inside input s (argument.Bytes address count) a h e reads =
    let parts = names_parts input s.stack a (subst (λ (o : Option Access). names_wrongly input s.stack o ≡ false) e
    h) in
    record { inside = parts.0; on_stack = parts.1; set = parts.2 }

module _ (program : Program) (input : Input) (s : State) (free : trap_at program input s ≡ None) where
  no_traps : (i : Instruction) → form_at program.image s.slot ≡ Some i →
      first_of (traps program input (summary_of i) s) ≡ None
  unfolding trap_at
  no_traps i form = from (nat_lt s.slot (slot_count program.image)) (form_at program.image s.slot) form free
    where
      from : (b : Bool) (o : Option Instruction) → o ≡ Some i →
          (if b then trap_of program input o s else Some trap.RanOff) ≡ None →
          first_of (traps program input (summary_of i) s) ≡ None
      from true (Some j) f e = subst (λ x. first_of (traps program input (summary_of x) s) ≡ None) (same_Some j i f) e
      from true None f e = absurd (none-some i f)
      from false o f e = absurd (none-some trap.RanOff (sym e))

  pub reads_within : ReadsWithin program input s
  reads_within i a place form access reads below =
      let none = none_hold (traps program input (summary_of i) s) (no_traps i form) in
      let inside : IsInside input s (access_of (summary_of i).memory s.registers) = record {
        inside = none.1.1.1.1.1.1.1.0;
        on_stack = none.1.1.1.1.1.1.1.1.0;
        set = none.1.1.1.1.1.1.1.1.1.0;
      } in
      let named_access : calls_wrongly input (summary_of i).call s ≡ false = none.1.1.1.1.1.1.1.1.1.1.0 in
      ⊎_elim
      (λ memory. access_inside input s (access_of (summary_of i).memory s.registers) a place inside memory reads below)
      (λ argument.
      let right = element_fails (is_wrong_argument input s) (arguments_of (helper_called (summary_of i).call))
      argument.0 argument.1 named_access argument.2 in
      access_inside input s (Some a) a place (argument_inside input s argument.1 a right argument.3 reads) refl reads
      below)
      access
