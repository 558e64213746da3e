-- Where a load may read a stack byte that is not set, one is found among the bytes that it may reach.
use Rattle.std.proofs.Common.{◌≡◌, ℕ, zero, suc, ◌+◌, ◌<◌, ◌≤◌, ℤ, pos, ◌+ℤ◌, neg_ℤ, ◌≤ℤ◌, Bool, true, false, Option}
use Rattle.std.proofs.Common.{Some, None, refl, arith, inl, inr, int_le, unsigned_abs, is_some}
use Rattle.std.proofs.lemmas.{Bool.cases_Bool, Bool.cases_lt, Bool.and_parts, Bool.not-false, Int.ints}
use Rattle.machine_spec.specs.{Values.byte_count, declared.limits.TheConstants.STACK_SIZE}
use Rattle.machine_spec.specs.{declared.instruction.Region.Region, declared.summary.MemoryOperand.MemoryOperand}
use Rattle.verifier_spec.specs.declared.{state.Abs.Abs, state.StackSet.StackSet, state.Abstract.Abstract}
use Rattle.verifier_spec.specs.{StackSets.is_set, Kinds.kind_at, Kinds.is_proper_kind, States.is_proper}
use Rattle.verifier_spec.specs.Checks.{reach_at, reach_of, may_leave_stack, are_set, may_read_unset}
use Rattle.verifier_spec.proofs.{Proper.kind_at_proper, Proper.addr_order, Whole.le_z-true}
use Rattle.explain.specs.declared.{reason.Reached.Reached, reason.Reason.Reason}
use Rattle.explain.specs.Reasons.{reached_by, reached_bytes, first_below, is_unset_in, unset_byte}
use Rattle.explain.proofs.Reasoned.{some_map, some_left, some_right, some_then}

-- ---- a place that is not set

-- one of `count` places from one on that is not set
pub record IsUnsetAmong (set : StackSet) (place count : ℕ) : Type 0 where
  pub at : ℕ
  pub low : place ≤ at
  pub high : at < place + count
  pub unset : is_set set at ≡ false

unset_at : (set : StackSet) (place count : ℕ) → are_set set place count ≡ false → IsUnsetAmong set place count
unset_at set place zero e = cc
unset_at set place (suc count) e = elim (cases_Bool (is_set set place)) [
  | inl here ↦
      let one = unset_at set (place + 1) count (grind arith) in
      record { at = one.at; low = omega arith; high = omega arith; unset = one.unset }
  | inr other ↦ record { at = place; low = omega arith; high = omega arith; unset = other }
]

-- the least number that passes a test is there where one passes it
pub some_below : (test : ℕ → Bool) (n q : ℕ) → test q ≡ true → q < n → is_some (first_below n test) ≡ true
unfolding first_below
some_below test zero q passes below = absurd (omega arith)
some_below test (suc n) q passes below = elim (cases_lt q n) [
  | inl before ↦ some_left (first_below n test) _ (some_below test n q passes before)
  | inr past ↦
      let same : q ≡ n = omega arith in
      some_right (first_below n test) _ (some_then (test n) n (rw same at passes))
]

-- ---- among the bytes that a load may reach

is_unset : (set : StackSet) (bytes : Reached) (q : ℕ) → bytes.first ≤ℤ pos q → pos q ≤ℤ bytes.last →
    is_set set q ≡ false → is_unset_in set bytes q ≡ true
is_unset set bytes q first last unset = grind (arith, ints)

byte_found : (set : StackSet) (bytes : Reached) (low high : ℤ) (size : ℕ) → bytes.first ≡ low →
    bytes.last ≡ (high +ℤ pos size) +ℤ neg_ℤ (pos 1) → low ≤ℤ high → pos 0 ≤ℤ low →
    (high +ℤ pos size) ≤ℤ pos STACK_SIZE → are_set set (unsigned_abs low) (unsigned_abs (high +ℤ neg_ℤ low) + size)
    ≡ false → is_some (first_below STACK_SIZE (is_unset_in set bytes)) ≡ true
byte_found set bytes low high size first last order from to h =
    let one = unset_at set (unsigned_abs low) (unsigned_abs (high +ℤ neg_ℤ low) + size) h in
    some_below (is_unset_in set bytes) 512 one.at
    (is_unset set bytes one.at (omega (arith, ints)) (omega (arith, ints)) one.unset) (omega (arith, ints))

-- ---- by the base of the load

stack_found : (s : Abstract) (m : MemoryOperand) (low high : ℤ) → low ≤ℤ high →
    may_leave_stack (reach_at m.direction (Abs.Addr Region.Stack low high) m.offset m.size) ≡ false →
    may_read_unset s (reach_at m.direction (Abs.Addr Region.Stack low high) m.offset m.size) ≡ true →
    is_some (unset_byte s.set (reached_by m (Abs.Addr Region.Stack low high)
    (reach_at m.direction (Abs.Addr Region.Stack low high) m.offset m.size))) ≡ true
stack_found s m low high order inside e =
    let first = low +ℤ m.offset in
    let last = high +ℤ m.offset in
    let size = byte_count m.size in
    let within : (int_le (pos 0) first ≡ true) × (int_le (last +ℤ pos size) (pos STACK_SIZE) ≡ true) =
    and_parts _ _ (not-false _ inside) in
    let found : are_set s.set (unsigned_abs first) (unsigned_abs (last +ℤ neg_ℤ first) + size) ≡ false = grind arith in
    let bytes : Reached = record {
      base = m.base;
      kind = Abs.Addr Region.Stack low high;
      region = Region.Stack;
      first = first;
      last = (last +ℤ pos size) +ℤ neg_ℤ (pos 1);
    } in
    some_map (Reason.UnsetByte bytes) (first_below STACK_SIZE (is_unset_in s.set bytes))
    (byte_found s.set bytes first last size refl refl (omega (arith, ints)) (le_z-true _ _ within.0)
    (le_z-true _ _ within.1) found)

kind_found : (s : Abstract) (m : MemoryOperand) (kind : Abs) → is_proper_kind kind ≡ true →
    may_leave_stack (reach_at m.direction kind m.offset m.size) ≡ false →
    may_read_unset s (reach_at m.direction kind m.offset m.size) ≡ true →
    is_some (unset_byte s.set (reached_by m kind (reach_at m.direction kind m.offset m.size))) ≡ true
kind_found s m (Abs.Addr Region.Stack low high) proper inside e =
    stack_found s m low high (addr_order Region.Stack low high proper) inside e
kind_found s m (Abs.Addr Region.Key low high) proper inside e = grind arith
kind_found s m (Abs.Addr Region.Value low high) proper inside e = grind arith
kind_found s m kind proper inside e = cc

pub byte_unset : (memory : Option MemoryOperand) (s : Abstract) → is_proper s ≡ true →
    may_leave_stack (reach_of memory s) ≡ false → may_read_unset s (reach_of memory s) ≡ true →
    is_some (unset_byte s.set (reached_bytes memory s)) ≡ true
byte_unset None s proper inside e = cc
byte_unset (Some m) s proper inside e = kind_found s m (kind_at s m.base) (kind_at_proper s m.base proper) inside e
