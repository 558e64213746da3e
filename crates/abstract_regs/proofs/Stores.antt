-- Where a store that stays in the stack writes.
use Rattle.std.proofs.Common.{◌≡◌, ◌+◌, ◌^◌, ◌==◌, Some, ◌<◌, ◌≤◌, ℤ, pos, ◌+ℤ◌, true, false, unsigned_abs, arith}
use Rattle.std.specs.Ordering.{int_eq}
use Rattle.std.proofs.lemmas.Bool.{and_parts, or_parts, not-false}
use Rattle.std.proofs.{lemmas.Bool.Decides.Decides-int_eq, lemmas.Int.ints}
use Rattle.machine_spec.specs.{declared.instruction.Region.Region, declared.instruction.Size.Size}
use Rattle.machine_spec.specs.{declared.summary.Direction.TheVariants.Write, Values.byte_count, Traps.is_stack}
use Rattle.machine_spec.specs.declared.instruction.Region.TheVariants as region
use Rattle.machine_spec.specs.declared.instruction.Size.TheVariants as size
use Rattle.verifier_spec.specs.declared.interval.Interval.{Interval}
use Rattle.verifier_spec.specs.declared.state.Abs.TheVariants as abs
use Rattle.verifier_spec.specs.Checks.{reach_at, may_leave_stack, named_reach, may_be_wrong_room}
use Rattle.verifier_spec.proofs.Whole.{le_z-true}

some_byte : (size : Size) → 1 ≤ byte_count size
some_byte size.Byte = omega arith
some_byte size = omega arith

-- at one place it is below the stack's end
pub place_inside : (at : Region) (low high offset : ℤ) (size : Size) → is_stack at ≡ true →
    int_eq (low +ℤ offset) (high +ℤ offset) ≡ true →
    may_leave_stack (reach_at Write (abs.Addr at low high) offset size) ≡ false → unsigned_abs (low +ℤ offset) < 512
place_inside region.Stack low high offset size stack one inside =
    let p = and_parts _ _ (not-false _ inside) in
    let same : (low +ℤ offset) ≡ (high +ℤ offset) = (Decides-int_eq (low +ℤ offset) (high +ℤ offset)).0 one in
    let start = le_z-true (pos 0) (low +ℤ offset) p.0 in
    let end = le_z-true ((high +ℤ offset) +ℤ pos (byte_count size)) (pos 512) p.1 in
    omega (arith, ints, some_byte size)
place_inside at low high offset size stack one inside = cc

-- so does room that a helper writes at one place
pub room_inside : (at : Region) (low high : ℤ) (count : Interval) → is_stack at ≡ true → int_eq low high ≡ true →
    may_be_wrong_room (named_reach Write (abs.Addr at low high) (Some count)) (Some count) ≡ false →
    count.low ≤ count.high → unsigned_abs low + count.low < 2 ^ 64
room_inside region.Stack low high count stack one inside order =
    let t = or_parts (count.low == 0) (may_leave_stack
    (named_reach Write (abs.Addr region.Stack low high) (Some count))) inside in
    let p = and_parts _ _ (not-false _ t.1) in
    let same : low ≡ high = (Decides-int_eq low high).0 one in
    let start = le_z-true (pos 0) low p.0 in
    let end = le_z-true (high +ℤ pos count.high) (pos 512) p.1 in
    omega (arith, ints)
room_inside at low high count stack one inside order = cc
