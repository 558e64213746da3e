-- An address that is moved stays in its range.
use Rattle.std.proofs.Common.{◌≡◌, ◌≤◌, true, Some, pos, neg_ℤ, ◌+ℤ◌, ◌≤ℤ◌, ℤ, arith, FitsSigned}
use Rattle.std.proofs.{lemmas.Bool.and_parts, lemmas.Int.ints, lemmas.Int.to_z-of_z}
use Rattle.std.specs.Int.{w64, cast_signed, cast_unsigned}
use Rattle.machine_spec.specs.declared.{operation.Operation.Operation, instruction.Region.Region}
use Rattle.verifier_spec.specs.{declared.interval.Interval.Interval, Kinds.is_proper_kind, Kinds.furthest}
use Rattle.verifier_spec.specs.Transfer.{moved_address}
use Rattle.verifier_spec.specs.declared.state.Abs.TheVariants as abs
use Rattle.verifier_spec.specs.Checks.{least_displacement, greatest_displacement, can_move}
use Rattle.verifier_spec.proofs.{Proper.addr_order, Sums.moved_proper, Whole.le_z-true}

-- the ends of an address after a move
pub record Bounds (operation : Operation) (low high : ℤ) (range : Interval) : Type 0 where
  pub from : neg_ℤ (pos furthest) ≤ℤ (low +ℤ least_displacement operation range)
  pub order : (low +ℤ least_displacement operation range) ≤ℤ (high +ℤ greatest_displacement operation range)
  pub to : (high +ℤ greatest_displacement operation range) ≤ℤ pos furthest

pub moved_kind_proper : (operation : Operation) (region : Region) (low high : ℤ) (range : Interval) →
    is_proper_kind (abs.Addr region low high) ≡ true → range.low ≤ range.high →
    can_move operation low high (Some range) ≡ true →
    is_proper_kind (moved_address operation region low high (Some range)) ≡ true
moved_kind_proper operation region low high range proper ordered can =
    moved_proper operation region low high range can (addr_order region low high proper) ordered

pub moved_bounds : (operation : Operation) (region : Region) (low high : ℤ) (range : Interval) →
    is_proper_kind (abs.Addr region low high) ≡ true → range.low ≤ range.high →
    can_move operation low high (Some range) ≡ true → Bounds operation low high range
moved_bounds operation region low high range proper ordered can =
    let p = and_parts _ _ (moved_kind_proper operation region low high range proper ordered can) in
    let q = and_parts _ _ p.1 in
    record { from = le_z-true _ _ p.0; order = le_z-true _ _ q.0; to = le_z-true _ _ q.1 }

-- such ends as 64 bits
pub ends_proper : (region : Region) (low high : ℤ) → neg_ℤ (pos furthest) ≤ℤ low → low ≤ℤ high → high ≤ℤ pos furthest →
    is_proper_kind (abs.Addr region (cast_signed w64 (cast_unsigned w64 low))
    (cast_signed w64 (cast_unsigned w64 high))) ≡ true
ends_proper region low high from order to =
    let first : FitsSigned w64 low = omega (arith, ints) in
    let last : FitsSigned w64 high = omega (arith, ints) in
    rw (to_z-of_z w64 low first, to_z-of_z w64 high last) (grind (arith, ints))
