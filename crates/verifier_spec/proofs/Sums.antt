-- Operations on words against operations on kinds.
use Rattle.std.proofs.Common.{◌≡◌, ℕ, ◌^◌, ◌≤◌, ℤ, pos, ◌+ℤ◌, neg_ℤ, ◌≤ℤ◌, true, refl, arith, Some}
use Rattle.std.proofs.lemmas.{Bool.and_parts, Bool.and_from, Int.ints}
use Rattle.machine_spec.specs.declared.{operation.Width.Width, operation.Operation.Operation, operation.Change.Change}
use Rattle.machine_spec.specs.declared.instruction.Region.{Region}
use Rattle.machine_spec.specs.{Machine.Input, Arithmetic.signed, Arithmetic.changed_bits}
use Rattle.machine_spec.specs.declared.operation.Width.TheVariants.{Bits32, Bits64}
use Rattle.machine_spec.specs.declared.operation.SwappedWidth.TheVariants as swapped
use Rattle.machine_spec.specs.declared.operation.Change.TheVariants.{Negate, Order, SignExtend}
use Rattle.machine_spec.specs.Values.{Value, Nothing, Number, Address, moves_address, displacement, moved_value}
use Rattle.machine_spec.specs.Values.{result_of, changed_value}
use Rattle.verifier_spec.specs.declared.{interval.Interval.Interval, state.Abs.Abs, state.Abstract.Abstract}
use Rattle.verifier_spec.specs.declared.state.Abs.TheVariants as abs
use Rattle.verifier_spec.specs.Intervals.{from_to, IsIn, IsPartOf, IsRangeOf, cut_to_width, result_range, changed_range}
use Rattle.verifier_spec.specs.Kinds.{range_of, furthest, is_number_kind, is_proper_kind}
use Rattle.verifier_spec.specs.{States.is_proper, StandsFor.HasKind, StandsFor.HasLengths}
use Rattle.verifier_spec.specs.Checks.{is_one_sign, least_displacement, greatest_displacement, can_move}
use Rattle.verifier_spec.specs.Checks.{can_compute_kinds}
use Rattle.verifier_spec.specs.Transfer.{numbers, on_ranges, moved_address, moved_kind, computed_kind, changed_kind}
use Rattle.verifier_spec.proofs.ComputedRanges.{result_in, result_proper, changed_in, changed_proper}
use Rattle.verifier_spec.proofs.{Values.IsNumber, Values.at_number, ComputedRanges.cut_has, ComputedRanges.cut_range}
use Rattle.verifier_spec.proofs.Proper.{addr_order, proper_range, HasRange, range_at}
use Rattle.verifier_spec.proofs.Whole.{le-le_z, le_trans_z, add_le}
use Rattle.machine_spec.proofs.Results.{limit_le}

-- ---- displacements

-- read as signed, numbers on one side of 2^63 are in order
one_sign_le : (range : Interval) (m n : ℕ) → is_one_sign range ≡ true → range.low ≤ m → m ≤ n → n ≤ range.high →
    signed Bits64 m ≤ℤ signed Bits64 n
one_sign_le range m n h low m_n high = grind (arith, ints)

-- of a part of numbers of one sign, the least displacement is not smaller, and the greatest not greater
module _ (operation : Operation) (x range : Interval) (sign : is_one_sign range ≡ true) (order : x.low ≤ x.high)
    (part : IsPartOf x range) where
  low_le : signed Bits64 range.low ≤ℤ signed Bits64 x.low
  low_le = one_sign_le range range.low x.low sign (omega arith) part.low (omega arith)

  high_le : signed Bits64 x.high ≤ℤ signed Bits64 range.high
  high_le = one_sign_le range x.high range.high sign (omega arith) part.high (omega arith)

  pub least_part : least_displacement operation range ≤ℤ least_displacement operation x
  least_part = let low = low_le in let high = high_le in grind (arith, ints)

  pub greatest_part : greatest_displacement operation x ≤ℤ greatest_displacement operation range
  greatest_part = let low = low_le in let high = high_le in grind (arith, ints)

-- the displacement by a number lies between them
module _ (operation : Operation) (range : Interval) (n : ℕ) (sign : is_one_sign range ≡ true) (has : IsIn n range) where
  displacement_low : least_displacement operation range ≤ℤ displacement operation n
  displacement_low = least_part operation (from_to n n) range sign (omega arith) (assumption has)

  displacement_high : displacement operation n ≤ℤ greatest_displacement operation range
  displacement_high = greatest_part operation (from_to n n) range sign (omega arith) (assumption has)

displacements_order : (operation : Operation) (range : Interval) → is_one_sign range ≡ true → range.low ≤ range.high →
    least_displacement operation range ≤ℤ greatest_displacement operation range
displacements_order operation range sign order =
    let has : IsIn range.low range = record { low = omega arith; high = order } in
    le_trans_z _ _ _ (displacement_low operation _ _ sign has) (displacement_high operation _ _ sign has)

-- what an address moved by a number keeps
pub record Moved (operation : Operation) (low high : ℤ) (range : Interval) : Type 0 where
  pub sign : is_one_sign range ≡ true
  pub from : neg_ℤ (pos furthest) ≤ℤ (low +ℤ least_displacement operation range)
  pub to : (high +ℤ greatest_displacement operation range) ≤ℤ pos furthest

pub moved_parts : (operation : Operation) (low high : ℤ) (range : Interval) →
    can_move operation low high (Some range) ≡ true → Moved operation low high range
moved_parts operation low high range h =
    record { sign = grind arith; from = grind (arith, ints); to = grind (arith, ints) }

moved_in : (input : Input) (operation : Operation) (at : Region) (low high offset : ℤ) (range : Interval) (n : ℕ) →
    can_move operation low high (Some range) ≡ true → low ≤ℤ offset → offset ≤ℤ high → IsIn n range →
    HasKind input (moved_address operation at low high (Some range)) (Address at (offset +ℤ displacement operation n))
moved_in input operation at low high offset range n can low_le le_high has =
    let sign = (moved_parts operation low high range can).sign in (
      refl,
      add_le _ _ _ _ low_le (displacement_low operation range n sign has),
      add_le _ _ _ _ le_high (displacement_high operation range n sign has),
    )

pub moved_proper : (operation : Operation) (at : Region) (low high : ℤ) (range : Interval) →
    can_move operation low high (Some range) ≡ true → low ≤ℤ high → range.low ≤ range.high →
    is_proper_kind (moved_address operation at low high (Some range)) ≡ true
moved_proper operation at low high range can le order =
    let m = moved_parts operation low high range can in
    and_from _ _ (le-le_z _ _ m.from) (and_from _ _ (le-le_z _ _
    (add_le _ _ _ _ le (displacements_order operation range m.sign order))) (le-le_z _ _ m.to))

pub number_if_moves : (a : Abstract) (operation : Operation) (low high : ℤ) (k : Abs) →
    can_move operation low high (range_of a k) ≡ true → is_number_kind k ≡ true
number_if_moves a operation low high (abs.Num lo hi) h = refl
number_if_moves a operation low high (abs.Len r) h = refl
number_if_moves a operation low high k h = cc

-- ---- numbers

range_64 : (width : Width) (range : Interval) → IsRangeOf width range → IsRangeOf Bits64 range
range_64 width range h = record { order = h.order; limited = omega (arith, h.limited, limit_le width) }

changed_le : (change : Change) → 2 ^ changed_bits change ≤ 2 ^ 64
changed_le (Order order swapped.Bits16) = omega arith
changed_le (Order order width) = omega arith
changed_le (Negate width) = limit_le width
changed_le (SignExtend width part) = limit_le width

pub changed_64 : (change : Change) (range : Interval) → IsRangeOf Bits64 range →
    IsRangeOf Bits64 (changed_range change range)
changed_64 change range h =
    let c = changed_proper change range h in
    record { order = c.order; limited = omega (arith, c.limited, changed_le change) }

pub result_64 : (width : Width) (operation : Operation) (x y : Interval) → IsRangeOf Bits64 x → IsRangeOf Bits64 y →
    IsRangeOf Bits64 (result_range width operation x y)
result_64 width operation x y p q =
    range_64 width (result_range width operation x y) (result_proper width operation x y p q)

pub cut_64 : (x : Interval) → IsRangeOf Bits64 x → IsRangeOf Bits64 (cut_to_width Bits32 x)
cut_64 x p = range_64 Bits32 (cut_to_width Bits32 x) (cut_range Bits32 x p)

numbers_proper : (range : Interval) → IsRangeOf Bits64 range → is_proper_kind (numbers range) ≡ true
numbers_proper range h = grind arith

numbers_hold : (input : Input) (range : Interval) (n : ℕ) → IsIn n range → HasKind input (numbers range) (Number n)
numbers_hold input range n h = (h.low, h.high)

-- ---- any operation that a kind allows

module _ (input : Input) (a : Abstract) (l : HasLengths input a) (p : is_proper a ≡ true) where
  two_numbers : (width : Width) (operation : Operation) (j k : Abs) (x y : Value) → is_proper_kind j ≡ true →
      is_proper_kind k ≡ true → IsNumber a j x → IsNumber a k y →
      HasKind input (on_ranges width operation (range_of a j) (range_of a k)) (result_of width operation x y)
  two_numbers width operation j k x y pj pk m n =
      rw (m.is, n.is, m.ranged, n.ranged) (numbers_hold input _ _
      (result_in width operation m.range n.range m.n n.n (proper_range a _ _ p pj m.ranged)
      (proper_range a _ _ p pk n.ranged) m.has n.has))

  address_and_number : (width : Width) (operation : Operation) (at : Region) (low high : ℤ) (k : Abs) (x y : Value) →
      moves_address width operation ≡ true → can_move operation low high (range_of a k) ≡ true →
      HasKind input (abs.Addr at low high) x → IsNumber a k y →
      HasKind input (moved_address operation at low high (range_of a k)) (result_of width operation x y)
  address_and_number width operation at low high k Nothing y moves can h n = absurd h
  address_and_number width operation at low high k (Number m) y moves can h n = absurd h
  address_and_number width operation at low high k (Address r offset) y moves can h n =
      let can' : can_move operation low high (Some n.range) ≡ true = rw n.ranged at can in
      rw (n.is, n.ranged, ← h.0, moves) (moved_in input operation at low high offset n.range n.n can' h.1 h.2 n.has)

  -- what an operation makes of words is of the kind that it makes of their kinds
  pub compute_holds : (width : Width) (operation : Operation) (j k : Abs) (x y : Value) → is_proper_kind j ≡ true →
      is_proper_kind k ≡ true → can_compute_kinds a width operation j k ≡ true → HasKind input j x → HasKind input k y →
      HasKind input (computed_kind a width operation j k) (result_of width operation x y)
  compute_holds width operation abs.None k x y pj pk can hx hy = cc
  compute_holds width operation (abs.Addr r lo hi) k x y pj pk can hx hy =
      let c = and_parts _ _ can in
      address_and_number width operation r lo hi k x y c.0 c.1 hx
      (at_number input a k y l (number_if_moves a operation _ _ _ c.1) hy)
  compute_holds width operation j k x y pj pk can hx hy =
      two_numbers width operation j k x y pj pk (at_number input a j x l refl hx) (at_number input a k y l can hy)

  -- so is a move of the low half of a number
  pub move_holds : (k : Abs) (x : Value) → is_number_kind k ≡ true → HasKind input k x →
      HasKind input (moved_kind a Bits32 k) (moved_value Bits32 x)
  move_holds k x number h =
      let n = at_number input a k x l number h in
      rw (n.is, n.ranged) (numbers_hold input _ _ (cut_has Bits32 n.range n.n n.has))

  -- and a change
  pub change_holds : (change : Change) (k : Abs) (x : Value) → is_proper_kind k ≡ true → is_number_kind k ≡ true →
      HasKind input k x → HasKind input (changed_kind a change k) (changed_value change x)
  change_holds change k x pk number h =
      let n = at_number input a k x l number h in
      rw (n.is, n.ranged) (numbers_hold input _ _
      (changed_in change n.range n.n (proper_range a _ _ p pk n.ranged) n.has))

-- ---- the ranges of what an operation makes

module _ (a : Abstract) (p : is_proper a ≡ true) where
  ranges_proper : (width : Width) (operation : Operation) (j k : Abs) → HasRange a j → HasRange a k →
      is_proper_kind (on_ranges width operation (range_of a j) (range_of a k)) ≡ true
  ranges_proper width operation j k m n =
      rw (m.is, n.is) (numbers_proper _ (result_64 width operation m.range n.range m.proper n.proper))

  pub compute_proper : (width : Width) (operation : Operation) (j k : Abs) → is_proper_kind j ≡ true →
      is_proper_kind k ≡ true → can_compute_kinds a width operation j k ≡ true →
      is_proper_kind (computed_kind a width operation j k) ≡ true
  compute_proper width operation abs.None k pj pk can = cc
  compute_proper width operation (abs.Addr r lo hi) k pj pk can =
      let c = and_parts _ _ can in
      let n = range_at a k p pk (number_if_moves a operation lo hi k c.1) in
      let can' : can_move operation lo hi (Some n.range) ≡ true = rw n.is at c.1 in
      rw n.is (moved_proper operation r lo hi n.range can' (addr_order r lo hi pj) n.proper.order)
  compute_proper width operation j k pj pk can =
      ranges_proper width operation j k (range_at a j p pj refl) (range_at a k p pk can)

  pub move_proper : (k : Abs) → is_proper_kind k ≡ true → is_number_kind k ≡ true →
      is_proper_kind (moved_kind a Bits32 k) ≡ true
  move_proper k pk number = let n = range_at a k p pk number in rw n.is (numbers_proper _ (cut_64 _ n.proper))

  pub change_proper : (change : Change) (k : Abs) → is_proper_kind k ≡ true → is_number_kind k ≡ true →
      is_proper_kind (changed_kind a change k) ≡ true
  change_proper change k pk number = let n = range_at a k p pk number in
      rw n.is (numbers_proper _ (changed_64 change n.range n.proper))
