-- Kinds and ranges of a state that is within another.
use Rattle.std.proofs.Common.{◌≡◌, ℕ, zero, suc, ◌≤◌, ℤ, ◌+ℤ◌, ◌≤ℤ◌, true, false, List, [], ◌∷◌, length, get_or, set}
use Rattle.std.proofs.Common.{Some, refl, sym, ap, ◌∙◌, ⊎_elim, arith}
use Rattle.std.proofs.lemmas.{Int.ints, Bool.and_parts, Bool.and_from, Bool.cases_lt}
use Rattle.machine_spec.specs.{declared.operation.Width.Width, declared.operation.Operation.Operation}
use Rattle.machine_spec.specs.{declared.operation.Change.Change, declared.instruction.Region.Region}
use Rattle.machine_spec.specs.{declared.instruction.Source.Source, Values.immediate, Values.moves_address}
use Rattle.machine_spec.specs.declared.operation.Width.TheVariants.{Bits32, Bits64}
use Rattle.machine_spec.specs.declared.instruction.Region.TheVariants as region
use Rattle.machine_spec.specs.declared.instruction.Source.TheVariants.{Register, Immediate}
use Rattle.verifier_spec.specs.declared.{interval.Interval.Interval, state.Abs.Abs, state.Abstract.Abstract}
use Rattle.verifier_spec.specs.declared.state.Abs.TheVariants as abs
use Rattle.verifier_spec.specs.{Intervals.IsPartOf, Intervals.IsRangeOf, Intervals.result_range, Ranges.lengths_from_to}
use Rattle.verifier_spec.specs.{States.is_proper, Checks.source_kind, Checks.is_one_sign, Checks.least_displacement}
use Rattle.verifier_spec.specs.{Checks.greatest_displacement, Checks.can_move, Checks.can_compute_kinds}
use Rattle.verifier_spec.specs.Kinds.{kind_at, length_range, range_of, is_unknown, is_number_kind, is_address_kind}
use Rattle.verifier_spec.specs.Kinds.{is_proper_kind, is_kind_within, same_region}
use Rattle.verifier_spec.specs.Transfer.{with_kind, numbers, on_ranges, moved_address, moved_kind, computed_kind}
use Rattle.verifier_spec.specs.Transfer.{changed_kind}
use Rattle.verifier_spec.proofs.Order.{IsNarrower, IsWithin, region_is}
use Rattle.verifier_spec.proofs.Proper.{proper_parts, unknown_past, addr_order, proper_range, kind_at_proper}
use Rattle.verifier_spec.proofs.Proper.{source_proper, range_part, range_refl, range_trans}
use Rattle.verifier_spec.proofs.ComputedRanges.{cut_part, result_part, changed_part}
use Rattle.verifier_spec.proofs.Sums.{least_part, greatest_part, moved_parts, number_if_moves}
use Rattle.verifier_spec.proofs.Whole.{le-le_z, le_trans_z, add_le}

-- ---- lengths

-- a kind stays within another where lengths are known better
pub kind_within_narrower : (a c : Abstract) (j k : Abs) → IsNarrower c a → is_kind_within a j k ≡ true →
    is_kind_within c j k ≡ true
kind_within_narrower a c (abs.Len r) (abs.Num lo hi) n h =
    range_trans (length_range c r) (length_range a r) (lengths_from_to lo hi) (n r) h
kind_within_narrower a c j k n h = cc

-- ---- kinds

pub kind_within : (a b : Abstract) → IsWithin a b → is_proper b ≡ true → (r : ℕ) →
    is_kind_within a (kind_at a r) (kind_at b r) ≡ true
kind_within a b w p r =
    ⊎_elim (w.kinds r) (λ past. rw (unknown_past b r p past)) (cases_lt r 11)

pub known_within : (a : Abstract) (j k : Abs) → is_kind_within a j k ≡ true → is_unknown k ≡ false →
    is_unknown j ≡ false
known_within a j k h u = grind arith

-- the numbers of two kinds, of which those of the first are among those of the second
pub record AreRanges (a b : Abstract) (j k : Abs) : Type 0 where
  pub inner : Interval
  pub outer : Interval
  pub inner_is : range_of a j ≡ Some inner
  pub outer_is : range_of b k ≡ Some outer
  pub inner_range : IsRangeOf Bits64 inner
  pub outer_range : IsRangeOf Bits64 outer
  pub part : IsPartOf inner outer

-- two addresses of one region, of which the first is among the second
pub record AreAddresses (j k : Abs) : Type 0 where
  pub at : Region
  pub lo : ℤ
  pub hi : ℤ
  pub low : ℤ
  pub high : ℤ
  pub inner : j ≡ abs.Addr at lo hi
  pub outer : k ≡ abs.Addr at low high
  pub order : lo ≤ℤ hi
  pub from : low ≤ℤ lo
  pub to : hi ≤ℤ high

-- What checks and transfer read of two kinds, of which the first is narrower: where the second is a number, it is a
-- part of that, and where the second is an address, one between its ends.
pub record Narrows (a b : Abstract) (j k : Abs) : Type 0 where
  pub number : is_number_kind k ≡ true → AreRanges a b j k
  pub address : is_address_kind k ≡ true → AreAddresses j k

module _ (a b : Abstract) (n : IsNarrower a b) (pa : is_proper a ≡ true) (pb : is_proper b ≡ true) where
  are_ranges : (j k : Abs) (inner outer : Interval) → is_proper_kind j ≡ true → is_proper_kind k ≡ true →
      range_of a j ≡ Some inner → range_of b k ≡ Some outer → IsPartOf inner outer → AreRanges a b j k
  are_ranges j k inner outer pj pk i o part = record {
    inner = inner;
    outer = outer;
    inner_is = i;
    outer_is = o;
    inner_range = proper_range a j inner pa pj i;
    outer_range = proper_range b k outer pb pk o;
    part = part;
  }

  pub ranges_within : (j k : Abs) → is_proper_kind j ≡ true → is_proper_kind k ≡ true → is_kind_within a j k ≡ true →
      is_number_kind k ≡ true → AreRanges a b j k
  ranges_within j abs.None pj pk h u = cc
  ranges_within (abs.Num l m) (abs.Num lo hi) pj pk h u =
      are_ranges _ _ _ _ pj pk refl refl (range_part _ _ h)
  ranges_within (abs.Len r) (abs.Num lo hi) pj pk h u =
      are_ranges _ _ _ _ pj pk refl refl (range_part _ _ h)
  ranges_within (abs.Len r) (abs.Len q) pj pk h u =
      are_ranges _ _ _ _ pj pk refl refl (range_part _ _ (rw (← region_is r q h) (n r)))
  ranges_within j k pj pk h u = cc

  addresses_within : (j k : Abs) → is_proper_kind j ≡ true → is_kind_within a j k ≡ true → is_address_kind k ≡ true →
      AreAddresses j k
  addresses_within j abs.None q h u = cc
  addresses_within (abs.Addr g lo hi) (abs.Addr r low high) q h u =
      record {
        at = g;
        lo = lo;
        hi = hi;
        low = low;
        high = high;
        inner = refl;
        outer = ap (λ x. abs.Addr x low high) (sym (region_is g r (and_parts _ _ h).0));
        order = addr_order g lo hi q;
        from = grind (arith, ints);
        to = grind (arith, ints);
      }
  addresses_within j k q h u = cc

  pub narrows_within : (j k : Abs) → is_proper_kind j ≡ true → is_proper_kind k ≡ true → is_kind_within a j k ≡ true →
      Narrows a b j k
  narrows_within j k pj pk h =
      record { number = ranges_within j k pj pk h; address = addresses_within j k pj h }

pub same_as_itself : (at : Region) → same_region at at ≡ true
same_as_itself region.Stack = refl
same_as_itself at = refl

-- ---- operations

numbers_within : (a : Abstract) (x y : Interval) → IsPartOf x y → is_kind_within a (numbers x) (numbers y) ≡ true
numbers_within a x y h = grind arith

-- numbers on one side of 2^63 are so in a part of their interval
one_sign_within : (x range : Interval) → is_one_sign range ≡ true → IsPartOf x range → is_one_sign x ≡ true
one_sign_within x range h part = grind arith

module _ (operation : Operation) (lo hi low high : ℤ) (x range : Interval) (p : low ≤ℤ lo) (q : hi ≤ℤ high)
    (order : x.low ≤ x.high) (part : IsPartOf x range)
    (can : can_move operation low high (Some range) ≡ true)
  where
    low_moves : (low +ℤ least_displacement operation range) ≤ℤ (lo +ℤ least_displacement operation x)
    low_moves = add_le _ _ _ _ p (least_part operation x range (moved_parts operation low high range can).sign order
        part)

    high_moves : (hi +ℤ greatest_displacement operation x) ≤ℤ (high +ℤ greatest_displacement operation range)
    high_moves = add_le _ _ _ _ q (greatest_part operation x range (moved_parts operation low high range can).sign
        order part)

    can_move_within : can_move operation lo hi (Some x) ≡ true
    can_move_within =
        let m = moved_parts operation low high range can in
        and_from _ _ (one_sign_within x range m.sign part)
        (and_from _ _ (le-le_z _ _ (le_trans_z _ _ _ m.from low_moves))
        (le-le_z _ _ (le_trans_z _ _ _ high_moves m.to)))

    moved_within : (a : Abstract) (at : Region) →
        is_kind_within a (moved_address operation at lo hi (Some x)) (moved_address operation at low high (Some range))
        ≡ true
    moved_within a at = and_from _ _ (same_as_itself at) (and_from _ _ (le-le_z _ _ low_moves) (le-le_z _ _ high_moves))

module _ (a b : Abstract) (width : Width) (operation : Operation) (j k k' : Abs) (y : Narrows a b k k') where
  -- what a wider pair of kinds allows, a narrower pair does, and what it makes of them is within
  numbers_can : {x z : Interval} → range_of a j ≡ Some x → range_of a k ≡ Some z →
      can_compute_kinds a width operation j k ≡ true
  numbers_can {x} {z} e f = grind arith

  -- the number that moves an address
  record Moves (low high : ℤ) : Type 0 where
    moves : moves_address width operation ≡ true
    by : AreRanges a b k k'
    can : can_move operation low high (Some by.outer) ≡ true

  moves_if : (j' : Abs) (x : AreAddresses j j') → can_compute_kinds b width operation j' k' ≡ true →
      Moves x.low x.high
  moves_if j' x can =
      let can' : can_compute_kinds b width operation (abs.Addr x.at x.low x.high) k' ≡ true = rw x.outer at can in
      let c = and_parts _ _ can' in
      let by = y.number (number_if_moves b operation _ _ _ c.1) in
      record { moves = c.0; by = by; can = rw by.outer_is at c.1 }

  pub can_within : (j' : Abs) → Narrows a b j j' → can_compute_kinds b width operation j' k' ≡ true →
      can_compute_kinds a width operation j k ≡ true
  can_within abs.None x can = cc
  can_within (abs.Addr r low high) x can =
      let z = x.address refl in
      let m = moves_if (abs.Addr r low high) z can in
      rw (z.inner, m.by.inner_is) (and_from _ _ m.moves (can_move_within operation _ _ _ _ _ _ z.from z.to
      m.by.inner_range.order m.by.part m.can))
  can_within j' x can = numbers_can (x.number refl).inner_is (y.number can).inner_is

  numbers_computed : {x z : Interval} → range_of a j ≡ Some x → range_of a k ≡ Some z →
      computed_kind a width operation j k ≡ numbers (result_range width operation x z)
  numbers_computed {x} {z} e f = grind arith

  number_computed : (j' : Abs) → AreRanges a b j j' → AreRanges a b k k' →
      is_kind_within a (computed_kind a width operation j k)
      (on_ranges width operation (range_of b j') (range_of b k')) ≡ true
  number_computed j' x z =
      rw (numbers_computed x.inner_is z.inner_is, x.outer_is, z.outer_is) (numbers_within a _ _ (result_part width
      operation _ _ _ _ x.inner_range z.inner_range x.outer_range z.outer_range x.part z.part))

  address_computed : (j' : Abs) → AreAddresses j j' → can_compute_kinds b width operation j' k' ≡ true →
      is_kind_within a (computed_kind a width operation j k) (computed_kind b width operation j' k') ≡ true
  address_computed j' x can =
      let m = moves_if j' x can in
      rw (x.inner, x.outer, m.by.inner_is, m.by.outer_is) (moved_within operation _ _ _ _ _ _ x.from x.to
      m.by.inner_range.order m.by.part m.can a x.at)

  pub computed_within : (j' : Abs) → Narrows a b j j' → can_compute_kinds b width operation j' k' ≡ true →
      is_kind_within a (computed_kind a width operation j k) (computed_kind b width operation j' k') ≡ true
  computed_within abs.None x can = cc
  computed_within (abs.Addr r low high) x can = address_computed (abs.Addr r low high) (x.address refl) can
  computed_within j' x can = number_computed j' (x.number refl) (y.number can)

-- a change, and a move of the low half, of a narrower kind is within that of a wider one
pub changed_within : (a b : Abstract) (change : Change) (j k : Abs) → AreRanges a b j k →
    is_kind_within a (changed_kind a change j) (changed_kind b change k) ≡ true
changed_within a b change j k x =
    rw (x.inner_is, x.outer_is) (numbers_within a _ _ (changed_part change _ _ x.inner_range x.part))

pub low_half_within : (a b : Abstract) (j k : Abs) → AreRanges a b j k →
    is_kind_within a (moved_kind a Bits32 j) (moved_kind b Bits32 k) ≡ true
low_half_within a b j k x = rw (x.inner_is, x.outer_is)
    (numbers_within a _ _ (cut_part Bits32 _ _ x.inner_range x.part))

-- ---- what two states know of a register, and of the source of an instruction

module _ (a b : Abstract) (w : IsWithin a b) (pa : is_proper a ≡ true) (pb : is_proper b ≡ true) where
  pub register_narrows : (r : ℕ) → Narrows a b (kind_at a r) (kind_at b r)
  register_narrows r =
      narrows_within a b w.lengths pa pb _ _ (kind_at_proper a r pa) (kind_at_proper b r pb) (kind_within a b w pb r)

  pub source_within : (width : Width) (source : Source) →
      is_kind_within a (source_kind a width source) (source_kind b width source) ≡ true
  source_within width (Register r) = kind_within a b w pb r
  source_within width (Immediate imm) = range_refl (lengths_from_to (immediate width imm) (immediate width imm))

  pub source_narrows : (width : Width) (source : Source) →
      Narrows a b (source_kind a width source) (source_kind b width source)
  source_narrows width source =
      narrows_within a b w.lengths pa pb _ _ (source_proper a width source pa) (source_proper b width source pb)
      (source_within width source)

-- ---- registers

pairs_set : (P : Abs → Abs → Type 0) (js ks : List Abs) (r q : ℕ) (j k : Abs) → length js ≡ length ks →
    P (get_or js q abs.None) (get_or ks q abs.None) → P j k →
    P (get_or (set js r j) q abs.None) (get_or (set ks r k) q abs.None)
pairs_set P (x ∷ js) (y ∷ ks) zero zero j k e h p = p
pairs_set P (x ∷ js) (y ∷ ks) (suc r) (suc q) j k e h p = pairs_set P js ks r q j k (omega arith) h p
pairs_set P (x ∷ js) (y ∷ ks) r q j k e h p = h
pairs_set P [] [] r q j k e h p = h
pairs_set P js ks r q j k e h p = absurd (omega arith)

-- a register's kind changed on both sides
module _ (a b : Abstract) (w : IsWithin a b) (pa : is_proper a ≡ true) (pb : is_proper b ≡ true) where
  same_long : length a.registers ≡ length b.registers
  same_long = (proper_parts a pa).eleven ∙ sym (proper_parts b pb).eleven

  pub within_set : (r : ℕ) (j k : Abs) → is_kind_within a j k ≡ true → IsWithin (with_kind a r j) (with_kind b r k)
  within_set r j k h = record {
    kinds = λ q low. pairs_set (λ x y. is_kind_within a x y ≡ true) a.registers b.registers r q j k same_long
        (w.kinds q low) h;
    lengths = w.lengths;
    set = w.set;
  }
