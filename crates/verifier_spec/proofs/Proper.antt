-- The ranges of lengths and of abstract states, part by part, and what keeps them.
use Rattle.std.proofs.Common.{◌≡◌, ℕ, ◌≤◌, true, arith, zero, suc, ◌^◌, ◌<◌, ℤ, ◌≤ℤ◌, List, [], ◌∷◌, length, get_or}
use Rattle.std.proofs.Common.{set, Some, IfSome, refl, sym, subst, ◌∙◌, length-set}
use Rattle.verifier_spec.specs.declared.state.{Range.Range, Abs.Abs, Abstract.Abstract}
use Rattle.verifier_spec.specs.Intervals.{IsIn, IsPartOf, from_to, IsRangeOf}
use Rattle.verifier_spec.specs.Ranges.{interval_of, is_proper_range, is_range_within, joined_range}
use Rattle.std.specs.List.{list_all}
use Rattle.std.proofs.lemmas.{Int.ints, Option.same_Some, List.get_or_past}
use Rattle.std.proofs.lemmas.Bool.{and_parts, and_from, eqb-true, eq-eqb}
use Rattle.wire_spec.specs.declared.limits.TheConstants.{MAX_KEY, MAX_VALUE}
use Rattle.machine_spec.specs.declared.operation.{Width.Width, Width.TheVariants.Bits32, Width.TheVariants.Bits64}
use Rattle.machine_spec.specs.{declared.instruction.Source.Source, declared.instruction.Region.Region, Values.immediate}
use Rattle.machine_spec.specs.declared.instruction.Source.TheVariants.{Register, Immediate}
use Rattle.machine_spec.specs.declared.instruction.Region.TheVariants as region
use Rattle.verifier_spec.specs.declared.{interval.Interval.Interval, state.StackSet.StackSet}
use Rattle.verifier_spec.specs.declared.state.Abs.TheVariants as abs
use Rattle.verifier_spec.specs.{Checks.source_kind, States.is_proper, Transfer.with_kind, Transfer.with_lengths}
use Rattle.verifier_spec.specs.Kinds.{kind_at, length_range, range_of, is_number_kind, is_proper_kind}

-- ---- what the tests say

pub record IsProperRange (limit : ℕ) (range : Range) : Type 0 where
  pub order : range.min ≤ range.max
  pub limited : range.max ≤ limit

pub proper_ends : (limit : ℕ) (range : Range) → is_proper_range limit range ≡ true → IsProperRange limit range
proper_ends limit range h = record { order = grind arith; limited = grind arith }

pub proper_from_ends : (limit : ℕ) (range : Range) → range.min ≤ range.max → range.max ≤ limit →
    is_proper_range limit range ≡ true
proper_from_ends limit range order limited = grind arith

pub range_part : (inner outer : Range) → is_range_within inner outer ≡ true →
    IsPartOf (interval_of inner) (interval_of outer)
range_part inner outer h = record { low = grind arith; high = grind arith }

pub range_from_part : (inner outer : Range) → outer.min ≤ inner.min → inner.max ≤ outer.max →
    is_range_within inner outer ≡ true
range_from_part inner outer low high = grind arith

-- ---- their order

pub range_refl : (a : Range) → is_range_within a a ≡ true
range_refl a = grind arith

pub range_trans : (a b c : Range) → is_range_within a b ≡ true → is_range_within b c ≡ true → is_range_within a c ≡ true
range_trans a b c h g = grind arith

-- a number in a range is in each that the range is within
pub in_wider : (n : ℕ) (a b : Range) → is_range_within a b ≡ true → IsIn n (interval_of a) → IsIn n (interval_of b)
in_wider n a b h has = record { low = grind arith; high = grind arith }

-- ---- their join

pub range_left : (a b : Range) → is_range_within a (joined_range a b) ≡ true
range_left a b = grind arith

pub range_right : (a b : Range) → is_range_within b (joined_range a b) ≡ true
range_right a b = grind arith

pub range_least : (a b c : Range) → is_range_within a c ≡ true → is_range_within b c ≡ true →
    is_range_within (joined_range a b) c ≡ true
range_least a b c h g = grind arith

pub joined_range_proper : (limit : ℕ) (a b : Range) → is_proper_range limit a ≡ true → is_proper_range limit b ≡ true →
    is_proper_range limit (joined_range a b) ≡ true
joined_range_proper limit a b h g = grind arith

-- ---- abstract states

pub record IsProper (a : Abstract) : Type 0 where
  pub eleven : length a.registers ≡ 11
  pub kinds : list_all is_proper_kind a.registers ≡ true
  pub key : is_proper_range MAX_KEY a.key ≡ true
  pub value : is_proper_range MAX_VALUE a.value ≡ true

pub proper_parts : (a : Abstract) → is_proper a ≡ true → IsProper a
unfolding is_proper
proper_parts a h =
    let p = and_parts _ _ h in
    let q = and_parts _ _ p.1 in
    let r = and_parts _ _ q.1 in
    record { eleven = eqb-true _ _ p.0; kinds = q.0; key = r.0; value = r.1 }

pub proper_from : (a : Abstract) → IsProper a → is_proper a ≡ true
unfolding is_proper
proper_from a p = and_from _ _ (eq-eqb _ _ p.eleven) (and_from _ _ p.kinds (and_from _ _ p.key p.value))

-- ---- each kind

pub kind_from : (kinds : List Abs) (r : ℕ) → list_all is_proper_kind kinds ≡ true →
    is_proper_kind (get_or kinds r abs.None) ≡ true
kind_from [] r h = refl
kind_from (kind ∷ kinds) zero h = (and_parts _ _ h).0
kind_from (kind ∷ kinds) (suc r) h = kind_from kinds r (and_parts _ _ h).1

pub kind_at_proper : (a : Abstract) (r : ℕ) → is_proper a ≡ true → is_proper_kind (kind_at a r) ≡ true
kind_at_proper a r h = kind_from a.registers r (proper_parts a h).kinds

all_set : (kinds : List Abs) (r : ℕ) (kind : Abs) → list_all is_proper_kind kinds ≡ true → is_proper_kind kind ≡ true →
    list_all is_proper_kind (set kinds r kind) ≡ true
all_set [] r kind h k = refl
all_set (first ∷ kinds) zero kind h k = and_from _ _ k (and_parts _ _ h).1
all_set (first ∷ kinds) (suc r) kind h k = and_from _ _ (and_parts _ _ h).0 (all_set kinds r kind (and_parts _ _ h).1 k)

pub with_kind_proper : (a : Abstract) (r : ℕ) (kind : Abs) → is_proper a ≡ true → is_proper_kind kind ≡ true →
    is_proper (with_kind a r kind) ≡ true
with_kind_proper a r kind h k =
    let p = proper_parts a h in
    proper_from (with_kind a r kind) (assumption (
      length-set a.registers r kind ∙ p.eleven,
      all_set a.registers r kind p.kinds k,
    ))

-- ---- the set of stack bytes

pub with_set_proper : (a : Abstract) (set : StackSet) → is_proper a ≡ true → is_proper (record a { set = set }) ≡ true
with_set_proper a set h =
    let p = proper_parts a h in
    proper_from (record a { set = set }) (assumption p)

-- ---- registers past r10

pub unknown_past : (a : Abstract) (r : ℕ) → is_proper a ≡ true → 11 ≤ r → kind_at a r ≡ abs.None
unknown_past a r h past = let e = (proper_parts a h).eleven in get_or_past a.registers r abs.None (omega arith)

-- ---- the parts of a kind's ranges

pub num_order : (lo hi : ℕ) → is_proper_kind (abs.Num lo hi) ≡ true → lo ≤ hi
num_order lo hi h = grind arith

pub num_limit : (lo hi : ℕ) → is_proper_kind (abs.Num lo hi) ≡ true → hi < 2 ^ 64
num_limit lo hi h = grind arith

pub addr_order : (at : Region) (lo hi : ℤ) → is_proper_kind (abs.Addr at lo hi) ≡ true → lo ≤ℤ hi
addr_order at lo hi h = grind (arith, ints)

-- ---- lengths

-- each region's range has a length, and none above the greatest of a value
length_range_proper : (a : Abstract) (at : Region) → is_proper a ≡ true → IsProperRange MAX_VALUE (length_range a at)
length_range_proper a region.Stack h = record { order = omega arith; limited = omega arith }
length_range_proper a region.Key h =
    let p = proper_parts a h in record { order = grind arith; limited = grind arith }
length_range_proper a region.Value h =
    let p = proper_parts a h in record { order = grind arith; limited = grind arith }

pub length_range_order : (a : Abstract) (at : Region) → is_proper a ≡ true →
    (length_range a at).min ≤ (length_range a at).max
length_range_order a at h = (length_range_proper a at h).order

pub length_range_limit : (a : Abstract) (at : Region) → is_proper a ≡ true → (length_range a at).max ≤ MAX_VALUE
length_range_limit a at h = (length_range_proper a at h).limited

-- a range in the limits that is no longer than the old one
pub with_lengths_proper : (a : Abstract) (at : Region) (range : Range) → is_proper a ≡ true → range.min ≤ range.max →
    range.max ≤ (length_range a at).max → is_proper (with_lengths a at range) ≡ true
with_lengths_proper a region.Stack range h order inside = h
with_lengths_proper a region.Key range h order inside =
    let p = proper_parts a h in
    let key : is_proper_range MAX_KEY range ≡ true = grind arith in
    proper_from _ (assumption p)
with_lengths_proper a region.Value range h order inside =
    let p = proper_parts a h in
    let value : is_proper_range MAX_VALUE range ≡ true = grind arith in
    proper_from _ (assumption p)

-- ---- the numbers of a kind

-- the numbers that a kind represents, which are of 64 bits
pub record HasRange (a : Abstract) (kind : Abs) : Type 0 where
  pub range : Interval
  pub is : range_of a kind ≡ Some range
  pub proper : IsRangeOf Bits64 range

pub range_at : (a : Abstract) (kind : Abs) → is_proper a ≡ true → is_proper_kind kind ≡ true →
    is_number_kind kind ≡ true → HasRange a kind
range_at a (abs.Num lo hi) p q k =
    record { range = from_to lo hi; is = refl; proper = record { order = grind arith; limited = grind arith } }
range_at a (abs.Len r) p q k =
    let of = length_range_proper a r p in
    record {
      range = interval_of (length_range a r);
      is = refl;
      proper = record { order = of.order; limited = omega arith };
    }
range_at a kind p q k = cc

pub number_if_ranged : (a : Abstract) (kind : Abs) (range : Interval) → range_of a kind ≡ Some range →
    is_number_kind kind ≡ true
number_if_ranged a (abs.Num lo hi) range e = refl
number_if_ranged a (abs.Len r) range e = refl
number_if_ranged a kind range e = cc

pub proper_range : (a : Abstract) (kind : Abs) (range : Interval) → is_proper a ≡ true → is_proper_kind kind ≡ true →
    range_of a kind ≡ Some range → IsRangeOf Bits64 range
proper_range a kind range p q e =
    let r = range_at a _ p q (number_if_ranged a kind range e) in
    subst (IsRangeOf Bits64) (same_Some _ _ (sym r.is ∙ e)) r.proper

pub range_ordered : (a : Abstract) (kind : Abs) → is_proper a ≡ true → is_proper_kind kind ≡ true →
    IfSome (range_of a kind) (λ r. r.low ≤ r.high)
range_ordered a abs.None p q = tt
range_ordered a (abs.Num lo hi) p q = num_order lo hi q
range_ordered a (abs.Len r) p q = length_range_order a r p
range_ordered a (abs.Addr _ _ _) p q = tt

-- an immediate is of 64 bits
immediate_limited : (width : Width) (imm : ℤ) → immediate width imm < 2 ^ 64
immediate_limited Bits32 imm = omega arith
immediate_limited Bits64 imm = omega arith

pub source_proper : (a : Abstract) (width : Width) (source : Source) → is_proper a ≡ true →
    is_proper_kind (source_kind a width source) ≡ true
source_proper a width (Register r) p = kind_at_proper a r p
source_proper a width (Immediate imm) p =
    let small = immediate_limited width imm in
    grind arith
