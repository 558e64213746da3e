-- The join of two states: both are within it, and it is within each state that both are within.
use Rattle.std.proofs.Common.{◌≡◌, ℕ, zero, suc, ◌+◌, ◌<◌, min, true, List, [], ◌∷◌, length, get_or, set, refl, sym}
use Rattle.std.proofs.Common.{◌∙◌, inl, inr, arith}
use Rattle.std.specs.{List.list_all}
use Rattle.std.proofs.lemmas.Bool.{and_parts, and_from, cases_eq}
use Rattle.std.proofs.{lemmas.Int.ints, lemmas.List.get_or-set_same, lemmas.List.get_or-set_other}
use Rattle.wire_spec.specs.declared.limits.TheConstants.{MAX_KEY, MAX_VALUE}
use Rattle.machine_spec.specs.declared.instruction.Region.{Region}
use Rattle.machine_spec.specs.declared.instruction.Region.TheVariants as region
use Rattle.verifier_spec.specs.declared.{state.Abs.Abs, state.Abstract.Abstract}
use Rattle.verifier_spec.specs.{States.is_proper, States.is_within, Ranges.lengths_from_to, Ranges.joined_range}
use Rattle.verifier_spec.specs.declared.state.Abs.TheVariants as abs
use Rattle.verifier_spec.specs.Kinds.{kind_at, length_range, same_region, is_proper_kind, is_kind_within}
use Rattle.verifier_spec.specs.Joins.{joined_kind, pairwise, joined_state, IsLeastAbove}
use Rattle.verifier_spec.proofs.Order.{narrower_from, within_parts, within_from, region_is}
use Rattle.verifier_spec.proofs.Proper.{proper_parts, proper_from, length_range_order, length_range_limit, range_refl}
use Rattle.verifier_spec.proofs.Proper.{range_trans, range_left, range_right, range_least, joined_range_proper}
use Rattle.verifier_spec.proofs.{StackSets.in_both, StackSets.in_intersection, Wider.kind_within_narrower}
use Rattle.verifier_spec.proofs.Wider.{same_as_itself}

-- ---- one region

region_sym : (a b : Region) → same_region a b ≡ true → same_region b a ≡ true
region_sym a b h = rw (region_is a b h) (same_as_itself b)

region_trans : (a b c : Region) → same_region a b ≡ true → same_region b c ≡ true → same_region a c ≡ true
region_trans a b c h k = rw (region_is a b h) k

-- ---- the order is reflexive and transitive

pub kind_within_refl : (a : Abstract) (k : Abs) → is_kind_within a k k ≡ true
kind_within_refl a abs.None = refl
kind_within_refl a (abs.Num lo hi) = range_refl (lengths_from_to lo hi)
kind_within_refl a (abs.Len at) = same_as_itself at
kind_within_refl a (abs.Addr at lo hi) =
    and_from _ _ (same_as_itself at) (grind (arith, ints))

pub within_refl : (a : Abstract) → is_within a a ≡ true
within_refl a = within_from a a (record {
  kinds = λ r low. kind_within_refl a (kind_at a r);
  lengths = λ at. range_refl (length_range a at);
  set = λ place low e. e;
})

-- in one state
kind_within_trans : (a : Abstract) (j k l : Abs) → is_kind_within a j k ≡ true → is_kind_within a k l ≡ true →
    is_kind_within a j l ≡ true
kind_within_trans a j k abs.None h g = refl
kind_within_trans a j abs.None l h g = cc
kind_within_trans a (abs.Num x y) (abs.Num l m) (abs.Num lo hi) h g = grind arith
kind_within_trans a (abs.Len x) (abs.Num l m) (abs.Num lo hi) h g = grind arith
kind_within_trans a (abs.Len x) (abs.Len q) (abs.Num lo hi) h g = rw (region_is x q h) g
kind_within_trans a (abs.Len x) (abs.Len q) (abs.Len at) h g = region_trans x q at h g
kind_within_trans a (abs.Addr x y z) (abs.Addr q l m) (abs.Addr at lo hi) h g =
    grind (arith, ints, region_trans)
kind_within_trans a j k l h g = cc

pub within_trans : (a b c : Abstract) → is_within a b ≡ true → is_within b c ≡ true → is_within a c ≡ true
within_trans a b c h g =
    let v = within_parts a b h in
    let w = within_parts b c g in
    within_from a c (record {
      kinds = λ r low. kind_within_trans a (kind_at a r) (kind_at b r) (kind_at c r) (v.kinds r low)
          (kind_within_narrower b a (kind_at b r) (kind_at c r) v.lengths (w.kinds r low));
      lengths = λ at. range_trans (length_range a at) (length_range b at) (length_range c at) (v.lengths at)
          (w.lengths at);
      set = λ place low e. v.set place low (w.set place low e);
    })

-- ---- element by element

pairwise_at : {A : Type 0} (f : A → A → A) (d : A) → ((x : A) → f x d ≡ d) → ((y : A) → f d y ≡ d) →
    (xs ys : List A) (k : ℕ) → get_or (pairwise f xs ys) k d ≡ f (get_or xs k d) (get_or ys k d)
pairwise_at f d right left [] ys k = sym (left (get_or ys k d))
pairwise_at f d right left (x ∷ xs) [] k = sym (right (get_or (x ∷ xs) k d))
pairwise_at f d right left (x ∷ xs) (y ∷ ys) zero = refl
pairwise_at f d right left (x ∷ xs) (y ∷ ys) (suc k) = pairwise_at f d right left xs ys k

pub length-pairwise : {A : Type 0} (f : A → A → A) (xs ys : List A) →
    length (pairwise f xs ys) ≡ min (length xs) (length ys)
length-pairwise f [] ys = omega arith
length-pairwise f (x ∷ xs) [] = omega arith
length-pairwise f (x ∷ xs) (y ∷ ys) = omega (arith, length-pairwise f xs ys)

-- a list of as many elements that are made so
pub pairwise_from : {A : Type 0} (f : A → A → A) (d : A) (xs ys zs : List A) → length zs ≡ length xs →
    length zs ≡ length ys → ((k : ℕ) → k < length zs → get_or zs k d ≡ f (get_or xs k d) (get_or ys k d)) →
    zs ≡ pairwise f xs ys
pairwise_from f d [] ys [] long other each = refl
pairwise_from f d (x ∷ xs) (y ∷ ys) (z ∷ zs) long other each =
    let first = each 0 (omega arith) in
    let rest = pairwise_from f d xs ys zs (omega arith) (omega arith) (λ k under. each (suc k) (omega arith)) in
    cc
pairwise_from f d xs ys zs long other each = absurd (omega arith)

-- one more element is made so
pub pairwise_more : {A : Type 0} (f : A → A → A) (d : A) (xs ys zs : List A) (n : ℕ) (z : A) → n < length zs →
    z ≡ f (get_or xs n d) (get_or ys n d) → ((k : ℕ) → k < n → get_or zs k d ≡ f (get_or xs k d) (get_or ys k d)) →
    (k : ℕ) → k < n + 1 → get_or (set zs n z) k d ≡ f (get_or xs k d) (get_or ys k d)
pairwise_more f d xs ys zs n z inside made each k under = elim (cases_eq k n) [
  | inl last ↦ rw last (get_or-set_same zs n z d inside ∙ made)
  | inr other ↦ get_or-set_other zs n k z d other ∙ each k (omega arith)
]

-- ---- the join of two kinds

unknown_right : (a b : Abstract) (j : Abs) → joined_kind a b j abs.None ≡ abs.None
unknown_right a b abs.None = refl
unknown_right a b j = refl

unknown_left : (a b : Abstract) (k : Abs) → joined_kind a b abs.None k ≡ abs.None
unknown_left a b k = refl

pub kind_joined : (a b : Abstract) (r : ℕ) → kind_at (joined_state a b) r ≡ joined_kind a b (kind_at a r) (kind_at b r)
kind_joined a b r = pairwise_at (joined_kind a b) abs.None (unknown_right a b) (unknown_left a b) a.registers
    b.registers r

length_range_joined : (a b : Abstract) (at : Region) →
    length_range (joined_state a b) at ≡ joined_range (length_range a at) (length_range b at)
length_range_joined a b region.Stack = refl
length_range_joined a b at = refl

module _ (a b : Abstract) where
  pub kind_left : (j k : Abs) → is_kind_within a j (joined_kind a b j k) ≡ true
  kind_left (abs.Num x y) (abs.Num lo hi) = grind arith
  kind_left (abs.Num x y) (abs.Len at) = grind arith
  kind_left (abs.Len at) (abs.Num lo hi) = grind arith
  kind_left (abs.Len at) (abs.Len other) = grind (arith, same_as_itself)
  kind_left (abs.Addr at lo hi) (abs.Addr other low high) = grind (arith, ints, same_as_itself)
  kind_left j k = refl

  pub kind_right : (j k : Abs) → is_kind_within b k (joined_kind a b j k) ≡ true
  kind_right (abs.Num x y) (abs.Num lo hi) = grind arith
  kind_right (abs.Num x y) (abs.Len at) = grind arith
  kind_right (abs.Len at) (abs.Num lo hi) = grind arith
  kind_right (abs.Len at) (abs.Len other) = grind (arith, region_sym)
  kind_right (abs.Addr at lo hi) (abs.Addr other low high) = grind (arith, ints, region_sym)
  kind_right j k = refl

  pub kind_least : (j k l : Abs) → is_kind_within a j l ≡ true → is_kind_within b k l ≡ true →
      is_kind_within (joined_state a b) (joined_kind a b j k) l ≡ true
  kind_least j k abs.None h g = refl
  kind_least (abs.Num x y) (abs.Num low high) (abs.Num lo hi) h g = grind arith
  kind_least (abs.Num x y) (abs.Len at) (abs.Num lo hi) h g = grind arith
  kind_least (abs.Len at) (abs.Num low high) (abs.Num lo hi) h g = grind arith
  kind_least (abs.Len at) (abs.Len other) (abs.Num lo hi) h g =
      let joined = length_range_joined a b at in
      let is = region_is at other in
      grind arith
  kind_least (abs.Len at) (abs.Len other) (abs.Len to) h g =
      rw (region_trans at to other h (region_sym other to g)) h
  kind_least (abs.Addr at x y) (abs.Addr other low high) (abs.Addr to lo hi) h g =
      rw (region_is at to (and_parts _ _ h).0, region_is other to (and_parts _ _ g).0, same_as_itself to)
      (grind (arith, ints))
  kind_least j k l h g = cc

-- ---- the join of two states

-- both states are within their join
pub within_joined_left : (a b : Abstract) → is_within a (joined_state a b) ≡ true
within_joined_left a b = within_from a (joined_state a b) (record {
  kinds = λ r low. rw (kind_joined a b r) (kind_left a b (kind_at a r) (kind_at b r));
  lengths = narrower_from a (joined_state a b) (range_left a.key b.key) (range_left a.value b.value);
  set = λ place low e. (in_both a.set b.set place low e).0;
})

pub within_joined_right : (a b : Abstract) → is_within b (joined_state a b) ≡ true
within_joined_right a b = within_from b (joined_state a b) (record {
  kinds = λ r low. rw (kind_joined a b r) (kind_right a b (kind_at a r) (kind_at b r));
  lengths = narrower_from b (joined_state a b) (range_right a.key b.key) (range_right a.value b.value);
  set = λ place low e. (in_both a.set b.set place low e).1;
})

-- the join is within each state that both are within
pub joined_least : (a b c : Abstract) → is_within a c ≡ true → is_within b c ≡ true →
    is_within (joined_state a b) c ≡ true
joined_least a b c h g =
    let v = within_parts a c h in
    let w = within_parts b c g in
    within_from (joined_state a b) c (record {
      kinds = λ r low.
          rw (kind_joined a b r)
          (kind_least a b (kind_at a r) (kind_at b r) (kind_at c r) (v.kinds r low) (w.kinds r low));
      lengths = narrower_from (joined_state a b) c (range_least a.key b.key c.key (v.lengths region.Key)
          (w.lengths region.Key))
          (range_least a.value b.value c.value (v.lengths region.Value) (w.lengths region.Value));
      set = λ place low e. in_intersection a.set b.set place low (v.set place low e) (w.set place low e);
    })

-- ---- the join of two states in their ranges is in its ranges

-- the view of a length is an interval in its range
view_proper : (a : Abstract) (at : Region) → is_proper a ≡ true →
    is_proper_kind (abs.Num (length_range a at).min (length_range a at).max) ≡ true
view_proper a at h =
    let order = length_range_order a at h in
    let limit = length_range_limit a at h in
    grind arith

module _ (a b : Abstract) (p : is_proper a ≡ true) (q : is_proper b ≡ true) where
  kind_proper : (j k : Abs) → is_proper_kind j ≡ true → is_proper_kind k ≡ true →
      is_proper_kind (joined_kind a b j k) ≡ true
  kind_proper (abs.Num x y) (abs.Num lo hi) h g = grind arith
  kind_proper (abs.Num x y) (abs.Len at) h g = let view = view_proper b at q in grind arith
  kind_proper (abs.Len at) (abs.Num lo hi) h g = let view = view_proper a at p in grind arith
  kind_proper (abs.Len at) (abs.Len other) h g =
      let first = view_proper a at p in let second = view_proper b other q in grind arith
  kind_proper (abs.Addr at lo hi) (abs.Addr other low high) h g = grind (arith, ints)
  kind_proper j k h g = refl

  kinds_proper : (js ks : List Abs) → list_all is_proper_kind js ≡ true → list_all is_proper_kind ks ≡ true
      → list_all is_proper_kind (pairwise (joined_kind a b) js ks) ≡ true
  kinds_proper (j ∷ js) (k ∷ ks) h g =
      let first = and_parts _ _ h in
      let second = and_parts _ _ g in
      and_from _ _ (kind_proper j k first.0 second.0) (kinds_proper js ks first.1 second.1)
  kinds_proper js ks h g = refl

  pub joined_proper : is_proper (joined_state a b) ≡ true
  joined_proper =
      let u = proper_parts a p in
      let v = proper_parts b q in
      let eleven : min (length a.registers) (length b.registers) ≡ 11 = omega arith in
      proper_from (joined_state a b) (record {
        eleven = length-pairwise (joined_kind a b) a.registers b.registers ∙ eleven;
        kinds = kinds_proper a.registers b.registers u.kinds v.kinds;
        key = joined_range_proper MAX_KEY a.key b.key u.key v.key;
        value = joined_range_proper MAX_VALUE a.value b.value u.value v.value;
      })

-- ---- the law of the join

pub least_above : (a b : Abstract) → is_proper a ≡ true → is_proper b ≡ true → IsLeastAbove a b (joined_state a b)
least_above a b p q = record {
  proper = joined_proper a b p q;
  left = within_joined_left a b;
  right = within_joined_right a b;
  least = joined_least a b;
}
