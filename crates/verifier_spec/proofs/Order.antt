-- The order of abstract states, part by part: a wider state holds of whatever a narrower one does.
use Rattle.std.proofs.Common.{◌≡◌, ℕ, zero, suc, ◌<◌, Bool, true, false, ◌||◌, not, refl, sym, ◌∙◌, ⊎_elim, arith}
use Rattle.std.proofs.lemmas.{Int.ints, Bool.and_parts, Bool.and_from, Bool.cases_lt}
use Rattle.machine_spec.specs.declared.instruction.Region.{Region}
use Rattle.machine_spec.specs.declared.instruction.Region.TheVariants as region
use Rattle.machine_spec.specs.Values.{Value, Number, Address}
use Rattle.machine_spec.specs.Machine.{Input, State, length_of}
use Rattle.verifier_spec.specs.declared.{state.Abs.Abs, state.Abstract.Abstract}
use Rattle.verifier_spec.specs.declared.state.Abs.TheVariants as abs
use Rattle.verifier_spec.specs.{StackSets.is_set, Ranges.is_range_within}
use Rattle.verifier_spec.specs.Kinds.{kind_at, length_range, same_region, is_kind_within}
use Rattle.verifier_spec.specs.States.{each_below, is_proper, is_within}
use Rattle.verifier_spec.specs.StandsFor.{HasKind, HasLengths, StandsFor}
use Rattle.verifier_spec.proofs.{Proper.unknown_past, Proper.in_wider}

-- ---- tests of every number below one

pub each_below_at : (n : ℕ) (test : ℕ → Bool) → each_below n test ≡ true → (k : ℕ) → k < n → test k ≡ true
unfolding each_below
each_below_at zero test h k low = absurd (omega arith)
each_below_at (suc n) test h k low = grind (arith, each_below_at n test)

pub each_below_from : (n : ℕ) (test : ℕ → Bool) → ((k : ℕ) → k < n → test k ≡ true) → each_below n test ≡ true
unfolding each_below
each_below_from zero test h = refl
each_below_from (suc n) test h = and_from _ _ (each_below_from n test (λ k low. h k (omega arith))) (h n (omega arith))

-- ---- the parts of the order

-- lengths are known no worse in the first: each region's range there is within the one in the second
abbrev pub IsNarrower : Abstract → Abstract → Type 0
IsNarrower a b = (at : Region) → is_range_within (length_range a at) (length_range b at) ≡ true

pub narrower_from : (a b : Abstract) → is_range_within a.key b.key ≡ true → is_range_within a.value b.value ≡ true
    → (at : Region) → is_range_within (length_range a at) (length_range b at) ≡ true
narrower_from a b key value region.Stack = refl
narrower_from a b key value region.Key = key
narrower_from a b key value region.Value = value

pub record IsWithin (a b : Abstract) : Type 0 where
  pub kinds : (r : ℕ) → r < 11 → is_kind_within a (kind_at a r) (kind_at b r) ≡ true
  pub lengths : IsNarrower a b
  pub set : (place : ℕ) → place < 512 → is_set b.set place ≡ true → is_set a.set place ≡ true

set_from : (outer inner : Bool) → (outer ≡ true → inner ≡ true) → (not outer || inner) ≡ true
set_from true inner h = h refl
set_from false inner h = refl

pub within_parts : (a b : Abstract) → is_within a b ≡ true → IsWithin a b
unfolding is_within
within_parts a b h =
    let p = and_parts _ _ h in
    let q = and_parts _ _ p.1 in
    let r = and_parts _ _ q.1 in
    record {
      kinds = each_below_at 11 (λ k. is_kind_within a (kind_at a k) (kind_at b k)) p.0;
      lengths = narrower_from a b q.0 r.0;
      set = λ place low e.
          let kept = each_below_at 512 (λ q. not (is_set b.set q) || is_set a.set q) r.1 place low in cc;
    }

pub within_from : (a b : Abstract) → IsWithin a b → is_within a b ≡ true
unfolding is_within
within_from a b w =
    and_from _ _ (each_below_from 11 _ w.kinds)
    (and_from _ _ (w.lengths region.Key) (and_from _ _ (w.lengths region.Value)
    (each_below_from 512 _ (λ place low. set_from _ _ (w.set place low)))))

-- ---- one kind within another

pub region_is : (a b : Region) → same_region a b ≡ true → a ≡ b
region_is region.Stack region.Stack h = refl
region_is region.Key region.Key h = refl
region_is region.Value region.Value h = refl
region_is a b h = cc

pub kind_holds : (input : Input) (a : Abstract) (j k : Abs) (word : Value) → HasLengths input a →
    is_kind_within a j k ≡ true → HasKind input j word → HasKind input k word
kind_holds input a j abs.None word l w h = tt
kind_holds input a (abs.Num l m) (abs.Num lo hi) (Number n) ls w h = (grind arith, grind arith)
kind_holds input a (abs.Len r) (abs.Num lo hi) (Number n) l w h = let has = l r in (grind arith, grind arith)
kind_holds input a (abs.Len r) (abs.Len q) word l w h = rw (← region_is r q w) h
kind_holds input a (abs.Addr r lo hi) (abs.Addr q low high) (Address at x) ls w h =
    let p = and_parts _ _ w in
    (sym (region_is r q p.0) ∙ h.0, grind (arith, ints), grind (arith, ints))
kind_holds input a j k word l w h = first_of (cc, search h)

-- ---- one state within another

module _ (input : Input) (a b : Abstract) (s : State) (w : IsWithin a b) (p : is_proper b ≡ true)
    (h : StandsFor input a s) where
  register_stands : (r : ℕ) → HasKind input (kind_at b r) (s.registers r)
  register_stands r =
      ⊎_elim (λ low. kind_holds input a _ _ _ h.lengths (w.kinds r low) (h.registers r))
      (λ past. rw (unknown_past b r p past) tt) (cases_lt r 11)

  pub within_stands : StandsFor input b s
  within_stands = record {
    given = h.given;
    bytes = h.bytes;
    registers = register_stands;
    lengths = λ at. in_wider (length_of input at) (length_range a at) (length_range b at) (w.lengths at) (h.lengths at);
    set = λ place low e. h.set place low (w.set place low e);
  }
