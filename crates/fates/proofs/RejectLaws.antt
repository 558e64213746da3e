-- Lists of how many records each code rejected, changed at one code after the other.
use Rattle.std.proofs.Common.{◌≡◌, ℕ, zero, suc, ◌+◌, Bool, true, false, cond, List, ◌∷◌, Option, Some, None, refl}
use Rattle.std.proofs.Common.{sym, ap, subst, ◌∙◌, arith, ◌==◌}
use Rattle.std.specs.Prelude.{unwrap_or}
use Rattle.std.specs.{Ordering.nat_cmp, Ordering.is_eq, Map.keys_of, BTreeMap.BTreeMap, List.Sorted.IsStrictlySortedBy}
use Rattle.std.specs.Cmp.{unsigned_tied, eq_by_cmp_equiv, nat_cmp_total}
use Rattle.std.proofs.{lemmas.Bool.Decides.nat_tests, lemmas.Map.lookup-none, lemmas.Map.Keys.IsDistinct-from_sorted}
use Rattle.std.proofs.{lemmas.Map.Keys.sorted_tail, lemmas.Map.Entries.none_past_head}
use Rattle.std.proofs.{lemmas.Map.Lookups.btree_map_from_get, lemmas.Map.Lookups.exact_unsigned}
use Rattle.fates.specs.Totals.{rejected_by, rejects_of, listed_count}
use Rattle.fates.specs.Rejects.{ListsSome, IsSet, AreSet, AreKept, AreSummed, as_listed, unless_none, as_summed}

-- ---- the first entry, and the others

same_code : (code : ℕ) → is_eq (nat_cmp code code) ≡ true
same_code code = let same : (code == code) ≡ true = grind (arith, nat_tests) in unsigned_tied code code ∙ same

found : (code count : ℕ) (left : List (ℕ × ℕ)) → rejected_by code ((code, count) ∷ left) ≡ Some count
found code count left = ap (λ (b : Bool). cond b (Some count) (rejected_by code left)) (same_code code)

passed : (code other count : ℕ) (left : List (ℕ × ℕ)) → (code == other) ≡ false →
    rejected_by other ((code, count) ∷ left) ≡ rejected_by other left
passed code other count left e =
    let turned : (other == code) ≡ false = grind (arith, nat_tests) in
    ap (λ (b : Bool). cond b (Some count) (rejected_by other left)) (unsigned_tied other code ∙ turned)

-- no later entry has the first one's code
none_later : (code count : ℕ) (left : List (ℕ × ℕ)) → IsStrictlySortedBy nat_cmp (keys_of ((code, count) ∷ left)) →
    rejected_by code left ≡ None
none_later code count left rising =
    lookup-none (λ listed. is_eq (nat_cmp code listed)) left
    (none_past_head (eq_by_cmp_equiv nat_cmp_total) code (code, count) left
    (IsDistinct-from_sorted nat_cmp (keys_of ((code, count) ∷ left)) rising) (same_code code))

other_code : (code other count more : ℕ) (left : List (ℕ × ℕ)) →
    IsStrictlySortedBy nat_cmp (keys_of ((code, count) ∷ left)) → rejected_by other left ≡ Some more →
    (code == other) ≡ false
other_code code other count more left rising e = by_test (code == other) refl
  where
    by_test : (b : Bool) → (code == other) ≡ b → (code == other) ≡ false
    by_test false test = test
    by_test true test =
        let same : code ≡ other = grind (arith, nat_tests) in
        let none : rejected_by other left ≡ None =
        subst (λ (c : ℕ). rejected_by c left ≡ None) same (none_later code count left rising) in
        let bad : None ≡ Some more = sym none ∙ e in
        absurd cc

-- ---- one code after the other

-- `new` has what `old` is to become at the codes of `others`, but for those that are left.
pub record Setting (made : ℕ → ℕ → Option ℕ) (others left old new : List (ℕ × ℕ)) : Type 0 where
  pub rising : IsStrictlySortedBy nat_cmp (keys_of new)
  pub left_rising : IsStrictlySortedBy nat_cmp (keys_of left)
  pub left_in : (code more : ℕ) → rejected_by code left ≡ Some more → rejected_by code others ≡ Some more
  pub ahead : (code more : ℕ) → rejected_by code left ≡ Some more → rejected_by code new ≡ rejected_by code old
  pub done : (code more : ℕ) → rejected_by code others ≡ Some more → rejected_by code left ≡ None →
      rejected_by code new ≡ made (rejects_of code old) more
  pub apart : (code : ℕ) → rejected_by code others ≡ None → rejected_by code new ≡ rejected_by code old

pub setting_next : (made : ℕ → ℕ → Option ℕ) (others old new after : List (ℕ × ℕ)) (code count : ℕ)
    (left : List (ℕ × ℕ)) → Setting made others ((code, count) ∷ left) old new →
    IsSet code (made (rejects_of code new) count) new after → Setting made others left old after
setting_next made others old new after code count left before is = record {
  rising = is.rising;
  left_rising = sorted_tail nat_cmp code (keys_of left) before.left_rising;
  left_in = λ other more e. before.left_in other more (later other more e);
  ahead = λ other more e. is.others other (differs other more e) ∙ before.ahead other more (later other more e);
  done = λ other more e none. done other more e none (code == other) refl;
  apart = λ other e. is.others other (outside other e (code == other) refl) ∙ before.apart other e;
}
  where
    differs : (other more : ℕ) → rejected_by other left ≡ Some more → (code == other) ≡ false
    differs other more e = other_code code other count more left before.left_rising e

    later : (other more : ℕ) → rejected_by other left ≡ Some more → rejected_by other ((code, count) ∷ left) ≡ Some more
    later other more e = passed code other count left (differs other more e) ∙ e

    here : rejected_by code others ≡ Some count
    here = before.left_in code count (found code count left)

    outside : (other : ℕ) → rejected_by other others ≡ None → (b : Bool) → (code == other) ≡ b →
        (code == other) ≡ false
    outside other e false test = test
    outside other e true test =
        let same : code ≡ other = grind (arith, nat_tests) in
        let listed : rejected_by other others ≡ Some count =
        subst (λ (c : ℕ). rejected_by c others ≡ Some count) same here in
        let bad : None ≡ Some count = sym e ∙ listed in
        absurd cc

    at_code : (more : ℕ) → rejected_by code others ≡ Some more →
        rejected_by code after ≡ made (rejects_of code old) more
    at_code more e =
        let counts : Some count ≡ Some more = sym here ∙ e in
        let same : count ≡ more = ap (λ (o : Option ℕ). unwrap_or o 0) counts in
        let was : rejects_of code new ≡ rejects_of code old =
        ap (λ (o : Option ℕ). unwrap_or o 0) (before.ahead code count (found code count left)) in
        is.here_is ∙ (ap (λ (n : ℕ). made n count) was ∙ ap (made (rejects_of code old)) same)

    done : (other more : ℕ) → rejected_by other others ≡ Some more → rejected_by other left ≡ None → (b : Bool) →
        (code == other) ≡ b → rejected_by other after ≡ made (rejects_of other old) more
    done other more e none false test =
        is.others other test ∙ before.done other more e (passed code other count left test ∙ none)
    done other more e none true test =
        let same : code ≡ other = grind (arith, nat_tests) in
        let e' : rejected_by code others ≡ Some more =
        subst (λ (c : ℕ). rejected_by c others ≡ Some more) (sym same) e in
        subst (λ (c : ℕ). rejected_by c after ≡ made (rejects_of c old) more) same (at_code more e')

-- the first code that is left: it is one of the others, and is listed as before
module _ (made : ℕ → ℕ → Option ℕ) (others old new : List (ℕ × ℕ)) (code count : ℕ) (left : List (ℕ × ℕ))
    (is : Setting made others ((code, count) ∷ left) old new)
  where
    pub first_in : rejected_by code others ≡ Some count
    first_in = is.left_in code count (found code count left)

    pub first_count : rejects_of code new ≡ rejects_of code old
    first_count = ap (λ (o : Option ℕ). unwrap_or o 0) (is.ahead code count (found code count left))

    pub first_listed : ((other : ℕ) → rejected_by other old ≡ None → rejected_by other others ≡ None) →
        rejected_by code new ≡ None → ⊥
    first_listed listed none =
        let was : rejected_by code old ≡ None = sym (is.ahead code count (found code count left)) ∙ none in
        let bad : None ≡ Some count = sym (listed code was) ∙ first_in in
        absurd cc

-- ---- counts that are listed without need

-- once they are taken off the list, it is as it was
pub taken_off : (others kept : List (ℕ × ℕ)) (old new : BTreeMap ℕ ℕ) →
    IsStrictlySortedBy nat_cmp (keys_of old.entries) → ListsSome old.entries → AreKept others old.entries kept →
    AreSet unless_none others kept new.entries → new.entries ≡ old.entries
taken_off others kept old new rising some are off =
    btree_map_from_get nat_cmp_total new old off.rising rising (λ code. same code (rejected_by code others) refl)
    exact_unsigned
  where
    same : (code : ℕ) (o : Option ℕ) → rejected_by code others ≡ o →
        rejected_by code new.entries ≡ rejected_by code old.entries
    same code None e = off.apart code e ∙ are.apart code e
    same code (Some more) e = off.at code more e ∙ (ap listed_count (are.same code) ∙ sym (some code))

-- ---- sums

-- each code that is listed there is listed here
pub listed_here : (others old new : List (ℕ × ℕ)) → AreSet as_listed others old new → (code : ℕ) →
    rejected_by code new ≡ None → rejected_by code others ≡ None
listed_here others old new are code none = by_other (rejected_by code others) refl
  where
    by_other : (o : Option ℕ) → rejected_by code others ≡ o → rejected_by code others ≡ None
    by_other None e = e
    by_other (Some more) e =
        let bad : None ≡ Some (rejects_of code old) = sym none ∙ are.at code more e in
        absurd cc

pub same_counts : (others old new : List (ℕ × ℕ)) → AreSet as_listed others old new → (code : ℕ) →
    rejects_of code new ≡ rejects_of code old
same_counts others old new are code = by_other (rejected_by code others) refl
  where
    by_other : (o : Option ℕ) → rejected_by code others ≡ o → rejects_of code new ≡ rejects_of code old
    by_other None e = ap (λ (x : Option ℕ). unwrap_or x 0) (are.apart code e)
    by_other (Some more) e = ap (λ (x : Option ℕ). unwrap_or x 0) (are.at code more e)

-- a count that is listed by itself is not 0, nor is a sum of it
listed_sum : (n m : ℕ) → Some m ≡ listed_count m → Some (n + m) ≡ listed_count (n + m)
listed_sum n zero e = absurd cc
listed_sum n (suc m) e = let next : n + suc m ≡ suc (n + m) = omega arith in rw next refl

pub summed : (others old all new : List (ℕ × ℕ)) → ListsSome old → ListsSome others → AreSet as_listed others old all →
    AreSet as_summed others all new → AreSummed old others new
summed others old all new some more are sums = record {
  rising = sums.rising;
  sums = λ code. by_other code (rejected_by code others) refl;
}
  where
    by_other : (code : ℕ) (o : Option ℕ) → rejected_by code others ≡ o →
        rejected_by code new ≡ listed_count (rejects_of code old + rejects_of code others)
    by_other code None e =
        let none : rejects_of code others ≡ 0 = ap (λ (x : Option ℕ). unwrap_or x 0) e in
        let both : rejects_of code old ≡ rejects_of code old + rejects_of code others = omega (arith, none) in
        sums.apart code e ∙ (are.apart code e ∙ (some code ∙ ap listed_count both))
    by_other code (Some count) e =
        let here : rejects_of code others ≡ count = ap (λ (x : Option ℕ). unwrap_or x 0) e in
        let alone : Some count ≡ listed_count count = sym e ∙ (more code ∙ ap listed_count here) in
        let both : rejects_of code all + count ≡ rejects_of code old + rejects_of code others =
        omega (arith, here, same_counts others old all are code) in
        sums.at code count e
        ∙ (listed_sum (rejects_of code all) count alone ∙ ap listed_count both)
