-- Counts with one more record.
use Rattle.std.proofs.Common.{◌≡◌, ℕ, zero, suc, ◌+◌, ◌<◌, Bool, true, false, cond, List, [], ◌∷◌, ◌++◌, Option, Some}
use Rattle.std.proofs.Common.{refl, sym, ap, subst, ◌∙◌, arith, add-one, ◌==◌, count_by}
use Rattle.std.specs.Prelude.{unwrap_or}
use Rattle.std.proofs.{lemmas.List.length_push, lemmas.List.length-append, lemmas.Bool.Decides.nat_tests}
use Rattle.std.proofs.lemmas.List.Sums.{sum_by_push, sum_by-append, count_by-le-length}
use Rattle.fates.specs.declared.fate.Fate.{Fate}
use Rattle.fates.specs.declared.fate.Fate.TheVariants.{Unprogrammed, Kept, Rejected}
use Rattle.fates.specs.Totals.{Totals, totals, is_unprogrammed, is_kept, is_rejected_by, rejected_by, listed_count}
use Rattle.fates.specs.Totals.{rejects_of, AreCounts}
use Rattle.fates.specs.Rejects.{IsSet, ListsSome, AreSummed}

-- ---- one more fate in a count

counted_yes : (p : Fate → Bool) (fates : List Fate) (fate : Fate) → p fate ≡ true →
    count_by p (fates ++ fate ∷ []) ≡ count_by p fates + 1
counted_yes p fates fate e = sum_by_push (λ f. cond (p f) 1 0) fates fate
    ∙ ap (λ (b : Bool). count_by p fates + cond b 1 0) e

counted_no : (p : Fate → Bool) (fates : List Fate) (fate : Fate) → p fate ≡ false →
    count_by p (fates ++ fate ∷ []) ≡ count_by p fates
counted_no p fates fate e =
    let more : count_by p (fates ++ fate ∷ []) ≡ count_by p fates + 0 = sum_by_push (λ f. cond (p f) 1 0) fates fate
    ∙ ap (λ (b : Bool). count_by p fates + cond b 1 0) e in
    omega (arith, more)

counted_both : (p : Fate → Bool) (before here : List Fate) →
    count_by p (before ++ here) ≡ count_by p before + count_by p here
counted_both p before here = sum_by-append (λ f. cond (p f) 1 0) before here

-- ---- counts

pub unprogrammed_more : (fates : List Fate) (r u k : ℕ) (rejects : List (ℕ × ℕ)) →
    AreCounts fates (totals r u k rejects) → AreCounts (fates ++ Unprogrammed ∷ []) (totals (r + 1) (u + 1) k rejects)
unprogrammed_more fates r u k rejects h = record {
  records_are = omega (arith, h.records_are, length_push fates Unprogrammed);
  unprogrammed_are = omega (arith, h.unprogrammed_are, counted_yes is_unprogrammed fates Unprogrammed refl);
  kept_are = omega (arith, h.kept_are, counted_no is_kept fates Unprogrammed refl);
  rising = h.rising;
  rejects_are = λ code. h.rejects_are code
      ∙ ap listed_count (sym (counted_no (is_rejected_by code) fates Unprogrammed refl));
}

pub kept_more : (fates : List Fate) (r u k : ℕ) (rejects : List (ℕ × ℕ)) → AreCounts fates (totals r u k rejects)
    → AreCounts (fates ++ Kept ∷ []) (totals (r + 1) u (k + 1) rejects)
kept_more fates r u k rejects h = record {
  records_are = omega (arith, h.records_are, length_push fates Kept);
  unprogrammed_are = omega (arith, h.unprogrammed_are, counted_no is_unprogrammed fates Kept refl);
  kept_are = omega (arith, h.kept_are, counted_yes is_kept fates Kept refl);
  rising = h.rising;
  rejects_are = λ code. h.rejects_are code ∙ ap listed_count (sym (counted_no (is_rejected_by code) fates Kept refl));
}

pub listed_or_none : (n : ℕ) → unwrap_or (listed_count n) 0 ≡ n
listed_or_none zero = refl
listed_or_none (suc n) = refl

listed_next : (n : ℕ) → Some (n + 1) ≡ listed_count (n + 1)
listed_next n = rw (add-one) refl

pub rejected_more : (fates : List Fate) (r u k code : ℕ) (old new : List (ℕ × ℕ)) → AreCounts fates (totals r u k old) →
    IsSet code (Some (unwrap_or (rejected_by code old) 0 + 1)) old new → AreCounts (fates ++ Rejected code ∷ [])
    (totals (r + 1) u k new)
rejected_more fates r u k code old new h more = record {
  records_are = omega (arith, h.records_are, length_push fates (Rejected code));
  unprogrammed_are = omega (arith, h.unprogrammed_are, counted_no is_unprogrammed fates (Rejected code) refl);
  kept_are = omega (arith, h.kept_are, counted_no is_kept fates (Rejected code) refl);
  rising = more.rising;
  rejects_are = λ other. by_test other (code == other) refl;
}
  where
    at_code : (other : ℕ) → code ≡ other → rejected_by other new
        ≡ listed_count (count_by (is_rejected_by other) (fates ++ Rejected code ∷ []))
    at_code other same =
        let n : ℕ = count_by (is_rejected_by code) fates in
        let same_test : (code == code) ≡ true = grind (arith, nat_tests) in
        let was : unwrap_or (rejected_by code old) 0 ≡ n = ap (λ (o : Option ℕ). unwrap_or o 0) (h.rejects_are code)
        ∙ listed_or_none n in
        let now : rejected_by code new ≡ listed_count (n + 1) = more.here_is
        ∙ (ap (λ (m : ℕ). Some (m + 1)) was ∙ listed_next n) in
        let whole : rejected_by code new ≡ listed_count (count_by (is_rejected_by code) (fates ++ Rejected code ∷ [])) =
        now ∙ ap listed_count (sym (counted_yes (is_rejected_by code) fates (Rejected code) same_test)) in
        subst (λ (c : ℕ). rejected_by c new ≡ listed_count (count_by (is_rejected_by c) (fates ++ Rejected code ∷ [])))
        same whole

    by_test : (other : ℕ) (b : Bool) → (code == other) ≡ b →
        rejected_by other new ≡ listed_count (count_by (is_rejected_by other) (fates ++ Rejected code ∷ []))
    by_test other true e = at_code other (grind (arith, nat_tests))
    by_test other false e =
        more.others other e ∙ (h.rejects_are other
        ∙ ap listed_count (sym (counted_no (is_rejected_by other) fates (Rejected code) e)))

-- no code rejected more records than there are
pub few_rejects : (fates : List Fate) (c : Totals) (code n : ℕ) → AreCounts fates c → c.records < n →
    unwrap_or (rejected_by code c.rejects) 0 < n
few_rejects fates c code n h few =
    let many : unwrap_or (rejected_by code c.rejects) 0 ≡ count_by (is_rejected_by code) fates =
    ap (λ (o : Option ℕ). unwrap_or o 0) (h.rejects_are code) ∙ listed_or_none (count_by (is_rejected_by code) fates) in
    omega (arith, many, few, h.records_are, count_by-le-length (is_rejected_by code) fates)

pub rejects_many : (fates : List Fate) (c : Totals) (code : ℕ) → AreCounts fates c →
    rejects_of code c.rejects ≡ count_by (is_rejected_by code) fates
rejects_many fates c code h = ap (λ (o : Option ℕ). unwrap_or o 0) (h.rejects_are code)
    ∙ listed_or_none (count_by (is_rejected_by code) fates)

pub lists_some : (fates : List Fate) (c : Totals) → AreCounts fates c → ListsSome c.rejects
lists_some fates c h = λ code. h.rejects_are code ∙ ap listed_count (sym (rejects_many fates c code h))

pub few_sums : (before here : List Fate) (c d : Totals) (code n : ℕ) → AreCounts before c → AreCounts here d →
    c.records + d.records < n → rejects_of code c.rejects + rejects_of code d.rejects < n
few_sums before here c d code n was more few =
    omega (
      arith,
      few,
      rejects_many before c code was,
      rejects_many here d code more,
      was.records_are,
      more.records_are,
      count_by-le-length (is_rejected_by code) before,
      count_by-le-length (is_rejected_by code) here,
    )

-- the counts of fates and of those after them
pub both_counted : (before here : List Fate) (r u k r' u' k' : ℕ) (one other both : List (ℕ × ℕ)) →
    AreCounts before (totals r u k one) → AreCounts here (totals r' u' k' other) → AreSummed one other both →
    AreCounts (before ++ here) (totals (r + r') (u + u') (k + k') both)
both_counted before here r u k r' u' k' one other both was more sums = record {
  records_are = omega (arith, was.records_are, more.records_are, length-append before here);
  unprogrammed_are = omega (
    arith,
    was.unprogrammed_are,
    more.unprogrammed_are,
    counted_both is_unprogrammed before here,
  );
  kept_are = omega (arith, was.kept_are, more.kept_are, counted_both is_kept before here);
  rising = sums.rising;
  rejects_are = λ code.
      let all : rejects_of code one + rejects_of code other ≡ count_by (is_rejected_by code) (before ++ here) =
      omega (
        arith,
        rejects_many before (totals r u k one) code was,
        rejects_many here (totals r' u' k' other) code more,
        counted_both (is_rejected_by code) before here,
      ) in
      sums.sums code ∙ ap listed_count all;
}
