-- What is at each place of a list.
use Rattle.std.proofs.Common.{◌≡◌, ℕ, ◌+◌, ◌<◌, ◌≤◌, List, [], ◌∷◌, ◌++◌, length, take, get_or, Some, ⊎_elim}
use Rattle.std.proofs.Common.{refl, sym, ap, subst, ◌∙◌, arith, slice_get}
use native.Mathlib.Decide.{ℕ_discrete}
use Rattle.std.proofs.lemmas.List.{take-take, length-take, get_or_read}
use Rattle.std.proofs.lemmas.Option.{same_Some, slice_get_read}
use Rattle.log_spec.specs.Logs.{Item}
use Rattle.part_log.specs.Parts.{Log}
use Rattle.report.specs.Holdings.{Held}
use Rattle.report.specs.Snapshots.{held_at, AreOutputs, IsShorter}
use Rattle.log_spec.proofs.LogLaws.{pushed}

pub each_pushed : {A : Type 0} (P : ℕ → A → Type 0) (xs : List A) (x : A) →
    ((k : ℕ) (y : A) → slice_get xs k ≡ Some y → P k y) → P (length xs) x → (k : ℕ) (y : A) →
    slice_get (xs ++ x ∷ []) k ≡ Some y → P k y
each_pushed P xs x all at k y e =
    let from : (j : ℕ) → 0 + j ≡ j = λ j. omega arith in
    subst (λ m. P m y) (from k) (pushed P xs 0 x (λ j w h. subst (λ m. P m w) (sym (from j)) (all j w h))
    (subst (λ m. P m x) (sym (from (length xs))) at) k y e)

-- ---- the items that are done everywhere

-- the same over the first output partitions
pub record IsLeastOf (outputs : List (List Held)) (n input : ℕ) (first : Log) : Type 0 where
  pub partition_is : first.partition ≡ input
  pub in_each : (output : ℕ) (h : Held) → output < n → held_at outputs output input ≡ Some h →
      take (length first.items) h.done.items ≡ first.items
  pub place : ℕ
  pub least : Held
  pub least_at : held_at outputs place input ≡ Some least
  pub in_one : first ≡ least.done

pub least_start : (outputs : List (List Held)) (input place : ℕ) (h : Held) → held_at outputs place input ≡ Some h →
    h.done.partition ≡ input → IsLeastOf outputs 0 input h.done
least_start outputs input place h at of = record {
  partition_is = of;
  in_each = λ output other lt e. absurd (omega (arith, lt));
  place = place;
  least = h;
  least_at = at;
  in_one = refl;
}

-- the first items of a log that are all of a shorter one begin with those of a still shorter one
shorter_yet : (done first shorter : Log) → take (length first.items) done.items ≡ first.items →
    length shorter.items ≤ length first.items → take (length shorter.items) first.items ≡ shorter.items →
    take (length shorter.items) done.items ≡ shorter.items
shorter_yet done first shorter begins le is =
    sym (take-take (length shorter.items) (length first.items) done.items le)
    ∙ (ap (take (length shorter.items)) begins ∙ is)

pub least_more : (outputs : List (List Held)) (n input : ℕ) (first shorter : Log) (h : Held) →
    IsLeastOf outputs n input first → held_at outputs n input ≡ Some h → h.done.partition ≡ input →
    IsShorter first h.done shorter → IsLeastOf outputs (n + 1) input shorter
least_more outputs n input first shorter h before at of is = ⊎_elim same other is.is_either
  where
    le : length shorter.items ≤ length first.items
    le = omega (arith, ap (λ (xs : List Item). length xs) is.in_one, length-take (length shorter.items) first.items)

    begins : (output : ℕ) (g : Held) → output < n + 1 → held_at outputs output input ≡ Some g →
        take (length shorter.items) g.done.items ≡ shorter.items
    begins output g lt e = by_place (ℕ_discrete output n)
      where
        by_place : Dec (output ≡ n) → take (length shorter.items) g.done.items ≡ shorter.items
        by_place (yes here) =
            let found : held_at outputs n input ≡ Some g = subst (λ (k : ℕ). held_at outputs k input ≡ Some g) here e in
            let it : g ≡ h = same_Some g h (sym found ∙ at) in
            subst (λ (x : Held). take (length shorter.items) x.done.items ≡ shorter.items) (sym it) is.in_other
        by_place (no differ) =
            let below : output < n = omega (arith, lt, differ) in
            shorter_yet g.done first shorter (before.in_each output g below e) le is.in_one

    same : shorter ≡ first → IsLeastOf outputs (n + 1) input shorter
    same e = record {
      partition_is = ap (λ (l : Log). l.partition) e ∙ before.partition_is;
      in_each = begins;
      place = before.place;
      least = before.least;
      least_at = before.least_at;
      in_one = e ∙ before.in_one;
    }

    other : shorter ≡ h.done → IsLeastOf outputs (n + 1) input shorter
    other e = record {
      partition_is = ap (λ (l : Log). l.partition) e ∙ of;
      in_each = begins;
      place = n;
      least = h;
      least_at = at;
      in_one = e;
    }

-- ---- what is at a place of an output partition's list

module _ (inputs count input k : ℕ) (outputs : List (List Held)) (holdings : List Held)
    (are : AreOutputs inputs count outputs) (lt : k < length outputs) (is : holdings ≡ get_or outputs k holdings)
  where
    there : slice_get outputs k ≡ Some holdings
    there = slice_get_read outputs (length outputs) k holdings refl lt is

    pub holdings_count : length holdings ≡ inputs
    holdings_count = (are k holdings there).count

    pub partition_at : (h : Held) → slice_get holdings input ≡ Some h → h.done.partition ≡ input
    partition_at h e = ((are k holdings there).each input h e).1

    pub held_from : (h : Held) → slice_get holdings input ≡ Some h → held_at outputs k input ≡ Some h
    held_from h e = subst (λ (hs : List Held). slice_get hs input ≡ Some h) (get_or_read outputs k holdings lt is []) e
