-- The fates of one more record, and of one more item.
use Rattle.std.proofs.Common.{◌≡◌, ℕ, zero, suc, ◌+◌, ◌-◌, ◌≤◌, List, [], ◌∷◌, ◌++◌, length, take, get_or, Option, Some}
use Rattle.std.proofs.Common.{refl, sym, ap, subst, ◌∙◌, add-one, arith, slice_get}
use Rattle.std.proofs.lemmas.List.{take_all, take_more}
use Rattle.std.proofs.lemmas.Option.{same_Some, slice_get_within, slice_get-get_or}
use Rattle.wire_spec.specs.declared.{record.Record.Record, record.Batch.Batch}
use Rattle.machine_spec.specs.Image.{Program}
use Rattle.log_spec.specs.Logs.{Item, in_force, offset_of, place_of}
use Rattle.log_spec.proofs.LogLaws.{in_force-appended, offset_of-appended, slice_get-appended}
use Rattle.fates.specs.declared.fate.Fate.{Fate}
use Rattle.fates.specs.Fates.{IsFate, AreRecordsFates, AreItemFates, AreFatesOf}
use Rattle.fates.specs.Totals.{Totals, AreCounts, AreItemCounts, AreCountsAt, AreCountsOf}

pub fates-next : (input outputs : ℕ) (program : Option Program) (batch : Batch) (offset : ℕ) (givens : List Record)
    (given : Record) (fates : List Fate) (here : Fate) →
    AreRecordsFates input outputs program batch offset givens fates →
    IsFate program (place_of input outputs (offset + length givens) batch given) given here →
    AreRecordsFates input outputs program batch offset (givens ++ given ∷ []) (fates ++ here ∷ [])
fates-next input outputs program batch offset [] given fates here h is =
    let at : offset + 0 ≡ offset = omega arith in
    let is' : IsFate program (place_of input outputs offset batch given) given here =
    subst (λ (o : ℕ). IsFate program (place_of input outputs o batch given) given here) at is in
    (here, [], is', refl, ap (λ (fs : List Fate). fs ++ here ∷ []) h)
fates-next input outputs program batch offset (first ∷ givens) given fates here h is =
    let at : offset + length (first ∷ givens) ≡ (offset + 1) + length givens = omega arith in
    let is' : IsFate program (place_of input outputs ((offset + 1) + length givens) batch given) given here =
    subst (λ (o : ℕ). IsFate program (place_of input outputs o batch given) given here) at is in (
      h.0,
      h.1 ++ here ∷ [],
      h.2,
      fates-next input outputs program batch (offset + 1) givens given h.1 here h.3 is',
      ap
          (λ (fs : List Fate). fs ++ here ∷ []) h.4,
    )

pub no_items : (input outputs : ℕ) (items : List Item) (c : Totals) → AreCounts [] c →
    AreCountsOf input outputs items 0 c
no_items input outputs items c are = record { fates = []; fates_are = refl; counts_are = are }

-- ---- how many fates there are

-- a batch has as many fates as records
pub records_fates : (input outputs : ℕ) (program : Option Program) (batch : Batch) (offset : ℕ) (givens : List Record)
    (fates : List Fate) → AreRecordsFates input outputs program batch offset givens fates →
    length fates ≡ length givens
records_fates input outputs program batch offset [] fates h = ap (λ (fs : List Fate). length fs) h
records_fates input outputs program batch offset (given ∷ givens) fates h =
    let later = records_fates input outputs program batch (offset + 1) givens h.1 h.3 in
    let whole = ap (λ (fs : List Fate). length fs) h.4 in
    omega (arith, later, whole)

-- ---- the counts of one more item

-- a list with one more element that begins as another is that list and the element
pub one_longer : {A : Type 0} (old new : List A) (x : A) → length new ≡ length old + 1 →
    take (length new) old ≡ take (length old) new → slice_get new (length old) ≡ Some x → new ≡ old ++ x ∷ []
one_longer old new x count agree at =
    let start : take (length old) new ≡ old = sym agree ∙ take_all (length new) old (omega (arith, count)) in
    let found : get_or new (length old) x ≡ x =
    same_Some (get_or new (length old) x) x
    (sym (slice_get-get_or new (length old) x (slice_get_within new (length old) x at)) ∙ at) in
    sym (take_all (length old + 1) new (omega (arith, count)))
    ∙ (take_more new (length old) x (slice_get_within new (length old) x at)
    ∙ (ap (λ (xs : List _). xs ++ get_or new (length old) x ∷ []) start ∙ ap (λ y. old ++ y ∷ []) found))

-- an appended item changes nothing of what became of the records before it
fates-appended : (input outputs : ℕ) (items : List Item) (item : Item) (n : ℕ) (fates : List Fate) →
    n ≤ length items → AreFatesOf input outputs items n fates →
    AreFatesOf input outputs (items ++ item ∷ []) n fates
fates-appended input outputs items item zero fates le h = h
fates-appended input outputs items item (suc k) fates le h =
    let below : k ≤ length items = omega arith in (
      h.0,
      h.1,
      h.2,
      fates-appended input outputs items item k h.0 below h.3,
      slice_get-appended items item k h.2 h.4,
      subst (λ (o : ℕ). AreItemFates input outputs (in_force (items ++ item ∷ []) k) o h.2 h.1)
          (sym (offset_of-appended items item k below))
          (subst (λ (f : Option Program). AreItemFates input outputs f (offset_of items k) h.2 h.1)
          (sym (in_force-appended items item k below)) h.5),
      h.6,
    )

-- the counts of the items up to one, and then that one's
pub next_counts : (input outputs : ℕ) (old new : List Item) (was here both : Totals) →
    length new ≡ length old + 1 → take (length new) old ≡ take (length old) new →
    AreCountsOf input outputs old (length old) was → AreCountsAt input outputs new (length new - 1) here →
    ((before later : List Fate) → AreCounts before was → AreCounts later here → AreCounts (before ++ later) both) →
    AreCountsOf input outputs new (length new) both
next_counts input outputs old new was here both count agree were are sums =
    let k : length new - 1 ≡ length old = omega (arith, count) in
    let at : slice_get new (length old) ≡ Some are.item =
    subst (λ (n : ℕ). slice_get new n ≡ Some are.item) k are.item_is in
    let longer = one_longer old new are.item count agree at in
    let before : AreFatesOf input outputs new (length old) were.fates =
    subst (λ (xs : List Item). AreFatesOf input outputs xs (length old) were.fates) (sym longer)
    (fates-appended input outputs old are.item (length old) were.fates (omega arith) were.fates_are) in
    let now : AreItemCounts input outputs (in_force new (length old)) (offset_of new (length old)) are.item here =
    subst (λ (n : ℕ). AreItemCounts input outputs (in_force new n) (offset_of new n) are.item here) k are.counts_are in
    subst (λ (n : ℕ). AreCountsOf input outputs new n both) (sym count) (record {
      fates = were.fates ++ now.fates;
      fates_are = rw add-one (were.fates, now.fates, are.item, before, at, now.fates_are, refl);
      counts_are = sums were.fates now.fates were.counts_are now.counts_are;
    })
