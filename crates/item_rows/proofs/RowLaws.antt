-- Rows that are added to lists of the outputs, one step after the other.
use Rattle.std.proofs.Common.{◌≡◌, ℕ, zero, suc, ◌+◌, ◌<◌, ◌≤◌, cond, List, [], ◌∷◌, ◌++◌}
use Rattle.std.proofs.Common.{length, take, drop, get_or, slice_get, Option, Some, Result, Ok, Err, refl}
use Rattle.std.proofs.Common.{sym, ap, subst, ◌∙◌, append_assoc, arith, ◌==◌, IfOk}
use Rattle.std.specs.List.{AllByRecursion}
use Rattle.std.proofs.lemmas.Option.{get_or_from_slice_get}
use Rattle.std.proofs.lemmas.List.{length-append, append-nil, drop_all}
use Rattle.wire_spec.specs.declared.{record.Record.Record, record.Batch.Batch}
use Rattle.machine_spec.specs.declared.{outcome.Emission.Emission, outcome.Outcome.Outcome, outcome.Place.Place}
use Rattle.machine_spec.specs.{Image.Program, Meaning.Means}
use Rattle.log_spec.specs.declared.row.Row.{Row}
use Rattle.log_spec.specs.Logs.{Item as LogItem, Records, rows_to, rows_of, row_of, IsRecordRows, IsRecordsRows}
use Rattle.log_spec.specs.Logs.{FitsLog}
use Rattle.log_spec.proofs.{FittingRows.batch_rows_fit, LogLaws.rows_to-next}
use Rattle.fates.specs.{declared.fate.Fate.Fate, Fates.IsFate, Fates.AreRecordsFates}
use Rattle.fates.specs.Totals.{Totals, AreCountsWith, AreItemCounts}
use Rattle.item_rows.specs.declared.origin.Origin.{Origin}
use Rattle.item_rows.specs.ItemRows.{rows_in, GivesRows, AreItemRows, AreRowsFrom, AreEmpty, Adds}

pub if_ok : {A E : Type 0} (result : Result A E) (P Q : A → Type 0) → IfOk result P → ((x : A) → P x → Q x) →
    IfOk result Q
if_ok (Ok value) P Q h so = so value h
if_ok (Err fault) P Q h so = tt

-- ---- what is added

pub adds_none : (first : ℕ) (all : List (List Row)) (P : ℕ → List Row → Type 0) → ((q : ℕ) → P q []) →
    Adds first all all P
adds_none first all P none = record {
  count = refl;
  each = λ k lt. ([], none (first + k), sym (append-nil (rows_in all k)));
}

pub adds_then : (first : ℕ) (one two three : List (List Row)) (P Q R : ℕ → List Row → Type 0) → Adds first one two P →
    Adds first two three Q → ((q : ℕ) (here later : List Row) → P q here → Q q later → R q (here ++ later)) →
    Adds first one three R
adds_then first one two three P Q R before after join = record {
  count = after.count ∙ before.count;
  each = λ k lt.
      let x = before.each k lt in
      let y = after.each k (subst (λ (n : ℕ). k < n) (sym before.count) lt) in (
        x.0 ++ y.0,
        join (first + k) x.0 y.0 x.1 y.1,
        y.2
            ∙ (ap (λ (rs : List Row). rs ++ y.0) x.2 ∙ append_assoc (rows_in one k) x.0 y.0),
      );
}

pub adds_as : (first : ℕ) (one two : List (List Row)) (P Q : ℕ → List Row → Type 0) → Adds first one two P →
    ((q : ℕ) (here : List Row) → P q here → Q q here) → Adds first one two Q
adds_as first one two P Q adds so =
    record { count = adds.count; each = λ k lt. let x = adds.each k lt in (x.0, so (first + k) x.0 x.1, x.2) }

-- ---- no rows at first

none_more : (all : List (List Row)) (new : List Row) → new ≡ [] → ((q : ℕ) → rows_in all q ≡ []) → (q : ℕ) →
    rows_in (all ++ new ∷ []) q ≡ []
none_more [] new none each zero = none
none_more [] new none each (suc q) = refl
none_more (x ∷ all) new none each zero = each zero
none_more (x ∷ all) new none each (suc q) = none_more all new none (λ k. each (suc k)) q

pub empty_more : (outputs : ℕ) (all : List (List Row)) (new : List Row) → AreEmpty outputs all → new ≡ [] →
    AreEmpty (outputs + 1) (all ++ new ∷ [])
empty_more outputs all new are none = record {
  count = omega (arith, length-append all (new ∷ []), are.count);
  each = none_more all new none are.each;
}

pub empty_none : AreEmpty 0 []
empty_none = record { count = refl; each = λ q. refl }

-- ---- one more emission, one more record

-- one more emission
pub emissions_more : (first : ℕ) (place : Place) (number : ℕ) (emissions : List Emission) (emission : Emission)
    (one two three : List (List Row)) → number ≡ length emissions →
    Adds first one two (λ q here. here ≡ rows_to q place 0 emissions) →
    Adds first two three (λ q here. here ≡ cond (emission.out == q) (row_of place number emission ∷ []) []) →
    Adds first one three (λ q here. here ≡ rows_to q place 0 (emissions ++ emission ∷ []))
emissions_more first place number emissions emission one two three count before after =
    adds_then first one two three (λ q here. here ≡ rows_to q place 0 emissions)
    (λ q here. here ≡ cond (emission.out == q) (row_of place number emission ∷ []) [])
    (λ q here. here ≡ rows_to q place 0 (emissions ++ emission ∷ [])) before after join
  where
    join : (q : ℕ) (here later : List Row) → here ≡ rows_to q place 0 emissions →
        later ≡ cond (emission.out == q) (row_of place number emission ∷ []) [] →
        here ++ later ≡ rows_to q place 0 (emissions ++ emission ∷ [])
    join q here later is are =
        let at : 0 + length emissions ≡ number = omega arith in
        let more = rows_to-next q place 0 emissions emission in
        let more' : rows_to q place 0 (emissions ++ emission ∷ []) ≡ rows_to q place 0 emissions
        ++ cond (emission.out == q) (row_of place number emission ∷ []) [] =
        more ∙ ap (λ (n : ℕ). rows_to q place 0 emissions ++ cond (emission.out == q) (row_of place n emission ∷ []) [])
        at in
        ap (λ (rs : List Row). rs ++ later) is
        ∙ (ap (λ (rs : List Row). rows_to q place 0 emissions ++ rs) are ∙ sym more')

-- the rows of what a run ends with
pub outcome_rows : (first : ℕ) (program : Program) (place : Place) (given : Record) (outcome : Outcome) (n : ℕ)
    (one two : List (List Row)) → Means program (record { given = given; place = place }) outcome n
    → Adds first one two (λ q here. here ≡ rows_of q place outcome) →
    Adds first one two (λ q here. IsRecordRows q (Some program) place given here)
outcome_rows first program place given outcome n one two means adds =
    adds_as first one two (λ q here. here ≡ rows_of q place outcome)
    (λ q here. IsRecordRows q (Some program) place given here) adds (λ q here is. (outcome, n, means, is))

-- what a record comes to, by the program by another name
pub record_made : (first : ℕ) (program program' : Option Program) (place : Place) (given : Record) (fate : Fate)
    (one two : List (List Row)) → program ≡ program' → IsFate program place given fate →
    Adds first one two (λ q here. IsRecordRows q program place given here) →
    IsFate program' place given fate × Adds first one two (λ q here. IsRecordRows q program' place given here)
record_made first program program' place given fate one two same is adds =
    subst (λ (p : Option Program). IsFate p place given fate
    × Adds first one two (λ q here. IsRecordRows q p place given here)) same (is, adds)

-- what holds of each element holds of one
pub each_at : {A : Type 0} (P : A → Type 0) (xs : List A) (k : ℕ) (x : A) → AllByRecursion P xs → k < length xs →
    x ≡ get_or xs k x → P x
each_at P [] k x all lt e = absurd (omega arith)
each_at P (y ∷ xs) zero x all lt e = subst P (sym e) all.0
each_at P (y ∷ xs) (suc k) x all lt e =
    let below : k < length xs = omega arith in
    each_at P xs k x all.1 below e

-- ---- items

-- the rows of a batch that fits a log
pub batch_rows : (first : ℕ) (origin : Origin) (program : Option Program) (batch : Batch) (one two : List (List Row)) →
    FitsLog batch → Adds first one two (λ q here. IsRecordsRows origin.input q origin.outputs program batch
    origin.offset batch.records here) → Adds first one two (GivesRows origin program (Records batch))
batch_rows first origin program batch one two fits adds =
    adds_as first one two (λ q here. IsRecordsRows origin.input q origin.outputs program batch origin.offset
    batch.records here) (GivesRows origin program (Records batch)) adds
    (λ q here is. record {
      are = is;
      fit = batch_rows_fit origin.input q origin.outputs program batch origin.offset here fits is;
    })

-- what a batch that fits a log comes to
pub batch_made : (first : ℕ) (origin : Origin) (program : Option Program) (batch : Batch) (one two : List (List Row))
    (counts : Totals) → FitsLog batch →
    AreCountsWith (AreRecordsFates origin.input origin.outputs program batch origin.offset batch.records) counts
    × Adds first one two (λ q here. IsRecordsRows origin.input q origin.outputs program batch origin.offset
    batch.records here) →
    AreItemCounts origin.input origin.outputs program origin.offset (Records batch) counts
    × Adds first one two (GivesRows origin program (Records batch))
batch_made first origin program batch one two counts fits is = (
  record {
    fates = is.0.fates;
    fates_are = is.0.fates_are;
    counts_are = is.0.counts_are;
  },
  batch_rows first origin program batch one two fits is.1,
)

-- the item by another name
pub item_made : (first : ℕ) (origin : Origin) (program : Option Program) (item item' : LogItem)
    (one two : List (List Row)) (counts : Totals) → item ≡ item' →
    AreItemCounts origin.input origin.outputs program origin.offset item counts
    × Adds first one two (GivesRows origin program item) →
    AreItemCounts origin.input origin.outputs program origin.offset item' counts
    × Adds first one two (GivesRows origin program item')
item_made first origin program item item' one two counts same is =
    subst (λ (x : LogItem). AreItemCounts origin.input origin.outputs program origin.offset x counts
    × Adds first one two (GivesRows origin program x)) same is

-- rows that are added where there were none
pub rows_are_from : (first count : ℕ) (origin : Origin) (program : Option Program) (item : LogItem)
    (old new : List (List Row)) → AreEmpty count old → Adds first old new (GivesRows origin program item) →
    AreRowsFrom first count origin program item new
rows_are_from first count origin program item old new none adds = record {
  outputs = adds.count ∙ none.count;
  each = λ k lt.
      let x = adds.each k (subst (λ (n : ℕ). k < n) (sym none.count) lt) in
      let is : x.0 ≡ rows_in new k = sym (x.2 ∙ ap (λ (rs : List Row). rs ++ x.0) (none.each k)) in
      subst (GivesRows origin program item (first + k)) is x.1;
}

-- in every output
pub item_rows_are : (origin : Origin) (program : Option Program) (item : LogItem) (all : List (List Row)) →
    AreRowsFrom 0 origin.outputs origin program item all → AreItemRows origin program item all
item_rows_are origin program item all are = record {
  outputs = are.outputs;
  each = λ q lt. (gives q lt).are;
  fit = λ q lt. (gives q lt).fit;
}
  where
    gives : (q : ℕ) → q < origin.outputs → GivesRows origin program item q (rows_in all q)
    gives q lt =
        let at : 0 + q ≡ q = omega arith in
        subst (λ (k : ℕ). GivesRows origin program item k (rows_in all q)) at (are.each q lt)

-- in one output
pub one_output_is : (output : ℕ) (origin : Origin) (program : Option Program) (item : LogItem) (all : List (List Row))
    (rows : List Row) → AreRowsFrom output 1 origin program item all → slice_get all 0 ≡ Some rows →
    GivesRows origin program item output rows
one_output_is output origin program item all rows are at =
    let here : output + 0 ≡ output = omega arith in
    let first : rows_in all 0 ≡ rows = get_or_from_slice_get all 0 rows [] at in
    subst (λ (rs : List Row). GivesRows origin program item output rs) first
    (subst (λ (k : ℕ). GivesRows origin program item k (rows_in all 0)) here (are.each 0 (omega arith)))

-- ---- lists

pub take_all : {A : Type 0} (k : ℕ) (xs : List A) → length xs ≤ k → take k xs ≡ xs
take_all zero [] le = refl
take_all (suc k) [] le = refl
take_all zero (x ∷ xs) le = absurd (omega arith)
take_all (suc k) (x ∷ xs) le = ap (λ ys. x ∷ ys) (take_all k xs (omega arith))

-- a slice of a whole vector, written back
pub whole : {A : Type 0} (len : ℕ) (new old : List A) → length new ≡ len → length old ≡ len →
    take len (new ++ drop (length new) old) ≡ new
whole len new old n o = rw (drop_all (length new) old (omega arith), append-nil) (take_all len new (omega arith))
