-- Some records of a batch after others.
use Rattle.std.proofs.Common.{◌≡◌, ℕ, zero, suc, ◌+◌, ◌<◌, ◌≤◌, List, [], ◌∷◌, ◌++◌, length, take, drop, get_or}
use Rattle.std.proofs.Common.{slice_get, map, Option, Some, option_map, refl, sym, ap, subst, ◌∙◌, append_assoc, arith}
use Rattle.std.proofs.Common.{Result, Ok, Err, OnOk}
use Rattle.std.specs.List.{AllByRecursion}
use Rattle.std.proofs.lemmas.Option.{same_Some}
use Rattle.std.proofs.lemmas.List.{length-append, length-take, length-drop, append-nil, get_or_default, get_or-drop}
use Rattle.std.proofs.lemmas.List.{get_or-take, length-take-le, take_at, take-append-drop}
use Rattle.wire_spec.specs.declared.{limits.TheConstants.TIMESTAMP_END, record.Record.Record, record.Batch.Batch}
use Rattle.machine_spec.specs.declared.{outcome.Outcome.Outcome, outcome.Place.Place}
use Rattle.machine_spec.specs.{Image.Program, Meaning.IsPlace}
use Rattle.helpers.specs.declared.emitted.Emitted.{Emitted}
use Rattle.helpers.specs.declared.emitted.Emitted.TheVariants.{Cut, Made}
use Rattle.helpers.specs.declared.excerpts.Excerpt.{Excerpt}
use Rattle.exec.specs.{declared.ending.Ending.Ending, Abreast.AreGiven, Runs.no_record}
use Rattle.exec.specs.declared.ending.Ending.TheVariants.{Kept, Rejected}
use Rattle.exec.specs.Endings.{Ended, kept_alone, outcome_in, outcomes_of}
use Rattle.log_item.specs.Programs.{RunsSafelyOnEach}
use Rattle.log_spec.specs.declared.row.Row.{Row}
use Rattle.log_spec.specs.Logs.{timestamp_of, place_of, rows_of, FitsRecord, IsRecordRows, IsRecordsRows}
use Rattle.log_spec.proofs.{FittingBatches.within_limits, LogLaws.records-next, FittingRows.in_time}
use Rattle.fates.specs.{declared.fate.Fate.Fate, Totals.Totals, Totals.AreCounts}
use Rattle.fates.specs.Fates.{fate_of, IsFate, AreRecordsFates}
use Rattle.fates.proofs.FateLaws.{fates-next}
use Rattle.item_rows.specs.{declared.origin.Origin.Origin, declared.batch_run.BatchRun.BatchRun, ItemRows.IsOrigin}
use Rattle.item_rows.specs.ItemRows.{Adds}
use Rattle.item_rows.specs.Blocks.{places_from, records_from, rows_of_each, AreFatesMore, program_in, CanRun, HaveRun}
use Rattle.item_rows.proofs.RowLaws.{adds_none, adds_then, adds_as, each_at}

-- ---- fates that are counted

pub no_fates : (counts : Totals) → AreFatesMore [] counts counts
no_fates counts = record {
  counts = λ before are. subst (λ (fs : List Fate). AreCounts fs counts) (sym (append-nil before)) are;
  records = omega arith;
}

pub one_fate : (fate : Fate) (old new : Totals) →
    ((fates : List Fate) → AreCounts fates old → AreCounts (fates ++ fate ∷ []) new) → new.records ≡ old.records + 1 →
    AreFatesMore (fate ∷ []) old new
one_fate fate old new more count = record { counts = more; records = omega (arith, count) }

pub fates_then : (fates others : List Fate) (one two three : Totals) → AreFatesMore fates one two →
    AreFatesMore others two three → AreFatesMore (fates ++ others) one three
fates_then fates others one two three before after = record {
  counts = λ were are. subst (λ (fs : List Fate). AreCounts fs three) (append_assoc were fates others)
      (after.counts (were ++ fates) (before.counts were are));
  records = omega (arith, before.records, after.records, length-append fates others);
}

-- ---- records after others

module _ (input outputs : ℕ) (program : Option Program) (batch : Batch) (offset : ℕ) where
  next_at : (xs : List Record) (y : Record) → (offset + length xs) + 1 ≡ offset + length (xs ++ y ∷ [])
  next_at xs y = omega (arith, length-append xs (y ∷ []))

  pub rows_joined : (output : ℕ) (xs ys : List Record) (here later : List Row) →
      IsRecordsRows input output outputs program batch offset xs here →
      IsRecordsRows input output outputs program batch (offset + length xs) ys later →
      IsRecordsRows input output outputs program batch offset (xs ++ ys) (here ++ later)
  rows_joined output xs [] here later h is =
      subst (λ (gs : List Record). IsRecordsRows input output outputs program batch offset gs (here ++ later))
      (sym (append-nil xs))
      (subst (λ (rs : List Row). IsRecordsRows input output outputs program batch offset xs rs)
      (sym (ap (λ (rs : List Row). here ++ rs) is ∙ append-nil here)) h)
  rows_joined output xs (y ∷ ys) here later h is =
      let longer = records-next input output outputs program batch offset xs y here is.0 h is.2 in
      let rest = subst (λ (o : ℕ). IsRecordsRows input output outputs program batch o ys is.1) (next_at xs y) is.3 in
      let both = rows_joined output (xs ++ y ∷ []) ys (here ++ is.0) is.1 longer rest in
      subst (λ (gs : List Record). IsRecordsRows input output outputs program batch offset gs (here ++ later))
      (append_assoc xs (y ∷ []) ys)
      (subst (λ (rs : List Row). IsRecordsRows input output outputs program batch offset ((xs ++ y ∷ []) ++ ys) rs)
      (append_assoc here is.0 is.1 ∙ ap (λ (rs : List Row). here ++ rs) (sym is.4)) both)

  pub fates_joined : (xs ys : List Record) (here later : List Fate) →
      AreRecordsFates input outputs program batch offset xs here →
      AreRecordsFates input outputs program batch (offset + length xs) ys later →
      AreRecordsFates input outputs program batch offset (xs ++ ys) (here ++ later)
  fates_joined xs [] here later h is =
      subst (λ (gs : List Record). AreRecordsFates input outputs program batch offset gs (here ++ later))
      (sym (append-nil xs))
      (subst (λ (fs : List Fate). AreRecordsFates input outputs program batch offset xs fs)
      (sym (ap (λ (fs : List Fate). here ++ fs) is ∙ append-nil here)) h)
  fates_joined xs (y ∷ ys) here later h is =
      let longer = fates-next input outputs program batch offset xs y here is.0 h is.2 in
      let rest = subst (λ (o : ℕ). AreRecordsFates input outputs program batch o ys is.1) (next_at xs y) is.3 in
      let both = fates_joined (xs ++ y ∷ []) ys (here ++ is.0 ∷ []) is.1 longer rest in
      subst (λ (gs : List Record). AreRecordsFates input outputs program batch offset gs (here ++ later))
      (append_assoc xs (y ∷ []) ys)
      (subst (λ (fs : List Fate). AreRecordsFates input outputs program batch offset ((xs ++ y ∷ []) ++ ys) fs)
      (append_assoc here (is.0 ∷ []) is.1 ∙ ap (λ (fs : List Fate). here ++ fs) (sym is.4)) both)

  pub fates_long : (at : ℕ) (xs : List Record) (fates : List Fate) →
      AreRecordsFates input outputs program batch at xs fates → length fates ≡ length xs
  fates_long at [] fates is = ap length is
  fates_long at (x ∷ xs) fates is = ap length is.4 ∙ ap suc (fates_long (at + 1) xs is.1 is.3)

-- ---- runs of records

module _ (run : BatchRun) (offset : ℕ) where
  abbrev input : ℕ
  input = run.origin.now.input

  abbrev outputs : ℕ
  outputs = run.origin.now.outputs

  abbrev batch : Batch
  batch = run.batch.now

  abbrev Rows : ℕ → List Record → ℕ → List Row → Type 0
  Rows at given output rows = IsRecordsRows input output outputs (program_in run) batch at given rows

  pub run_counted : (given : List Record) (old new : List (List Row)) (were are : Totals) →
      HaveRun run offset given old new were are → are.records ≡ were.records + length given
  run_counted given old new were are made =
      omega (
        arith,
        made.counts.records,
        fates_long input outputs (program_in run) batch offset offset given made.fates made.fates_are,
      )

  pub none_run : (all : List (List Row)) (counts : Totals) → HaveRun run offset [] all all counts counts
  none_run all counts = record {
    rows = adds_none run.first all (Rows offset []) (λ output. refl);
    fates = [];
    fates_are = refl;
    counts = no_fates counts;
  }

  pub one_run : (given : Record) (fate : Fate) (old new : List (List Row)) (were are : Totals) →
      IsFate (program_in run) (place_of input outputs offset batch given) given fate →
      Adds run.first old new
      (λ output here. IsRecordRows output (program_in run) (place_of input outputs offset batch given) given here) →
      AreFatesMore (fate ∷ []) were are → HaveRun run offset (given ∷ []) old new were are
  one_run given fate old new were are is adds more = record {
    rows = adds_as run.first old new
        (λ output here. IsRecordRows output (program_in run) (place_of input outputs offset batch given) given here)
        (Rows offset (given ∷ [])) adds (λ output here made. (here, [], made, refl, sym (append-nil here)));
    fates = fate ∷ [];
    fates_are = (fate, [], is, refl, refl);
    counts = more;
  }

  pub run_then : (given others : List Record) (one two three : List (List Row)) (were are sum : Totals) →
      HaveRun run offset given one two were are → HaveRun run (offset + length given) others two three are sum →
      HaveRun run offset (given ++ others) one three were sum
  run_then given others one two three were are sum before after = record {
    rows = adds_then run.first one two three (Rows offset given) (Rows (offset + length given) others)
        (Rows offset (given ++ others)) before.rows after.rows
        (λ output here later h is. rows_joined input outputs (program_in run) batch offset
        output given others here later
        h is);
    fates = before.fates ++ after.fates;
    fates_are = fates_joined input outputs (program_in run) batch offset given others before.fates after.fates
        before.fates_are after.fates_are;
    counts = fates_then before.fates after.fates were are sum before.counts after.counts;
  }

-- ---- places

pub place_ranges : (origin : Origin) (batch : Batch) (offset : ℕ) (given : Record) → IsOrigin origin →
    offset < TIMESTAMP_END → FitsRecord batch given →
    IsPlace (place_of origin.input origin.outputs offset batch given)
place_ranges origin batch offset given is small fits = record {
  partition = is.input;
  offset = small;
  timestamp = in_time (timestamp_of batch given) fits.from fits.to;
  some_output = is.some_output;
  outputs = is.outputs;
}

pub places_long : (input outputs : ℕ) (batch : Batch) (offset : ℕ) (given : List Record) →
    length (places_from input outputs batch offset given) ≡ length given
places_long _ _ _ _ [] = refl
places_long input outputs batch offset (g ∷ given) = ap suc (places_long input outputs batch (offset + 1) given)

pub places-next : (input outputs : ℕ) (batch : Batch) (offset : ℕ) (given : List Record) (g : Record) →
    places_from input outputs batch offset (given ++ g ∷ [])
    ≡ places_from input outputs batch offset given ++ place_of input outputs (offset + length given) batch g ∷ []
places-next input outputs batch offset [] g =
    let at : offset ≡ offset + 0 = omega arith in
    ap (λ (o : ℕ). place_of input outputs o batch g ∷ []) at
places-next input outputs batch offset (x ∷ given) g =
    let at : (offset + 1) + length given ≡ offset + length (x ∷ given) = omega arith in
    let rest = places-next input outputs batch (offset + 1) given g in
    ap (λ (ps : List Place). place_of input outputs offset batch x ∷ ps)
    (rest ∙ ap (λ (o : ℕ). places_from input outputs batch (offset + 1) given ++ place_of input outputs o batch g ∷ [])
    at)

module _ (origin : Origin) (batch : Batch) (is : IsOrigin origin) where
  abbrev places : ℕ → List Record → List Place
  places offset given = places_from origin.input origin.outputs batch offset given

  each_in_range : (offset : ℕ) (given : List Record) → AllByRecursion (FitsRecord batch) given →
      offset + length given ≤ TIMESTAMP_END → (i : ℕ) (p : Place) → i < length given →
      IsPlace (get_or (places offset given) i p)
  each_in_range offset [] fits few i p lt = absurd (omega (arith, lt))
  each_in_range offset (g ∷ given) fits few zero p lt =
      place_ranges origin batch offset g is (omega (arith, few)) fits.0
  each_in_range offset (g ∷ given) fits few (suc i) p lt =
      each_in_range (offset + 1) given fits.1 (omega (arith, few)) i p (omega (arith, lt))

  pub places_given : (offset : ℕ) (given : List Record) → AllByRecursion (FitsRecord batch) given →
      offset + length given ≤ TIMESTAMP_END → AreGiven given (places offset given)
  places_given offset given fits few = record {
    long = places_long origin.input origin.outputs batch offset given;
    limits = λ i g p lt. within_limits (get_or given i g) (get_or (places offset given) i p)
        (each_at (FitsRecord batch) given i (get_or given i g) fits lt
        (get_or_default given i g (get_or given i g) lt)).limits;
    ranges = λ i p lt. each_in_range offset given fits few i p lt;
  }

-- ---- outcomes

pub outcomes-next : (output : ℕ) (places : List Place) (outcomes : List Outcome) (place : Place) (outcome : Outcome) →
    length outcomes < length places → place ≡ get_or places (length outcomes) place →
    rows_of_each output places (outcomes ++ outcome ∷ [])
    ≡ rows_of_each output places outcomes ++ rows_of output place outcome
outcomes-next output [] outcomes place outcome lt at = absurd (omega (arith, lt))
outcomes-next output (p ∷ places) [] place outcome lt at =
    append-nil (rows_of output p outcome) ∙ ap (λ (q : Place). rows_of output q outcome) (sym at)
outcomes-next output (p ∷ places) (o ∷ outcomes) place outcome lt at =
    let below : length outcomes < length places = omega (arith, lt) in
    ap (λ (rs : List Row). rows_of output p o ++ rs) (outcomes-next output places outcomes place outcome below at)
    ∙ sym (append_assoc (rows_of output p o) (rows_of_each output places outcomes) (rows_of output place outcome))

-- the rows of one more outcome of a block
pub outcome_more : (first : ℕ) (places : List Place) (outcomes : List Outcome) (k : ℕ) (place : Place)
    (outcome : Outcome) (one two three : List (List Row)) → k < length places → k < length outcomes →
    place ≡ get_or places k place → Adds first one two (λ q here. here ≡ rows_of_each q places (take k outcomes)) →
    Adds first two three (λ q here. here ≡ rows_of q place outcome) →
    Adds first one three (λ q here. here ≡ rows_of_each q places (take k outcomes ++ outcome ∷ []))
outcome_more first places outcomes k place outcome one two three lt within at before after =
    let done = take k outcomes in let long : length done ≡ k = omega (arith, length-take k outcomes, within) in
    adds_then first one two three (λ q here. here ≡ rows_of_each q places done)
    (λ q here. here ≡ rows_of q place outcome) (λ q here. here ≡ rows_of_each q places (done ++ outcome ∷ [])) before
    after
    (λ q here later is are. ap (λ (rs : List Row). rs ++ later) is
    ∙ (ap (λ (rs : List Row). rows_of_each q places done ++ rs) are
    ∙ sym (outcomes-next q places done place outcome (omega (arith, long, lt))
    (at ∙ ap (λ (n : ℕ). get_or places n place) (sym long)))))

module _ (input outputs : ℕ) (program : Program) (batch : Batch) where
  abbrev Meant : ℕ → List Record → List Outcome → Type 0
  Meant offset given outcomes =
      RunsSafelyOnEach program given (places_from input outputs batch offset given) outcomes

  later : (offset : ℕ) (g : Record) (given : List Record) (o : Outcome) (outcomes : List Outcome) →
      Meant offset (g ∷ given) (o ∷ outcomes) → Meant (offset + 1) given outcomes
  later offset g given o outcomes are = record {
    long = omega (arith, are.long);
    each = λ i r p e lt. are.each (suc i) r p e (omega (arith, lt));
  }

  rows_meant : (output offset : ℕ) (given : List Record) (outcomes : List Outcome) → Meant offset given outcomes →
      IsRecordsRows input output outputs (Some program) batch offset given
      (rows_of_each output (places_from input outputs batch offset given) outcomes)
  rows_meant output offset [] [] are = refl
  rows_meant output offset [] (o ∷ outcomes) are = absurd (omega (arith, are.long))
  rows_meant output offset (g ∷ given) [] are = absurd (omega (arith, are.long))
  rows_meant output offset (g ∷ given) (o ∷ outcomes) are =
      let here = are.each 0 g (place_of input outputs offset batch g) o (omega arith) in (
        rows_of output (place_of input outputs offset batch g) o,
        rows_of_each output (places_from input outputs batch (offset + 1) given) outcomes,
        (o, here.count, here.means, refl),
        rows_meant output (offset + 1) given outcomes (later offset g given o outcomes are),
        refl,
      )

  fates_meant : (offset : ℕ) (given : List Record) (outcomes : List Outcome) → Meant offset given outcomes →
      AreRecordsFates input outputs (Some program) batch offset given (map fate_of outcomes)
  fates_meant offset [] [] are = refl
  fates_meant offset [] (o ∷ outcomes) are = absurd (omega (arith, are.long))
  fates_meant offset (g ∷ given) [] are = absurd (omega (arith, are.long))
  fates_meant offset (g ∷ given) (o ∷ outcomes) are =
      let here = are.each 0 g (place_of input outputs offset batch g) o (omega arith) in (
        fate_of o,
        map fate_of outcomes,
        (o, here.count, here.means, refl),
        fates_meant (offset + 1) given outcomes (later offset g given o outcomes are),
        refl,
      )

-- the rows and the fates of what a program means on some records
pub meant_run : (run : BatchRun) (offset : ℕ) (program : Program) (given : List Record) (outcomes : List Outcome)
    (old new : List (List Row)) (were are : Totals) → program_in run ≡ Some program →
    RunsSafelyOnEach program given
    (places_from run.origin.now.input run.origin.now.outputs run.batch.now offset given) outcomes →
    Adds run.first old new (λ output here. here ≡ rows_of_each output
    (places_from run.origin.now.input run.origin.now.outputs run.batch.now offset given) outcomes) →
    AreFatesMore (map fate_of outcomes) were are → HaveRun run offset given old new were are
meant_run run offset program given outcomes old new were are same meant adds more =
    let input = run.origin.now.input in let outputs = run.origin.now.outputs in let batch = run.batch.now in record {
      rows = adds_as run.first old new (λ output here. here ≡ rows_of_each output
          (places_from input outputs batch offset given) outcomes)
          (λ output here. IsRecordsRows input output outputs (program_in run) batch offset given here) adds
          (λ output here is. subst (λ (p : Option Program). IsRecordsRows input output outputs
          p batch offset given here)
          (sym same) (subst (λ (rs : List Row). IsRecordsRows input output outputs (Some program) batch offset given rs)
          (sym is) (rows_meant input outputs program batch output offset given outcomes meant)));
      fates = map fate_of outcomes;
      fates_are = subst (λ (p : Option Program). AreRecordsFates input outputs p batch offset
          given (map fate_of outcomes))
          (sym same) (fates_meant input outputs program batch offset given outcomes meant);
      counts = more;
    }

-- ---- the outcomes of a block's records

pub outcomes_long : (records : List Record) (ended : List Ended) → length records ≡ length ended →
    length (outcomes_of records ended) ≡ length records
outcomes_long [] ended long = refl
outcomes_long (given ∷ records) [] long = absurd (omega (arith, long))
outcomes_long (given ∷ records) (first ∷ ended) long =
    ap suc (outcomes_long records ended (omega (arith, long)))

pub outcome_here : (records : List Record) (ended : List Ended) (k : ℕ) (g : Record) (e : Ended) →
    k < length records → k < length ended → g ≡ get_or records k g → slice_get ended k ≡ Some e →
    slice_get (outcomes_of records ended) k ≡ Some (outcome_in g e)
outcome_here [] ended k g e lt within is at = absurd (omega arith)
outcome_here (given ∷ records) [] k g e lt within is at = absurd (omega arith)
outcome_here (given ∷ records) (first ∷ ended) zero g e lt within is at =
    ap (λ (r : Record). Some (outcome_in r first)) (sym is) ∙ ap (option_map (outcome_in g)) at
outcome_here (given ∷ records) (first ∷ ended) (suc k) g e lt within is at =
    outcome_here records ended k g e (omega arith) (omega arith) is at

-- ---- parts of lists

pub all_first : {A : Type 0} (P : A → Type 0) (xs ys : List A) → AllByRecursion P (xs ++ ys) → AllByRecursion P xs
all_first P [] ys all = tt
all_first P (x ∷ xs) ys all = (all.0, all_first P xs ys all.1)

pub all_later : {A : Type 0} (P : A → Type 0) (xs ys : List A) → AllByRecursion P (xs ++ ys) → AllByRecursion P ys
all_later P [] ys all = all
all_later P (x ∷ xs) ys all = all_later P xs ys all.1

-- ---- records that are left, and calls that may fail

-- one of so many records from a number on
pub between_at : (all : List Record) (from count k : ℕ) (g : Record) → k < count → from + count ≤ length all →
    g ≡ get_or all (from + k) no_record → g ≡ get_or (records_from from count all) k g
between_at all from count k g lt le is =
    let within : from + k < length all = omega (arith, lt, le) in
    is
    ∙ (get_or_default all (from + k) no_record g within
    ∙ (sym (get_or-drop from all k g) ∙ sym (get_or-take count (drop from all) k g lt)))

pub between_long : (all : List Record) (from count : ℕ) → from + count ≤ length all →
    length (records_from from count all) ≡ count
between_long all from count le =
    let long = length-drop from all in
    length-take-le count (drop from all) (omega (arith, long, le))

-- the records that are left after others can be run
pub can_run_rest : (run : BatchRun) (first at : ℕ) (records done rest : List Record) (old new : List (List Row))
    (were are : Totals) → CanRun run first records were → done ++ rest ≡ records → at ≡ first + length done →
    HaveRun run first done old new were are → CanRun run at rest are
can_run_rest run first at records done rest old new were are can parts here made =
    let both = length-append done rest in let whole = ap length parts in let counted =
    run_counted run first done old new were are made in
    record {
      origin = can.origin;
      fits = all_later (FitsRecord run.batch.now) done rest
          (subst (λ (gs : List Record). AllByRecursion (FitsRecord run.batch.now) gs) (sym parts) can.fits);
      few = omega (arith, here, both, whole, can.few);
      counted = omega (arith, counted, both, whole, can.counted);
    }

-- the first of records that can be run
pub can_run_first : (run : BatchRun) (at : ℕ) (here later : List Record) (counts : Totals) →
    CanRun run at (here ++ later) counts → CanRun run at here counts
can_run_first run at here later counts can =
    let both = length-append here later in
    record {
      origin = can.origin;
      fits = all_first (FitsRecord run.batch.now) here later can.fits;
      few = omega (arith, both, can.few);
      counted = omega (arith, both, can.counted);
    }

pub on_ok : {A E : Type 0} (result : Result A E) (P Q : Type 0) → (P → Q) → OnOk result P → OnOk result Q
on_ok (Ok value) P Q so p = so p
on_ok (Err fault) P Q so p = tt

-- ---- some of the records after the first ones

pub record IsPart (records : List Record) (done count : ℕ) : Type 0 where
  pub long : length (take count (drop done records)) ≡ count
  pub rest : drop done records ≡ take count (drop done records) ++ drop count (drop done records)
  pub more : take (done + count) records ≡ take done records ++ take count (drop done records)

pub is_part : (records : List Record) (done count : ℕ) → done + count ≤ length records → IsPart records done count
is_part records done count le =
    let front = take done records in let rest = drop done records in
    let here = take count rest in let later = drop count rest in
    let long : length here ≡ count = length-take-le count rest (omega (arith, le, length-drop done records)) in
    let front_long : length front ≡ done = length-take-le done records (omega (arith, le)) in
    let both : length (front ++ here) ≡ done + count = omega (arith, length-append front here, long, front_long) in
    let parts : here ++ later ≡ rest = take-append-drop count rest in
    let whole : (front ++ here) ++ later ≡ records =
    append_assoc front here later ∙ (ap (λ (rs : List Record). front ++ rs) parts ∙ take-append-drop done records) in
    record {
      long = long;
      rest = sym parts;
      more = ap (take (done + count)) (sym whole) ∙ take_at (front ++ here) later (done + count) both;
    }

-- ---- a record of which one excerpt is kept

-- what it emitted
pub alone_is : (ending : Ending) (emitted : List Emitted) (one : Excerpt) → Some one ≡ kept_alone ending emitted →
    (ending ≡ Kept) × (emitted ≡ Cut one ∷ [])
alone_is Kept [] one is = absurd cc
alone_is Kept (Made emission ∷ rest) one is = absurd cc
alone_is Kept (Cut other ∷ []) one is = (refl, ap (λ (e : Excerpt). Cut e ∷ []) (sym (same_Some one other is)))
alone_is Kept (Cut other ∷ more ∷ rest) one is = absurd cc
alone_is (Rejected code) emitted one is = absurd cc
