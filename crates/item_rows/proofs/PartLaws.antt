-- Some records of a batch.
use Rattle.std.proofs.Common.{◌≡◌, ℕ, ◌+◌, ◌<◌, ◌≤◌, List, [], ◌∷◌, ◌++◌, length, take, drop, get_or, Option, sym}
use Rattle.std.proofs.Common.{ap, subst, ◌∙◌, arith, All}
use Rattle.std.specs.List.{AllByRecursion}
use Rattle.std.proofs.lemmas.List.{take-append-drop, get_or_default, get_or-drop}
use Rattle.wire_spec.specs.declared.{limits.TheConstants.MAX_RECORDS, record.Record.Record, record.Batch.Batch}
use Rattle.machine_spec.specs.Image.{Program}
use Rattle.log_spec.specs.declared.row.Row.{Row}
use Rattle.log_spec.specs.Logs.{FitsRecord, FitsLog, RowFits, IsRecordsRows}
use Rattle.log_spec.proofs.FittingRows.{batch_rows_fit}
use Rattle.exec.specs.Runs.{no_record}
use Rattle.fates.specs.{declared.fate.Fate.Fate, Fates.AreRecordsFates, Totals.Totals}
use Rattle.item_rows.specs.declared.{batch_run.BatchRun.BatchRun}
use Rattle.item_rows.specs.ItemRows.{IsOrigin, AreEmpty, rows_in}
use Rattle.item_rows.specs.Blocks.{records_from, with_records, program_in, ArePartRows, CanRun, HaveRun}
use Rattle.item_rows.proofs.RowLaws.{each_at}
use Rattle.item_rows.proofs.BlockLaws.{all_first, all_later, is_part, between_long}

-- ---- one record

-- a record of a batch that a log takes fits
pub fits_at : (batch : Batch) (number : ℕ) (given : Record) → FitsLog batch → number < length batch.records →
    given ≡ get_or batch.records number no_record → FitsRecord batch given
fits_at batch number given fits lt is =
    each_at (FitsRecord batch) batch.records number given fits.each lt
    (is ∙ get_or_default batch.records number no_record given lt)

-- a record is found by its number in what is left after the first ones
pub found_after : (all : List Record) (first k number : ℕ) (given : Record) → number ≡ first + k →
    number < length all → given ≡ get_or all number no_record → given ≡ get_or (drop first all) k given
found_after all first k number given at lt is =
    is
    ∙ (get_or_default all number no_record given lt
    ∙ (ap (λ (n : ℕ). get_or all n given) at ∙ sym (get_or-drop first all k given)))

-- ---- a batch with other records

module _ (input outputs : ℕ) (program : Option Program) (batch : Batch) (records : List Record) where
  pub rows_with : (output offset : ℕ) (given : List Record) (rows : List Row) →
      IsRecordsRows input output outputs program batch offset given rows →
      IsRecordsRows input output outputs program (with_records batch records) offset given rows
  rows_with output offset [] rows is = is
  rows_with output offset (g ∷ given) rows is =
      (is.0, is.1, is.2, rows_with output (offset + 1) given is.1 is.3, is.4)

  pub fates_with : (offset : ℕ) (given : List Record) (fates : List Fate) →
      AreRecordsFates input outputs program batch offset given fates →
      AreRecordsFates input outputs program (with_records batch records) offset given fates
  fates_with offset [] fates is = is
  fates_with offset (g ∷ given) fates is = (is.0, is.1, is.2, fates_with (offset + 1) given is.1 is.3, is.4)

fits_with : (batch : Batch) (records given : List Record) → AllByRecursion (FitsRecord batch) given →
    AllByRecursion (FitsRecord (with_records batch records)) given
fits_with batch records [] fits = tt
fits_with batch records (g ∷ given) fits = (
  record { limits = fits.0.limits; from = fits.0.from; to = fits.0.to },
  fits_with batch records given fits.1,
)

-- a batch of records that a log takes
pub log_fits : (batch : Batch) (given : List Record) → AllByRecursion (FitsRecord batch) given →
    length given ≤ MAX_RECORDS → FitsLog (with_records batch given)
log_fits batch given fits few = record { count = few; each = fits_with batch given given fits }

-- the rows of some records fit
pub part_fits : (input output outputs : ℕ) (program : Option Program) (batch : Batch) (offset : ℕ)
    (given : List Record) (rows : List Row) → AllByRecursion (FitsRecord batch) given → length given ≤ MAX_RECORDS →
    IsRecordsRows input output outputs program batch offset given rows → All RowFits rows
part_fits input output outputs program batch offset given rows fits few is =
    batch_rows_fit input output outputs program (with_records batch given) offset rows
    (log_fits batch given fits few) (rows_with input outputs program batch given output offset given rows is)

-- ---- records from a number on

module _ (batch : Batch) (first count : ℕ) (fits : FitsLog batch) (within : first + count ≤ length batch.records) where
  -- they fit
  pub fits_from : AllByRecursion (FitsRecord batch) (records_from first count batch.records)
  fits_from =
      let records = batch.records in
      let rest : AllByRecursion (FitsRecord batch) (drop first records) =
      all_later (FitsRecord batch) (take first records) (drop first records)
      (subst (λ (gs : List Record). AllByRecursion (FitsRecord batch) gs) (sym (take-append-drop first records))
      fits.each) in
      all_first (FitsRecord batch) (records_from first count records) (drop count (drop first records))
      (subst (λ (gs : List Record). AllByRecursion (FitsRecord batch) gs) (is_part records first count within).rest rest)

  -- and are as few
  pub few_from : length (records_from first count batch.records) ≤ MAX_RECORDS
  few_from = omega (arith, between_long batch.records first count within, within, fits.count)

module _ (run : BatchRun) (first count : ℕ) (fits : FitsLog run.batch.now)
    (within : first + count ≤ length run.batch.now.records) where
  -- they can be run and counted
  pub can_run_part : (counts : Totals) → IsOrigin run.origin.now → counts.records ≡ 0 →
      CanRun run (run.origin.now.offset + first) (records_from first count run.batch.now.records) counts
  can_run_part counts origin none =
      let long = between_long run.batch.now.records first count within in record {
        origin = origin;
        fits = fits_from run.batch.now first count fits within;
        few = omega (arith, long, within, fits.count, origin.offset);
        counted = omega (arith, long, within, fits.count, none);
      }

  abbrev Are : ℕ → List Row → Type 0
  Are q rows = IsRecordsRows run.origin.now.input q run.origin.now.outputs (program_in run) run.batch.now
      (run.origin.now.offset + first) (records_from first count run.batch.now.records) rows

  -- and their rows are those that were added where there were none
  pub part_rows : (outputs : ℕ) (old new : List (List Row)) (were are : Totals) → run.first ≡ 0 →
      outputs ≡ run.origin.now.outputs → AreEmpty outputs old → HaveRun run (run.origin.now.offset + first)
      (records_from first count run.batch.now.records) old new were are →
      ArePartRows run.origin.now (program_in run) run.batch.now first count new
  part_rows outputs old new were are all same none made = record {
    outputs = made.rows.count ∙ (none.count ∙ same);
    each = each;
    fit = λ q lt. part_fits run.origin.now.input q run.origin.now.outputs (program_in run) run.batch.now
        (run.origin.now.offset + first) (records_from first count run.batch.now.records) (rows_in new q)
        (fits_from run.batch.now first count fits within) (few_from run.batch.now first count fits within) (each q lt);
  }
    where
      each : (q : ℕ) → q < run.origin.now.outputs → Are q (rows_in new q)
      each q lt =
          let x = made.rows.each q (omega (arith, lt, none.count, same)) in
          let is : x.0 ≡ rows_in new q = sym (x.2 ∙ ap (λ (rs : List Row). rs ++ x.0) (none.each q)) in
          let at : run.first + q ≡ q = omega (arith, all) in
          subst (λ (rs : List Row). Are q rs) is (subst (λ (k : ℕ). Are k x.0) at x.1)
