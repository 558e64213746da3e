use Rattle.std.proofs.Common.{◌≡◌, ℕ, ◌+◌, ◌-◌, ◌<◌, ◌++◌, List, [], ◌∷◌, length, take, drop, get_or, Some, refl, sym}
use Rattle.std.proofs.Common.{ap, subst, ◌∙◌, arith}
use Rattle.std.proofs.lemmas.List.{take_more, length-take, length-drop}
use Rattle.wire_spec.specs.declared.record.Record.{Record}
use Rattle.machine_spec.specs.{declared.outcome.Place.Place, Meaning.IsPlace}
use Rattle.log_spec.specs.Logs.{IsRecordRows, IsRecordsRows, place_of, rows_of}
use Rattle.log_spec.proofs.{FittingBatches.within_limits, LogLaws.records-next}
use Rattle.item_rows.proofs.{RowLaws.take_all, BlockLaws.place_ranges, PartLaws.fits_at, PartLaws.found_after}
use Rattle.item_rows.proofs.batch_run.BatchRun.drop_rest.Goals as goal

pub offset_of-requires : goal.offset_of-requires
offset_of-requires c =
    omega (
      arith,
      c.requires.origin.offset,
      c.len-fits.ensures.fits.count,
      c.len-number-end.ensures.count,
      c.loop-number-test.true,
    )

pub new-found-requires : goal.new-found-requires
new-found-requires c = omega (arith, c.len-number-end.ensures.count, c.loop-number-test.true)

pub place-at-requires-clause-from : goal.place-at-requires-clause-from
place-at-requires-clause-from c =
    (fits_at c.args.self.now.batch.now c.loop-number.number c.record-given.result
    c.len-fits.ensures.fits (omega (arith, c.len-number-end.ensures.count, c.loop-number-test.true))
    (c.record-given.ensures ∙ c.new-found.ensures)).from

pub place-at-requires-clause-to : goal.place-at-requires-clause-to
place-at-requires-clause-to c =
    (fits_at c.args.self.now.batch.now c.loop-number.number c.record-given.result
    c.len-fits.ensures.fits (omega (arith, c.len-number-end.ensures.count, c.loop-number-test.true))
    (c.record-given.ensures ∙ c.new-found.ensures)).to

pub run_into-ending-requires-clause-limits : goal.run_into-ending-requires-clause-limits
run_into-ending-requires-clause-limits c =
    within_limits c.record-given.result c.place-at.result
    (fits_at c.args.self.now.batch.now c.loop-number.number c.record-given.result
    c.len-fits.ensures.fits (omega (arith, c.len-number-end.ensures.count, c.loop-number-test.true))
    (c.record-given.ensures ∙ c.new-found.ensures)).limits

pub run_into-ending-requires-clause-place : goal.run_into-ending-requires-clause-place
run_into-ending-requires-clause-place c =
    let run = c.args.self.now in
    let lt : c.loop-number.number < length run.batch.now.records =
    omega (arith, c.len-number-end.ensures.count, c.loop-number-test.true) in
    let fits = fits_at run.batch.now c.loop-number.number c.record-given.result
    c.len-fits.ensures.fits lt (c.record-given.ensures ∙ c.new-found.ensures) in
    subst IsPlace (sym c.place-at.ensures)
    (place_ranges run.origin.now run.batch.now c.offset_of.result c.record-given.result c.requires.origin
    (omega (arith, c.offset_of.ensures, c.requires.origin.offset, c.len-fits.ensures.fits.count, lt)) fits)

pub loop-number-init : goal.loop-number-init
loop-number-init c output =
    let run = c.args.self.now in let first = c.args.first in let records = drop first run.batch.now.records in
    let none : 0 ≡ first - first = omega arith in (
      [],
      subst (λ (n : ℕ). IsRecordsRows run.origin.now.input output run.origin.now.outputs (Some c.args.program.now)
          run.batch.now (run.origin.now.offset + first) (take n records) []) none refl,
    )

pub loop-number-preserved : goal.loop-number-preserved
loop-number-preserved c output =
    let run = c.args.self.now in let input = run.origin.now.input in let outputs = run.origin.now.outputs in
    let batch = run.batch.now in let program = c.args.program.now in let first = c.args.first in
    let all = batch.records in let records = drop first all in let offset = run.origin.now.offset + first in
    let number = c.loop-number.number in let k = number - first in let given = c.record-given.result in
    let before = c.loop-number.invariant output in
    let below : number < length all = omega (arith, c.len-number-end.ensures.count, c.loop-number-test.true) in
    let after : number ≡ first + k = omega arith in
    let lt : k < length records = omega (arith, below, after, length-drop first all) in
    let is : given ≡ get_or records k given =
    found_after all first k number given after below (c.record-given.ensures ∙ c.new-found.ensures) in
    let longer : take (k + 1) records ≡ take k records ++ given ∷ [] = take_more records k given lt
    ∙ ap (λ (g : Record). take k records ++ g ∷ []) (sym is) in
    let next : number + 1 - first ≡ k + 1 = omega arith in
    let at : c.offset_of.result ≡ offset + length (take k records) =
    omega (arith, c.offset_of.ensures, after, lt, length-take k records) in
    let here : c.place-at.result ≡ place_of input outputs (offset + length (take k records)) batch given =
    c.place-at.ensures ∙ ap (λ (o : ℕ). place_of input outputs o batch given) at in
    let (outcome, safe, told) = c.run_into-ending.ensures.safe in
    let rows = rows_of output c.place-at.result outcome in
    let one : IsRecordRows output (Some program) (place_of input outputs (offset + length (take k records)) batch given)
    given rows =
    subst (λ (p : Place). IsRecordRows output (Some program) p given rows) here
    (outcome, safe.count, safe.means, refl) in
    let both = records-next input output outputs (Some program) batch offset (take k records) given before.0 rows
    before.1 one in (
      before.0 ++ rows,
      subst (λ (gs : List Record). IsRecordsRows input output outputs (Some program) batch offset gs
          (before.0 ++ rows)) (sym longer ∙ ap (λ (n : ℕ). take n records) (sym next)) both,
    )

pub returns : goal.returns
returns c output =
    let run = c.args.self.now in let first = c.args.first in let records = drop first run.batch.now.records in
    let rows = c.loop-number.invariant output in
    let whole : take (c.loop-number.number - first) records ≡ records =
    take_all (c.loop-number.number - first) records
    (omega (
      arith,
      length-drop first run.batch.now.records,
      c.len-number-end.ensures.count,
      c.loop-number-test.false,
    )) in (
      rows.0,
      subst (λ (gs : List Record). IsRecordsRows run.origin.now.input output run.origin.now.outputs
          (Some c.args.program.now) run.batch.now (run.origin.now.offset + first) gs rows.0) whole rows.1,
    )
