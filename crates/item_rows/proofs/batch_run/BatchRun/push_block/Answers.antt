use Rattle.std.proofs.Common.{◌≡◌, ℕ, ◌+◌, ◌<◌, ◌≤◌, List, length, map, get_or, sym, ap, subst, ◌∙◌}
use Rattle.std.proofs.Common.{arith}
use Rattle.std.specs.List.{AllByRecursion}
use Rattle.wire_spec.specs.declared.{limits.TheConstants.TIMESTAMP_END, record.Record.Record}
use Rattle.machine_spec.specs.{declared.outcome.Place.Place, Meaning.IsPlace}
use Rattle.exec.specs.Endings.{outcomes_of}
use Rattle.log_item.specs.Programs.{RunsSafelyOnEach}
use Rattle.log_spec.specs.Logs.{FitsRecord}
use Rattle.fates.specs.Fates.{fate_of}
use Rattle.item_rows.specs.ItemRows.{Adds}
use Rattle.item_rows.specs.Blocks.{records_from, rows_of_each, AreFatesMore, HaveRun}
use Rattle.item_rows.proofs.BlockLaws.{places_given, places_long, meant_run, between_long}
use Rattle.item_rows.proofs.batch_run.BatchRun.push_block.Goals as goal

pub references-requires : goal.references-requires
references-requires c = c.requires.part.within

pub run_block-requires-clause-fits : goal.run_block-requires-clause-fits
run_block-requires-clause-fits c =
    subst (λ (gs : List Record). AllByRecursion (FitsRecord c.args.self.now.batch.now) gs)
    (sym (c.as_slice.ensures.value ∙ c.in_ok-records.ensures)) c.requires.run.fits

pub run_block-requires-clause-few : goal.run_block-requires-clause-few
run_block-requires-clause-few c =
    omega (
      arith,
      ap length (c.as_slice.ensures.value ∙ c.in_ok-records.ensures),
      c.offset_of.ensures,
      c.requires.run.few,
    )

pub run_block-requires-clause-block : goal.run_block-requires-clause-block
run_block-requires-clause-block c =
    omega (
      arith,
      ap length (c.as_slice.ensures.value ∙ c.in_ok-records.ensures),
      between_long c.args.self.now.batch.now.records c.args.part.first c.args.part.count c.requires.part.within,
      c.requires.part.few,
    )

pub push_outcomes-requires-clause-places : goal.push_outcomes-requires-clause-places
push_outcomes-requires-clause-places c =
    let run = c.args.self.now in
    omega (
      arith,
      ap length (c.as_slice-2.ensures.value ∙ c.in_ok-places.ensures.places),
      places_long run.origin.now.input run.origin.now.outputs run.batch.now c.offset_of.result c.as_slice.result.now,
      c.in_ok-places.ensures.long,
    )

pub push_outcomes-requires-clause-records : goal.push_outcomes-requires-clause-records
push_outcomes-requires-clause-records c =
    omega (
      arith,
      c.in_ok-places.ensures.long,
      ap length (c.as_slice.ensures.value ∙ c.in_ok-records.ensures),
      between_long c.args.self.now.batch.now.records c.args.part.first c.args.part.count c.requires.part.within,
      c.requires.part.within,
    )

pub push_outcomes-requires-clause-ranges : goal.push_outcomes-requires-clause-ranges
push_outcomes-requires-clause-ranges c =
    let run = c.args.self.now in let here = c.as_slice.result.now in
    let is = c.as_slice.ensures.value ∙ c.in_ok-records.ensures in
    let fits = subst (λ (gs : List Record). AllByRecursion (FitsRecord run.batch.now) gs) (sym is)
    c.requires.run.fits in
    let few : c.offset_of.result + length here ≤ TIMESTAMP_END =
    omega (arith, ap length is, c.offset_of.ensures, c.requires.run.few) in
    let given = places_given run.origin.now run.batch.now c.requires.run.origin c.offset_of.result here fits few in
    subst (λ (ps : List Place). (k : ℕ) (p : Place) → k < length ps → IsPlace (get_or ps k p))
    (sym (c.as_slice-2.ensures.value ∙ c.in_ok-places.ensures.places))
    (λ k p lt. given.ranges k p (omega (arith, lt, given.long)))

pub push_outcomes-requires-clause-few : goal.push_outcomes-requires-clause-few
push_outcomes-requires-clause-few c =
    omega (
      arith,
      c.requires.run.counted,
      ap length (c.as_slice.ensures.value ∙ c.in_ok-records.ensures),
      c.in_ok-places.ensures.long,
    )

pub returns : goal.returns
returns c =
    let run = c.args.self.now in let program = c.args.program.now in let first = c.args.part.first in
    let count = c.args.part.count in let records = run.batch.now.records in let here = c.as_slice.result.now in
    let old = c.args.all.now in let new = c.push_outcomes.new.all in let were = c.args.counts.now in
    let are = c.push_outcomes.new.counts in let block = c.run_block.new.block in
    let outcomes = outcomes_of here block in let at = c.in_ok-places.ensures.places in
    let is : here ≡ records_from first count records = c.as_slice.ensures.value ∙ c.in_ok-records.ensures in
    let long : length block ≡ count = c.in_ok-places.ensures.long
    ∙ (ap length is ∙ between_long records first count c.requires.part.within) in
    let same : records_from first (length block) records ≡ here =
    ap (λ (n : ℕ). records_from first n records) long ∙ sym is in
    let meant = subst (λ (ps : List Place). RunsSafelyOnEach program here ps outcomes) at
    c.in_ok-places.ensures.outcomes in
    let adds = subst (λ (ps : List Place). Adds run.first old new (λ q rows. rows ≡ rows_of_each q ps outcomes))
    (c.as_slice-2.ensures.value ∙ at)
    (subst (λ (gs : List Record). Adds run.first old new (λ q rows. rows ≡ rows_of_each q
    c.as_slice-2.result.now (outcomes_of gs block))) same c.in_ok-push_outcomes.ensures.rows) in
    let made = meant_run run c.offset_of.result program here outcomes old new were are c.requires.program meant adds
    (subst (λ (gs : List Record). AreFatesMore (map fate_of (outcomes_of gs block)) were are) same
    c.in_ok-push_outcomes.ensures.counts) in
    subst (λ (o : ℕ). HaveRun run o (records_from first count records) old new were are) c.offset_of.ensures
    (subst (λ (gs : List Record). HaveRun run c.offset_of.result gs old new were are) is made)
