use Rattle.std.proofs.Common.{◌≡◌, ℕ, ◌+◌, ◌-◌, ◌<◌, ◌++◌, List, length, take, drop, get_or, sym, ap, subst, ◌∙◌, arith}
use Rattle.std.proofs.Common.{[], ◌∷◌}
use Rattle.std.proofs.lemmas.List.{take_more, length-take, length-drop}
use Rattle.wire_spec.specs.declared.record.Record.{Record}
use Rattle.machine_spec.specs.declared.outcome.Place.{Place}
use Rattle.log_spec.specs.Logs.{IsRecordRows, place_of}
use Rattle.log_spec.proofs.FittingBatches.{within_limits}
use Rattle.fates.specs.Fates.{IsFate}
use Rattle.item_rows.specs.{ItemRows.Adds, Blocks.records_from, Blocks.program_in, Blocks.HaveRun}
use Rattle.item_rows.proofs.BlockLaws.{one_fate, one_run, run_then, run_counted, between_long}
use Rattle.item_rows.proofs.PartLaws.{fits_at, found_after}
use Rattle.item_rows.proofs.batch_run.BatchRun.push_each.Goals as goal

pub add-requires : goal.add-requires
add-requires c =
    let run = c.args.self.now in let first = c.args.part.first in let all = run.batch.now.records in
    let k = c.loop-number.number - first in
    omega (
      arith,
      run_counted run (run.origin.now.offset + first) (records_from first k all) c.args.all.now c.loop-number.all
          c.args.counts.now c.loop-number.counts c.loop-number.invariant,
      between_long all first k (omega (arith, c.requires.part.within, c.loop-number-test.true)),
      between_long all first c.args.part.count c.requires.part.within,
      c.requires.run.counted,
      c.loop-number-test.true,
    )

pub push_record-requires-clause-limits : goal.push_record-requires-clause-limits
push_record-requires-clause-limits c =
    within_limits c.new-found.result c.place-at.result
    (fits_at c.args.self.now.batch.now c.loop-number.number c.new-found.result c.len-few.ensures.fits
    (omega (arith, c.requires.part.within, c.loop-number-test.true)) c.new-found.ensures).limits

pub loop-number-preserved : goal.loop-number-preserved
loop-number-preserved c =
    let run = c.args.self.now in let input = run.origin.now.input in let outputs = run.origin.now.outputs in
    let batch = run.batch.now in let first = c.args.part.first in let all = batch.records in
    let records = drop first all in let offset = run.origin.now.offset + first in let number = c.loop-number.number in
    let k = number - first in let given = c.new-found.result in
    let old = c.loop-number.all in let new = c.push_record.new.all in let were = c.loop-number.counts in
    let are = c.add.new.self in let fate = c.in_ok-fate.fate in
    let below : number < length all = omega (arith, c.requires.part.within, c.loop-number-test.true) in
    let after : number ≡ first + k = omega arith in
    let lt : k < length records = omega (arith, below, after, length-drop first all) in
    let is : given ≡ get_or records k given = found_after all first k number given after below c.new-found.ensures in
    let longer : take (k + 1) records ≡ take k records ++ given ∷ [] = take_more records k given lt
    ∙ ap (λ (g : Record). take k records ++ g ∷ []) (sym is) in
    let next : number + 1 - first ≡ k + 1 = omega arith in
    let at : c.offset_of.result ≡ offset + length (take k records) =
    omega (arith, c.offset_of.ensures, after, lt, length-take k records) in
    let here : c.place-at.result ≡ place_of input outputs (offset + length (take k records)) batch given =
    c.place-at.ensures
    ∙ (ap (λ (g : Record). place_of input outputs c.offset_of.result batch g) c.record.ensures
    ∙ ap (λ (o : ℕ). place_of input outputs o batch given) at) in
    let met = subst (λ (p : Place). IsFate (program_in run) p given fate) here c.in_ok-fate.ensures.0 in
    let adds = subst (λ (p : Place). Adds run.first old new (λ q rows. IsRecordRows q (program_in run) p given
    rows)) here c.in_ok-fate.ensures.1 in
    let one = one_run run (offset + length (take k records)) given fate old new were are met adds
    (one_fate fate were are c.in_ok-add.ensures.counts c.in_ok-add.ensures.records) in
    subst (λ (gs : List Record). HaveRun run offset gs c.args.all.now new c.args.counts.now are)
    (sym longer ∙ ap (λ (n : ℕ). take n records) (sym next))
    (run_then run offset (take k records) (given ∷ []) c.args.all.now old new c.args.counts.now were are
    c.loop-number.invariant one)
