use Rattle.std.proofs.Common.{◌≡◌, ℕ, ◌<◌, ◌+◌, ◌++◌, List, length, take, sym, ap, ◌∙◌, arith, [], ◌∷◌}
use Rattle.std.proofs.lemmas.List.{take_more, length-take}
use Rattle.wire_spec.specs.declared.record.Record.{Record}
use Rattle.machine_spec.specs.declared.outcome.Place.{Place}
use Rattle.log_spec.specs.Logs.{FitsRecord, place_of}
use Rattle.item_rows.specs.Blocks.{places_from}
use Rattle.item_rows.proofs.{RowLaws.each_at, RowLaws.take_all, BlockLaws.places-next}
use Rattle.item_rows.proofs.batch_run.BatchRun.places.Goals as goal

pub place-requires-clause-from : goal.place-requires-clause-from
place-requires-clause-from c =
    (each_at (FitsRecord c.args.self.now.batch.now) c.args.records.now c.loop-given.given-index c.given-item.result
    c.requires.fits c.loop-given-test.true c.given-item.is).from

pub place-requires-clause-to : goal.place-requires-clause-to
place-requires-clause-to c =
    (each_at (FitsRecord c.args.self.now.batch.now) c.args.records.now c.loop-given.given-index c.given-item.result
    c.requires.fits c.loop-given-test.true c.given-item.is).to

pub loop-given-preserved : goal.loop-given-preserved
loop-given-preserved c =
    let run = c.args.self.now in let input = run.origin.now.input in let outputs = run.origin.now.outputs in let batch =
    run.batch.now in let records = c.args.records.now in let offset = c.args.offset in
    let k = c.loop-given.given-index in let given = c.given-item.result in let inv = c.loop-given.invariant in
    let lt : k < length records = c.loop-given-test.true in
    let longer = take_more records k given lt
    ∙ ap (λ (g : Record). take k records ++ g ∷ []) (sym c.given-item.is) in
    let at : c.loop-given.next ≡ offset + length (take k records) = omega (arith, inv.0, length-take k records) in
    let here : c.place.result ≡ place_of input outputs (offset + length (take k records)) batch given =
    c.place.ensures ∙ ap (λ (o : ℕ). place_of input outputs o batch given) at in (
      omega (arith, inv.0),
      c.in_ok-push.ensures.items
          ∙ (ap (λ (ps : List Place). ps ++ c.place.result ∷ []) inv.1
          ∙ (ap (λ (p : Place). places_from input outputs batch offset (take k records) ++ p ∷ []) here
          ∙ (sym (places-next input outputs batch offset (take k records) given)
          ∙ ap (λ (gs : List Record). places_from input outputs batch offset gs) (sym longer)))),
    )

pub returns : goal.returns
returns c =
    let run = c.args.self.now in
    c.loop-given.invariant.1
    ∙ ap (λ (gs : List Record). places_from run.origin.now.input run.origin.now.outputs run.batch.now c.args.offset gs)
    (take_all c.loop-given.given-index c.args.records.now c.loop-given-test.false)
