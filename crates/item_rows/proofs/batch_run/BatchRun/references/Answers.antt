use Rattle.std.proofs.Common.{◌≡◌, ◌∙◌, ◌+◌, ◌<◌, List, [], ◌∷◌, ◌++◌, length, take, drop, get_or, ap, sym, arith}
use Rattle.std.proofs.lemmas.Option.{get_or_from_slice_get}
use Rattle.std.proofs.lemmas.List.{take_more, length-drop, get_or-drop}
use Rattle.wire_spec.specs.declared.record.Record.{Record}
use Rattle.item_rows.proofs.batch_run.BatchRun.references.Goals as goal

pub loop-index-preserved : goal.loop-index-preserved
loop-index-preserved c =
    let all = c.args.self.now.batch.now.records in let first = c.args.part.first in let k = c.loop-index.index in
    let given = c.record.result in let rest = drop first all in let here = take k rest in
    let lt : k < length rest = omega (arith, c.requires, c.loop-index-test.true, length-drop first all) in
    let is : get_or rest k given ≡ given =
    get_or-drop first all k given ∙ get_or_from_slice_get all (first + k) given given c.record.ensures in
    c.in_ok-push.ensures.items
    ∙ (ap (λ (front : List Record). front ++ given ∷ []) c.loop-index.invariant
    ∙ (ap (λ (r : Record). here ++ r ∷ []) (sym is) ∙ sym (take_more rest k given lt)))
