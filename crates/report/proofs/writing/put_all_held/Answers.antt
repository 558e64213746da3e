use Rattle.std.proofs.Common.{List, subst}
use Rattle.std.specs.List.{flat_map}
use Rattle.report.specs.{Holdings.Held, Texts.output_lines}
use Rattle.report.proofs.WrittenLaws.{writes_fault, next_begun}
use Rattle.report.proofs.writing.put_all_held.Goals as goal
use Rattle.wire_spec.specs.Writing.{HasBegun}

pub returns-in_err-put_output_held : goal.returns-in_err-put_output_held
returns-in_err-put_output_held g c =
    let start = g.W.Write.contents c.args.out.now in let before = g.W.Write.contents c.loop-holdings.out in let after =
    g.W.Write.contents c.put_output_held.new.out in
    let begun : HasBegun before after (output_lines c.holdings-item.result) =
    subst (λ (hs : List Held). HasBegun before after (output_lines hs)) c.as_slice.ensures
    c.in_err-put_output_held.ensures in
    writes_fault start after (flat_map output_lines c.args.outputs.now) c.from_residual.result c.from_residual.ensures.0
    (next_begun output_lines c.args.outputs.now c.loop-holdings.holdings-index c.holdings-item.result start before after
    c.loop-holdings-test.true c.holdings-item.is c.loop-holdings.invariant begun)
