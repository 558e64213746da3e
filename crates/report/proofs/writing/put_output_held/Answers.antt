use Rattle.report.specs.Texts.{held_line, output_lines}
use Rattle.report.proofs.WrittenLaws.{writes_fault, next_begun}
use Rattle.report.proofs.writing.put_output_held.Goals as goal

pub returns-in_err-put_held : goal.returns-in_err-put_held
returns-in_err-put_held g c =
    let start = g.W.Write.contents c.args.out.now in let before = g.W.Write.contents c.loop-holding.out in let after =
    g.W.Write.contents c.put_held.new.out in
    writes_fault start after (output_lines c.args.holdings.now) c.from_residual.result c.from_residual.ensures.0
    (next_begun held_line c.args.holdings.now c.loop-holding.holding-index c.holding-item.result start before after
    c.loop-holding-test.true c.holding-item.is c.loop-holding.invariant c.in_err-put_held.ensures)
