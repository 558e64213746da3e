use Rattle.report.specs.Texts.{held_rows, output_rows}
use Rattle.report.proofs.WrittenLaws.{writes_fault, next_begun}
use Rattle.report.proofs.writing.put_output_rows.Goals as goal

pub returns-in_err-put_rows : goal.returns-in_err-put_rows
returns-in_err-put_rows g c =
    let start = g.W.Write.contents c.args.out.now in let before = g.W.Write.contents c.loop-holding.out in let after =
    g.W.Write.contents c.put_rows.new.out in
    writes_fault start after (output_rows c.args.holdings.now) c.from_residual.result c.from_residual.ensures.0
    (next_begun held_rows c.args.holdings.now c.loop-holding.holding-index c.holding-item.result start before after
    c.loop-holding-test.true c.holding-item.is c.loop-holding.invariant c.in_err-put_rows.ensures)
