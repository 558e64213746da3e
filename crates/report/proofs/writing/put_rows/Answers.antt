use Rattle.std.proofs.Common.{◌≡◌, ◌<◌, List, ℕ, length, get_or, rules, subst}
use Rattle.log_spec.specs.declared.row.Row.{Row}
use Rattle.script.specs.Texts.{row_line}
use Rattle.report.specs.Texts.{held_rows}
use Rattle.report.proofs.WrittenLaws.{writes_fault, part_begun, next_begun}
use Rattle.report.proofs.writing.put_rows.Goals as goal
use Rattle.wire_spec.specs.Writing.{HasBegun}

pub returns-in_err-push_row : goal.returns-in_err-push_row
returns-in_err-push_row g c =
    let h = c.args.holding.now in let start = g.W.Write.contents c.args.out.now in let before =
    g.W.Write.contents c.loop-row.out in
    writes_fault start before (held_rows h) c.from_residual.result c.from_residual.ensures.0
    (part_begun (row_line h.output) h.rows c.loop-row.row-index start before c.loop-row.invariant)

pub returns-in_err-put : goal.returns-in_err-put
returns-in_err-put g c =
    let h = c.args.holding.now in let k = c.loop-row.row-index in let row : Row = c.row-item.result in
    let start = g.W.Write.contents c.args.out.now in let before = g.W.Write.contents c.loop-row.out in let after =
    g.W.Write.contents c.put.new.out in
    let lt : k < length h.rows = subst (λ (rs : List Row). k < length rs) c.rows-row-items.ensures.rows
    c.loop-row-test.true in
    let is : row ≡ get_or h.rows k row =
    subst (λ (rs : List Row). row ≡ get_or rs k row) c.rows-row-items.ensures.rows c.row-item.is in
    let text : c.as_str.result.now ≡ row_line h.output row = search rules in
    let begun : HasBegun before after (row_line h.output row) =
    subst (λ (bs : List ℕ). HasBegun before after bs) text c.in_err-put.ensures in
    writes_fault start after (held_rows h) c.from_residual-in_err-put.result c.from_residual-in_err-put.ensures.0
    (next_begun (row_line h.output) h.rows k row start before after lt is c.loop-row.invariant begun)
