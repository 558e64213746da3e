use Rattle.std.proofs.Common.{◌≡◌, Err, Result, sym, subst, rules, arith}
use Rattle.transform.specs.{declared.outlet.OutletFault.OutletFault, Backlogs.with_rows, Outlets.PutsFull}
use Rattle.transform.proofs.OpenLaws.{room_for, put_next, put_stops}
use Rattle.transform.proofs.outlet.put_rows.Goals as goal

pub put_next-requires-clause-within : goal.put_next-requires-clause-within
put_next-requires-clause-within g c = omega (arith, c.loop-index-test.true, c.len-index-end.ensures)

pub put_next-requires-clause-room : goal.put_next-requires-clause-room
put_next-requires-clause-room g c =
    room_for c.args.backlog.now c.loop-index.backlog c.args.rows.now c.loop-index.index
    (g.W.Write.contents c.args.writer.now) (g.W.Write.contents c.loop-index.writer) c.loop-index.invariant
    (omega (arith, c.loop-index-test.true, c.len-index-end.ensures)) c.requires.room

pub returns-in_err-put_next : goal.returns-in_err-put_next
returns-in_err-put_next g c =
    let old = c.args.backlog.now in let rows = c.args.rows.now in let k = c.loop-index.index in
    let before = g.W.Write.contents c.args.writer.now in let after = g.W.Write.contents c.put_next.new.writer in
    let why = c.in_err-put_next.field-0.0 in
    let is : c.from_residual.result ≡ Err why = search rules in
    subst (λ (r : Result (Unit {0}) OutletFault). PutsFull (with_rows old rows) before r c.put_next.new.backlog after)
    (sym is)
    (put_stops old c.loop-index.backlog rows k before (g.W.Write.contents c.loop-index.writer) after why
    c.loop-index.invariant c.in_err-put_next.ensures)

pub loop-index-preserved : goal.loop-index-preserved
loop-index-preserved g c =
    put_next c.args.backlog.now c.loop-index.backlog c.put_next.new.backlog c.args.rows.now c.loop-index.index
    (g.W.Write.contents c.args.writer.now) (g.W.Write.contents c.loop-index.writer)
    (g.W.Write.contents c.put_next.new.writer) c.loop-index.invariant c.in_ok-put_next.ensures
