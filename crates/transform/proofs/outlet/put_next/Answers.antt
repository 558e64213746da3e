use Rattle.std.proofs.Common.{◌≡◌, ◌+◌, drop, slice_index_or, Err, List, Result, sym, subst, rules}
use Rattle.log_spec.specs.declared.row.Row.{Row}
use Rattle.transform.specs.{declared.outlet.OutletFault.OutletFault, Outlets.outflow, Outlets.PutsFirst}
use Rattle.transform.specs.declared.outlet.OutletFault.TheVariants as fault
use Rattle.transform.proofs.OpenLaws.{row_is, first_left, stops_before}
use Rattle.transform.proofs.outlet.put_next.Goals as goal

pub returns-in_err-row : goal.returns-in_err-row
returns-in_err-row g c =
    let old = c.args.backlog.now in let held = g.W.Write.contents c.args.writer.now in
    let left = drop c.args.index c.args.rows.now in let others = drop (c.args.index + 1) c.args.rows.now in
    let is : c.from_residual.result ≡ Err fault.Memory = search rules in
    subst (λ (r : Result (Unit {0}) OutletFault). PutsFirst (outflow held old) left r (outflow held old) others)
    (sym is) (stops_before old left held)

pub returns : goal.returns
returns g c =
    let rows = c.args.rows.now in let k = c.args.index in let row = c.in_ok-row.row in
    let at : row ≡ slice_index_or rows k row = row_is rows k row c.in_ok-row.ensures in
    let before = outflow (g.W.Write.contents c.args.writer.now) c.args.backlog.now in
    let after = outflow (g.W.Write.contents c.put_row.new.writer) c.put_row.new.backlog in
    subst (λ (rs : List Row). PutsFirst before rs c.put_row.result after (drop (k + 1) rows))
    (sym (first_left rows k row c.requires.within at)) (c.put_row.ensures (drop (k + 1) rows))
