use Rattle.std.proofs.Common.{◌≡◌, ◌<◌, ◌≤◌, List, length, Err, Result, sym, subst, rules, arith, All}
use Rattle.log_spec.specs.{declared.row.Row.Row, Logs.RowFits}
use Rattle.item_rows.specs.ItemRows.{rows_in}
use Rattle.transform.specs.{declared.flow.TransformFault.TransformFault, Transforms.Fills, Transforms.PutsEach}
use Rattle.transform.proofs.EachLaws.{first_none, first_more, first_all, rows_at}
use Rattle.transform.proofs.FillLaws.{put_stopped}
use Rattle.transform.proofs.flow.put_each.Goals as goal

pub loop-output-init : goal.loop-output-init
loop-output-init g c = first_none (λ q. Fills (rows_in c.args.rows.now.rows q)) c.args.outlets.now

pub rows-requires : goal.rows-requires
rows-requires g c =
    omega (arith, c.loop-output-test.true, c.requires.count, c.loop-output.invariant.count)

pub put_one-requires-clause-fit : goal.put_one-requires-clause-fit
put_one-requires-clause-fit g c =
    let all = c.args.rows.now.rows in let k = c.loop-output.output in
    let within : k < length c.args.outlets.now = omega (
      arith,
      c.loop-output-test.true,
      c.loop-output.invariant.count,
    ) in
    subst (All RowFits) (sym (rows_at k all c.rows.result.now c.rows.ensures)) (c.requires.fit k within)

pub loop-output-preserved : goal.loop-output-preserved
loop-output-preserved g c =
    let k = c.loop-output.output in let all = c.args.rows.now.rows in let rows = c.rows.result.now in
    first_more (λ q. Fills (rows_in all q)) k c.args.outlets.now c.loop-output.outlets c.put_one.new.outlets
    (Fills rows) c.loop-output.invariant c.in_ok-put_one.ensures
    (λ x y h. subst (λ (rs : List Row). Fills rs x y) (rows_at k all rows c.rows.ensures) h)

pub returns-in_err-put_one : goal.returns-in_err-put_one
returns-in_err-put_one g c =
    let k = c.loop-output.output in let all = c.args.rows.now.rows in let rows = c.rows.result.now in
    let is : c.from_residual.result ≡ Err c.in_err-put_one.field-0.0 = search rules in
    subst (λ (r : Result (Unit {0}) TransformFault). PutsEach all c.args.outlets.now r c.put_one.new.outlets)
    (sym is)
    (put_stopped k all rows c.args.outlets.now c.loop-output.outlets c.put_one.new.outlets
    c.in_err-put_one.field-0.0 (rows_at k all rows c.rows.ensures) c.loop-output.invariant c.in_err-put_one.ensures)

pub returns : goal.returns
returns g c =
    let all = c.args.rows.now.rows in
    let each : length c.args.outlets.now ≤ c.loop-output.output =
    omega (arith, c.loop-output-test.false, c.loop-output.invariant.count) in
    first_all (λ q. Fills (rows_in all q)) c.loop-output.output c.args.outlets.now c.loop-output.outlets
    c.loop-output.invariant each
