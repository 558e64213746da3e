use Rattle.std.proofs.Common.{◌≤◌, length, drop, length-drop, arith}
use Rattle.wire_spec.specs.declared.limits.TheConstants.{MAX_RECORDS}
use Rattle.row_batch.proofs.{RowLaws.most_taken, Places.part_fits}
use Rattle.row_batch.proofs.rows.row_batch.Goals as goal

pub first_batch-requires-clause-fit : goal.first_batch-requires-clause-fit
first_batch-requires-clause-fit g c = part_fits (g.L.RowList.rows c.args.rows.now) c.args.place
    c.min-most.result c.requires

pub returns : goal.returns
returns g c =
    let rows = g.L.RowList.rows c.args.rows.now in
    let place = c.args.place in
    let most = c.min-most.result in
    let made = c.in_ok-first_batch.field-0 in
    let left = drop place rows in
    let long = length-drop place rows in
    let few = c.min-most.ensures in
    let least = c.min.ensures in
    let wanted : most ≤ c.args.max = omega (arith, least, few) in
    let small : most ≤ MAX_RECORDS = omega (arith, few) in
    let there : most ≤ length left = omega (arith, least, few, long, c.len.ensures.count, c.len-2.ensures.count) in
    let taken = most_taken rows place c.args.max most made.count made.bytes.items wanted small there
    (λ more a b d. omega (arith, least, few, long, c.len.ensures.count, c.len-2.ensures.count))
    c.in_ok-first_batch.ensures in
    (made.count, taken.0, taken.1, taken.2)
