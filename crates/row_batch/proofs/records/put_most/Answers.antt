use Rattle.std.proofs.Common.{◌≡◌, ℕ, ◌+◌, ◌<◌, pos, Bool, true, false, length, max, sym, ap, subst, ◌∙◌, arith, rules}
use Rattle.wire_spec.specs.RecordSpelling.{record_spelling}
use Rattle.log_spec.specs.declared.row.Row.{Row}
use Rattle.row_batch.specs.{RowBatches.record_of, FirstRows.PutsIfRoom}
use Rattle.row_batch.proofs.Places.{part, part_at, part_length, fits_at}
use Rattle.row_batch.proofs.RoomLaws.{SoFar, one_more_put, no_more_put}
use Rattle.row_batch.proofs.records.put_most.Goals as goal

pub returns-then-not-put : goal.returns-then-not-put
returns-then-not-put g c =
    let l = c.loop-count in
    let all = g.L.RowList.rows c.args.rows.now in
    let rows = part all c.args.first c.args.most in
    let row = c.row-row.result in
    let new = c.put_if_room.new.out.items in
    let long = part_length all c.args.first c.args.most c.requires.there in
    let lt : l.count < length rows = omega (arith, long, c.loop-count-test.true) in
    let is = part_at all c.args.first c.args.most l.count row c.loop-count-test.true c.row-row.ensures in
    let no : c.in_ok-put.put ≡ false = search rules in
    no_more_put c.args.base rows l.count l.latest c.args.out.now.items l.out.items new row l.invariant lt is
    (subst (λ (p : Bool). PutsIfRoom p l.out.items new (record_spelling (pos l.count) (record_of c.args.base row))) no
    c.in_ok-put.ensures.ok)

pub loop-count-preserved : goal.loop-count-preserved
loop-count-preserved g c =
    let l = c.loop-count in
    let all = g.L.RowList.rows c.args.rows.now in
    let rows = part all c.args.first c.args.most in
    let row = c.row-row.result in
    let new = c.put_if_room.new.out.items in
    let long = part_length all c.args.first c.args.most c.requires.there in
    let lt : l.count < length rows = omega (arith, long, c.loop-count-test.true) in
    let is = part_at all c.args.first c.args.most l.count row c.loop-count-test.true c.row-row.ensures in
    let fits = fits_at all c.args.first c.args.most l.count row c.requires.there c.loop-count-test.true
    c.row-row.ensures c.requires.fit in
    let yes : c.in_ok-put.put ≡ true = search rules in
    let next = one_more_put c.args.base rows l.count l.latest c.args.out.now.items l.out.items new row l.invariant lt is
    (subst (λ (p : Bool). PutsIfRoom p l.out.items new (record_spelling (pos l.count) (record_of c.args.base row))) yes
    c.in_ok-put.ensures.ok) fits.time in
    let time : c.row.inside.timestamp ≡ row.timestamp = ap (λ (r : Row). r.timestamp) c.row.view_is in
    subst (λ (n : ℕ). SoFar c.args.base rows (l.count + 1) n c.args.out.now.items new)
    (sym (c.max-latest.ensures ∙ ap (max l.latest) time)) next
