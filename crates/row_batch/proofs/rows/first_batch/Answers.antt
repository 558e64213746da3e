use Rattle.std.proofs.Common.{◌≡◌, ℕ, pos, ◌<◌, ◌≤◌, ◌++◌, List, length, map}
use Rattle.std.proofs.Common.{take, drop, sym, ap, subst, refl, ◌∙◌, to_z, arith}
use Rattle.std.specs.Int.{w64}
use Rattle.std.proofs.lemmas.Int.{to_z_pos}
use Rattle.wire_spec.specs.declared.{limits.TheConstants.MAX_RECORDS, record.Batch.Batch}
use Rattle.wire_spec.specs.BatchSpelling.{records_spelling}
use Rattle.batch.specs.Heads.{front_of, header_of}
use Rattle.log_spec.specs.declared.row.Row.{Row}
use Rattle.row_batch.specs.RowBatches.{record_of, first_timestamp, head_of}
use Rattle.row_batch.specs.FirstRows.{IsMeasured, HasPut}
use Rattle.row_batch.proofs.Places.{part, part_length, part_first}
use Rattle.row_batch.proofs.RowLaws.{first_fits, first_is, some_measured, written_is}
use Rattle.row_batch.proofs.RoomLaws.{front_long, front_put}
use Rattle.row_batch.proofs.rows.first_batch.Goals as goal

pub put_most-requires-clause-base : goal.put_most-requires-clause-base
put_most-requires-clause-base g c =
    let all = g.L.RowList.rows c.args.rows.now in
    let rows = part all c.args.first c.args.most in
    omega (
      arith,
      ap (λ (r : Row). r.timestamp) c.earliest.view_is,
      part_first all c.args.first c.args.most c.row-earliest.result c.requires.there c.requires.some
          c.row-earliest.ensures,
      first_fits rows c.requires.fit,
    )

pub head-head-requires-clause-base : goal.head-head-requires-clause-base
head-head-requires-clause-base g c =
    let all = g.L.RowList.rows c.args.rows.now in
    let rows = part all c.args.first c.args.most in
    omega (
      arith,
      ap (λ (r : Row). r.timestamp) c.earliest.view_is,
      part_first all c.args.first c.args.most c.row-earliest.result c.requires.there c.requires.some
          c.row-earliest.ensures,
      first_fits rows c.requires.fit,
    )

pub begin-requires-clause-least : goal.begin-requires-clause-least
begin-requires-clause-least g c = omega (arith, c.in_ok-put.ensures.measured.size_is, c.len-size.ensures)

pub begin-requires-clause-most : goal.begin-requires-clause-most
begin-requires-clause-most g c = omega (arith, c.in_ok-put.ensures.measured.small, c.len-size.ensures)

pub begin-requires-clause-some : goal.begin-requires-clause-some
begin-requires-clause-some g c =
    let all = g.L.RowList.rows c.args.rows.now in
    let rows = part all c.args.first c.args.most in
    let made = c.in_ok-put.put in
    let same = ap (λ (r : Row). r.timestamp) c.earliest.view_is
    ∙ part_first all c.args.first c.args.most c.row-earliest.result c.requires.there c.requires.some
    c.row-earliest.ensures in
    let long = part_length all c.args.first c.args.most c.requires.there in
    let size = length c.put_most.new.out.items in
    some_measured rows made.count size made.latest (omega (arith, long, c.requires.some)) c.requires.fit
    (subst (λ (b : ℕ). IsMeasured b rows made.count size made.latest) same c.in_ok-put.ensures.measured)

pub with_front-whole-requires : goal.with_front-whole-requires
with_front-whole-requires g c =
    let front = c.as_slice.ensures.value ∙ c.in_ok-front.ensures in
    omega (
      arith,
      ap length front,
      front_long c.head-head.result c.len-size.result c.in_ok-put.put.count (to_z w64 c.in_ok-put.put.latest),
      c.in_ok-put.ensures.measured.size_is,
    )

pub returns : goal.returns
returns g c =
    let all = g.L.RowList.rows c.args.rows.now in
    let rows = part all c.args.first c.args.most in
    let made = c.in_ok-put.put in
    let base = first_timestamp rows in
    let old = c.in_ok-bytes.bytes.items in
    let out = c.put_most.new.out.items in
    let size = c.len-size.result in
    let front = c.in_ok-front.front.items in
    let whole = c.with_front-whole.result.items in
    let same : c.earliest.inside.timestamp ≡ base =
    ap (λ (r : Row). r.timestamp) c.earliest.view_is
    ∙ part_first all c.args.first c.args.most c.row-earliest.result c.requires.there c.requires.some
    c.row-earliest.ensures in
    let long = part_length all c.args.first c.args.most c.requires.there in
    let some : 0 < length rows = omega (arith, long, c.requires.some) in
    let few : length rows ≤ MAX_RECORDS = omega (arith, long, c.requires.few) in
    let put : HasPut base rows made.count made.latest old out =
    subst (λ (b : ℕ). HasPut b rows made.count made.latest old out) same c.in_ok-put.ensures in
    let len : size ≡ length out = omega (arith, c.len-size.ensures) in
    let measured : IsMeasured base rows made.count size made.latest =
    subst (λ (n : ℕ). IsMeasured base rows made.count n made.latest) (sym len) put.measured in
    let more = some_measured rows made.count size made.latest some c.requires.fit measured in
    let top : to_z w64 made.latest ≡ pos made.latest = to_z_pos w64 made.latest (omega (arith, measured.in_time)) in
    let head : c.head-head.result ≡ head_of c.args.place base = c.head-head.ensures ∙ ap (head_of c.args.place) same in
    let begun : front ≡ front_of (head_of c.args.place base) size
    ++ header_of (head_of c.args.place base) (to_z w64 made.latest) made.count =
    c.in_ok-front.ensures ∙ ap (λ (h : Batch). front_of h size ++ header_of h (to_z w64 made.latest) made.count) head in
    let front_61 : length front ≡ 61 =
    ap length begun ∙ front_long (head_of c.args.place base) size made.count (to_z w64 made.latest) in
    let over : whole ≡ front ++ drop (length front) out =
    c.with_front-whole.ensures ∙ ap (λ (f : List ℕ). f ++ drop (length f) out) c.as_slice.ensures.value in
    let written : whole ≡ front ++ records_spelling 0 (map (record_of base) (take made.count rows)) =
    front_put front old (records_spelling 0 (map (record_of base) (take made.count rows))) out whole front_61
    c.in_ok-bytes.ensures put.put_are over in
    first_is c.args.place rows made.count size made.latest c.finish.result.items c.requires.place some few
    c.requires.fit measured
    (written_is c.args.place rows made.count size made.latest (to_z w64 made.latest) made.count front whole
    c.finish.result.items more measured top refl begun written c.finish.ensures)
