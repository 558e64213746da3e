use Rattle.std.proofs.Common.{◌≡◌, ℕ, List, ◌++◌, length, drop, to_z, ap, ◌∙◌, arith}
use Rattle.std.specs.Int.{w64}
use Rattle.std.proofs.lemmas.Int.{to_z_pos}
use Rattle.wire_spec.specs.declared.record.Batch.{Batch}
use Rattle.batch.specs.Heads.{front_of, header_of}
use Rattle.row_batch.specs.RowBatches.{head_of}
use Rattle.row_batch.proofs.{RowLaws.first_fits, RoomLaws.front_long, ShownLaws.none_in}
use Rattle.row_batch.proofs.OpenLaws.{some_in, long_enough, taken_is}
use Rattle.row_batch.proofs.open.OpenBatch.take.Goals as goal

pub head-head-requires-clause-base : goal.head-head-requires-clause-base
head-head-requires-clause-base c =
    let inside = c.self.inside in
    let has = some_in inside.base inside.count inside.latest inside.bytes.items c.args.self.now c.self.invariant
    c.self.view_is c.requires.some in
    omega (arith, has.base_is, first_fits c.args.self.now has.fit)

pub begin-requires-clause-least : goal.begin-requires-clause-least
begin-requires-clause-least c =
    let inside = c.self.inside in
    let has = some_in inside.base inside.count inside.latest inside.bytes.items c.args.self.now c.self.invariant
    c.self.view_is c.requires.some in
    omega (arith, long_enough inside.bytes.items has.before, c.len.ensures)

pub begin-requires-clause-some : goal.begin-requires-clause-some
begin-requires-clause-some c =
    let inside = c.self.inside in
    let has = some_in inside.base inside.count inside.latest inside.bytes.items c.args.self.now c.self.invariant
    c.self.view_is c.requires.some in
    omega (arith, has.some)

pub with_front-requires : goal.with_front-requires
with_front-requires c =
    let inside = c.self.inside in
    let has = some_in inside.base inside.count inside.latest inside.bytes.items c.args.self.now c.self.invariant
    c.self.view_is c.requires.some in
    let front = c.as_slice.ensures.value ∙ c.in_ok-front.ensures in
    omega (
      arith,
      ap length front,
      front_long c.head-head.result c.len.result inside.count (to_z w64 inside.latest),
      long_enough inside.bytes.items has.before,
      ap (λ (v : _). length v.items) c.replace-bytes.ensures.value,
    )

pub returns-clause-bytes : goal.returns-clause-bytes
returns-clause-bytes c =
    let inside = c.self.inside in
    let has = some_in inside.base inside.count inside.latest inside.bytes.items c.args.self.now c.self.invariant
    c.self.view_is c.requires.some in
    let size = c.len.result in
    let top = to_z w64 inside.latest in
    let front = c.in_ok-front.front.items in
    let begun : front ≡ front_of (head_of c.args.place inside.base) size
    ++ header_of (head_of c.args.place inside.base) top inside.count =
    c.in_ok-front.ensures ∙ ap (λ (h : Batch). front_of h size ++ header_of h top inside.count) c.head-head.ensures in
    let over : c.with_front.result.items ≡ front ++ drop (length front) inside.bytes.items =
    c.with_front.ensures
    ∙ (ap (λ (f : List ℕ). f ++ drop (length f) c.replace-bytes.result.items) c.as_slice.ensures.value
    ∙ ap (λ (v : _). front ++ drop (length front) v.items) c.replace-bytes.ensures.value) in
    taken_is c.args.place inside.base inside.count inside.latest size top inside.bytes.items front
    c.with_front.result.items c.finish.result.items c.args.self.now c.requires.place has
    (omega (arith, c.len.ensures)) (to_z_pos w64 inside.latest (omega (arith, has.put.measured.in_time))) begun over
    c.finish.ensures

pub returns-clause-none : goal.returns-clause-none
returns-clause-none c = none_in c.self.inside.base _
