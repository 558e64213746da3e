use Rattle.std.proofs.Common.{◌≡◌, max, Result, Ok, Err, subst, OnErr}
use Rattle.log_spec.specs.declared.row.Row.{Row}
use Rattle.row_batch.proofs.OpenLaws.{none_changed, left_out, left_few, not_first, added_rows, added_few, added_open}
use Rattle.row_batch.proofs.open.OpenBatch.push.Goals as goal

on_err : {A E : Type 0} (result : Result A E) (P : Type 0) → P → OnErr result P
on_err (Ok x) P holds = tt
on_err (Err e) P holds = holds

pub returns-in_err-put-clause-err : goal.returns-in_err-put-clause-err
returns-in_err-put-clause-err c =
    let inside = c.self.inside in
    on_err c.from_residual-in_err-put.result _
    (none_changed inside.base c.base_for-base.result inside.count inside.latest inside.bytes.items
    c.ready.new.bytes.items c.put_if_room.new.out.items c.args.self.now c.args.row.now c.self.invariant c.self.view_is
    c.in_ok-ready.ensures.ok c.base_for-base.ensures c.in_err-put.ensures.err)

pub returns-then-not-put-clause-ok : goal.returns-then-not-put-clause-ok
returns-then-not-put-clause-ok c =
    let inside = c.self.inside in
    left_out inside.base c.base_for-base.result inside.count inside.latest inside.bytes.items
    c.ready.new.bytes.items c.put_if_room.new.out.items c.args.self.now c.args.row.now c.self.invariant c.self.view_is
    c.in_ok-ready.ensures.ok c.base_for-base.ensures c.in_ok-put.put c.in_ok-put.ensures.ok c.requires
    c.if-not-put.true

pub returns-then-not-put-clause-few : goal.returns-then-not-put-clause-few
returns-then-not-put-clause-few c =
    let inside = c.self.inside in
    left_few inside.base c.base_for-base.result inside.count inside.latest inside.bytes.items
    c.ready.new.bytes.items c.put_if_room.new.out.items c.args.self.now c.args.row.now c.self.invariant c.self.view_is
    c.in_ok-ready.ensures.ok c.base_for-base.ensures c.in_ok-put.put c.in_ok-put.ensures.ok c.requires
    c.if-not-put.true

pub returns-then-not-put-clause-first : goal.returns-then-not-put-clause-first
returns-then-not-put-clause-first c = λ none.
    let inside = c.self.inside in
    absurd (not_first inside.base c.base_for-base.result inside.count inside.latest inside.bytes.items
    c.ready.new.bytes.items c.put_if_room.new.out.items c.args.self.now c.args.row.now c.self.invariant c.self.view_is
    c.in_ok-ready.ensures.ok c.base_for-base.ensures c.in_ok-put.put c.in_ok-put.ensures.ok c.requires
    c.if-not-put.true none)

pub invariant_of-self-2 : goal.invariant_of-self-2
invariant_of-self-2 c =
    let inside = c.self.inside in
    added_open inside.base c.base_for-base.result inside.count inside.latest inside.bytes.items
    c.ready.new.bytes.items c.put_if_room.new.out.items c.args.self.now c.args.row.now c.self.invariant c.self.view_is
    c.in_ok-ready.ensures.ok c.base_for-base.ensures c.in_ok-put.put c.in_ok-put.ensures.ok c.requires
    c.if-not-put.false c.if-self.false c.max-self-inside.result
    (subst (λ (r : Row). c.max-self-inside.result ≡ max inside.latest r.timestamp) c.row.view_is
    c.max-self-inside.ensures)

pub returns-clause-ok : goal.returns-clause-ok
returns-clause-ok c =
    let inside = c.self.inside in
    added_rows inside.base c.base_for-base.result inside.count inside.latest inside.bytes.items
    c.ready.new.bytes.items c.put_if_room.new.out.items c.args.self.now c.args.row.now c.self.invariant c.self.view_is
    c.in_ok-ready.ensures.ok c.base_for-base.ensures c.in_ok-put.put c.in_ok-put.ensures.ok c.requires
    c.if-not-put.false c.if-self.false

pub returns-clause-few : goal.returns-clause-few
returns-clause-few c =
    let inside = c.self.inside in
    added_few inside.base c.base_for-base.result inside.count inside.latest inside.bytes.items
    c.ready.new.bytes.items c.put_if_room.new.out.items c.args.self.now c.args.row.now c.self.invariant c.self.view_is
    c.in_ok-ready.ensures.ok c.base_for-base.ensures c.in_ok-put.put c.in_ok-put.ensures.ok c.requires
    c.if-not-put.false c.if-self.false
