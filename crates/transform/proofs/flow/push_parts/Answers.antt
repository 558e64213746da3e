use Rattle.std.proofs.Common.{◌≡◌, ◌+◌, ◌<◌, ◌≤◌, ℕ, length, Err, Ok, Result, sym, ap, subst, ◌∙◌, rules, arith}
use Rattle.item_rows.specs.{declared.origin.Origin.Origin, ItemRows.IsOrigin, Blocks.IsPartOf}
use Rattle.transform.specs.declared.flow.TransformFault.{TransformFault}
use Rattle.transform.specs.Transforms.{origin_of, Pushes}
use Rattle.transform.specs.Parts.{IsAt, PutsPart, PushesPart}
use Rattle.transform.proofs.PushLaws.{begun_none, begun_more, begun_whole, begun_faults}
use Rattle.transform.proofs.flow.push_parts.Goals as goal

pub none-requires : goal.none-requires
none-requires g c =
    omega (
      arith,
      ap (λ (o : Origin). o.outputs) c.origin-origin.ensures.origin,
      c.origin-origin.ensures.ranges.some_output,
    )

pub loop-done-init : goal.loop-done-init
loop-done-init g c = record {
  few = omega arith;
  begun = begun_none c.args.program.now c.args.batch.now c.args.stream.now;
  counted = omega arith;
  rows = c.in_ok-rows.ensures ∙ ap (λ (o : Origin). o.outputs) c.origin-origin.ensures.origin;
}

pub push_part-requires-clause-at : goal.push_part-requires-clause-at
push_part-requires-clause-at g c =
    let begun = c.loop-done.invariant.begun in
    subst (λ (o : Origin). IsAt o c.next_part-part.result.first c.loop-done.stream) (sym c.origin-origin.ensures.origin)
    (record {
      input = begun.input;
      offset = omega (arith, begun.offset, c.next_part-part.ensures.first);
      outputs = begun.count;
    })

pub push_part-requires-clause-origin : goal.push_part-requires-clause-origin
push_part-requires-clause-origin g c =
    let is = c.origin-origin.ensures.ranges in
    subst IsOrigin (sym c.origin-origin.ensures.origin) (record {
      input = is.input;
      offset = c.requires;
      some_output = is.some_output;
      outputs = is.outputs;
    })

pub push_part-requires-clause-fits : goal.push_part-requires-clause-fits
push_part-requires-clause-fits g c = c.len-total.ensures.fits

pub push_part-requires-clause-part : goal.push_part-requires-clause-part
push_part-requires-clause-part g c =
    subst (λ (n : ℕ). IsPartOf n c.next_part-part.result) c.len-total.ensures.count c.next_part-part.ensures.part

pub push_part-requires-clause-rows : goal.push_part-requires-clause-rows
push_part-requires-clause-rows g c =
    c.loop-done.invariant.rows ∙ sym (ap (λ (o : Origin). o.outputs) c.origin-origin.ensures.origin)

pub loop-done-preserved : goal.loop-done-preserved
loop-done-preserved g c =
    let program = c.args.program.now in let batch = c.args.batch.now in let old = c.args.stream.now in
    let mid = c.loop-done.stream in let new = c.push_part.new.self in let part = c.next_part-part.result in
    let done = c.loop-done.done in let inv = c.loop-done.invariant in
    let le : done + part.count ≤ length batch.records =
    omega (arith, c.next_part-part.ensures.first, c.next_part-part.ensures.part.within, c.len-total.ensures.count) in
    let puts : PutsPart program (origin_of old) batch part mid (Ok tt) new =
    subst (λ (o : Origin). PutsPart program o batch part mid (Ok tt) new) c.origin-origin.ensures.origin
    c.in_ok-push_part.ensures.pushes.0 in record {
      few = le;
      begun = begun_more program batch old done part mid le c.next_part-part.ensures.first inv.begun new puts;
      counted = omega (arith, c.in_ok-push_part.ensures.counted, inv.counted);
      rows = c.in_ok-push_part.ensures.rows ∙ ap (λ (o : Origin). o.outputs) c.origin-origin.ensures.origin;
    }

pub returns-in_err-push_part-clause-pushes : goal.returns-in_err-push_part-clause-pushes
returns-in_err-push_part-clause-pushes g c =
    let program = c.args.program.now in let batch = c.args.batch.now in let old = c.args.stream.now in
    let mid = c.loop-done.stream in let new = c.push_part.new.self in let part = c.next_part-part.result in
    let done = c.loop-done.done in let inv = c.loop-done.invariant in let why = c.in_err-push_part.field-0.0 in
    let le : done + part.count ≤ length batch.records =
    omega (arith, c.next_part-part.ensures.first, c.next_part-part.ensures.part.within, c.len-total.ensures.count) in
    let lt : done < length batch.records = omega (arith, c.loop-done-test.true, c.len-total.ensures.count) in
    let pushes : PushesPart program (origin_of old) batch part mid (Err why) new =
    subst (λ (o : Origin). PushesPart program o batch part mid (Err why) new) c.origin-origin.ensures.origin
    c.in_err-push_part.ensures.pushes in
    let is : c.from_residual-in_err-push_part.result ≡ Err why = search rules in
    subst (λ (r : Result (Unit {0}) TransformFault). Pushes program batch old r new) (sym is)
    (begun_faults program batch old c.len-total.ensures.fits done part mid new why lt le c.next_part-part.ensures.first
    inv.begun pushes)

pub returns-clause-pushes : goal.returns-clause-pushes
returns-clause-pushes g c =
    let inv = c.loop-done.invariant in
    begun_whole c.args.program.now c.args.batch.now c.args.stream.now c.len-total.ensures.fits c.loop-done.done
    c.loop-done.stream (omega (arith, inv.few, c.loop-done-test.false, c.len-total.ensures.count)) inv.begun

pub returns-clause-counted : goal.returns-clause-counted
returns-clause-counted g c =
    let inv = c.loop-done.invariant in
    omega (arith, inv.counted, inv.few, c.loop-done-test.false, c.len-total.ensures.count)
