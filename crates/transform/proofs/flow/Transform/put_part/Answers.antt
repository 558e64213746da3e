use Rattle.std.proofs.Common.{◌+◌, List, length, refl, sym, ap, subst, rules, arith}
use Rattle.std.specs.Vec.{with_items}
use Rattle.std.proofs.lemmas.List.{with_items_is}
use Rattle.fates.specs.{Totals.Totals}
use Rattle.transform.specs.Outlets.{Outflow}
use Rattle.transform.specs.Transforms.{Flow, flow, IsFlow, PutsEach}
use Rattle.transform.specs.Parts.{PutsPart}
use Rattle.transform.proofs.CountLaws.{part_counted, counts_part}
use Rattle.transform.proofs.PushLaws.{as_many, still_flow, part_put, where_ok}
use Rattle.transform.proofs.flow.Transform.put_part.Goals as goal

pub part_refs_in-requires-clause-outputs : goal.part_refs_in-requires-clause-outputs
part_refs_in-requires-clause-outputs g c = c.requires.rows

pub add_all-requires : goal.add_all-requires
add_all-requires g c =
    let origin = c.args.origin.now in let batch = c.args.batch.now in let part = c.args.part in
    let counted = part_counted origin c.args.program.now batch part c.part_refs_in.new.rows.counts c.requires.part.within
    c.in_ok-part_refs_in.ensures.counts in
    omega (
      arith,
      counted,
      ap (λ (t : Totals). t.records) c.counts.ensures,
      c.requires.part.within,
      c.requires.fits.count,
      c.self.invariant.counted,
      c.self.invariant.offset,
    )

pub put_each-requires-clause-count : goal.put_each-requires-clause-count
put_each-requires-clause-count g c =
    let old = c.self.inside in
    let before : Flow = flow old.input old.offset old.outlets.items old.counts in
    omega (
      arith,
      c.in_ok-part_refs_in.ensures.rows.outputs,
      c.requires.at.outputs,
      ap (λ (f : Flow). length f.outputs) c.self.view_is,
      c.deref_mut.ensures.len,
      old.outlets.ok.0,
    )

pub put_each-requires-clause-fit : goal.put_each-requires-clause-fit
put_each-requires-clause-fit g c output lt =
    let old = c.self.inside in
    c.in_ok-part_refs_in.ensures.rows.fit output
    (omega (
      arith,
      lt,
      c.requires.at.outputs,
      ap (λ (f : Flow). length f.outputs) c.self.view_is,
      c.deref_mut.ensures.len,
      old.outlets.ok.0,
    ))

pub invariant_of-self-2 : goal.invariant_of-self-2
invariant_of-self-2 g c =
    let old = c.self.inside in let origin = c.args.origin.now in let batch = c.args.batch.now in
    let part = c.args.part in let before : Flow = flow old.input old.offset old.outlets.items old.counts in
    let all = c.part_refs_in.new.rows.rows in
    let counted = part_counted origin c.args.program.now batch part c.part_refs_in.new.rows.counts c.requires.part.within
    c.in_ok-part_refs_in.ensures.counts in
    let put : PutsEach all old.outlets.items c.put_each.result c.put_each.new.outlets = search rules in
    let many = as_many all old.outlets.items c.put_each.new.outlets c.put_each.result put in
    let same = with_items_is old.outlets c.put_each.new.outlets (omega (arith, many, old.outlets.ok.0)) in
    subst (λ (os : List Outflow). IsFlow (flow old.input (old.offset + part.count) os c.add_all.new.self)) (sym same)
    (still_flow before part.count c.put_each.new.outlets c.add_all.new.self c.self.invariant many
    (omega (arith, counted, ap (λ (t : Totals). t.records) c.counts.ensures, c.in_ok-add_all.ensures.records))
    (omega (
      arith,
      c.requires.at.offset,
      ap (λ (f : Flow). f.offset) c.self.view_is,
      c.requires.part.within,
      c.requires.fits.count,
      c.requires.origin.offset,
    )))

pub returns-clause-puts : goal.returns-clause-puts
returns-clause-puts g c =
    let old = c.self.inside in let origin = c.args.origin.now in let batch = c.args.batch.now in
    let program = c.args.program.now in let part = c.args.part in
    let before : Flow = flow old.input old.offset old.outlets.items old.counts in
    let after : Flow = flow old.input (old.offset + part.count) (with_items old.outlets c.put_each.new.outlets).items
    c.add_all.new.self in
    let all = c.part_refs_in.new.rows.rows in let here = c.part_refs_in.new.rows.counts in
    let put : PutsEach all old.outlets.items c.put_each.result c.put_each.new.outlets = search rules in
    let many = as_many all old.outlets.items c.put_each.new.outlets c.put_each.result put in
    let same = with_items_is old.outlets c.put_each.new.outlets (omega (arith, many, old.outlets.ok.0)) in
    let put' = subst (λ (os : List Outflow). PutsEach all old.outlets.items c.put_each.result os) (sym same) put in
    let counted = counts_part program origin batch part old.counts here c.counts.result.now c.add_all.new.self
    c.counts.ensures c.in_ok-part_refs_in.ensures.counts c.in_ok-add_all.ensures.counts in
    subst (λ (f : Flow). PutsPart program origin batch part f c.put_each.result after) c.self.view_is
    (part_put program origin batch part before after all c.put_each.result c.in_ok-part_refs_in.ensures.rows put' refl
    refl counted)

pub returns-clause-counted : goal.returns-clause-counted
returns-clause-counted g c =
    let counted = part_counted c.args.origin.now c.args.program.now c.args.batch.now c.args.part
    c.part_refs_in.new.rows.counts c.requires.part.within c.in_ok-part_refs_in.ensures.counts in
    where_ok c.put_each.result
    (omega (
      arith,
      counted,
      ap (λ (t : Totals). t.records) c.counts.ensures,
      c.in_ok-add_all.ensures.records,
      ap (λ (f : Flow). f.counts.records) c.self.view_is,
    ))

pub returns-clause-rows : goal.returns-clause-rows
returns-clause-rows g c = where_ok c.put_each.result c.in_ok-part_refs_in.ensures.rows.outputs
