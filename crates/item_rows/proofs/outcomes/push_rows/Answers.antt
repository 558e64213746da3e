use Rattle.std.proofs.Common.{◌≡◌, ◌-◌, List, ◌++◌, sym, ap, subst, ◌∙◌, rules, arith, [], ◌∷◌, append_assoc, length}
use Rattle.std.proofs.lemmas.List.{length-append, length-map, map-append, append-nil}
use Rattle.std.specs.Vec.Iter.{drain_items}
use Rattle.machine_spec.specs.declared.outcome.Emission.{Emission}
use Rattle.helpers.specs.{declared.emitted.Emitted.Emitted, Emitted.emission_in, Emitted.emissions_in}
use Rattle.log_spec.specs.Logs.{rows_to}
use Rattle.item_rows.specs.ItemRows.{Adds}
use Rattle.item_rows.proofs.RowLaws.{emissions_more, take_all}
use Rattle.item_rows.proofs.outcomes.push_rows.Goals as goal

pub loop-emitted-preserved : goal.loop-emitted-preserved
loop-emitted-preserved c =
    let inv = c.loop-emitted.invariant in let done = c.loop-emitted.yielded in
    let emitted = c.in-Some.emitted in let given =
    c.args.at.now.given.now in let emission = emission_in given emitted in let first = c.args.first in let place =
    c.args.at.now.place.now in
    let long : c.loop-emitted.number ≡ length (emissions_in given done) =
    omega (arith, inv.4, length-map done (emission_in given)) in (
      tt,
      tt,
      search rules,
      append_assoc done (emitted ∷ []) (drain_items c.next.new.self)
          ∙ (ap (λ (es : List Emitted). done ++ es) (sym c.in-Some.ensures.steps.0) ∙ inv.3),
      omega (arith, length-append done (emitted ∷ []), inv.4),
      subst (λ (es : List Emission). Adds first c.args.all.now c.push_row.new.all
          (λ q here. here ≡ rows_to q place 0 es))
          (sym (map-append (emission_in given) done (emitted ∷ [])))
          (emissions_more first place c.loop-emitted.number (emissions_in given done) emission c.args.all.now
          c.loop-emitted.all c.push_row.new.all long inv.5 c.in_ok-push_row.ensures),
    )

pub returns-clause-rows : goal.returns-clause-rows
returns-clause-rows c =
    let done = c.loop-emitted.yielded in let list = c.args.list.now in let given = c.args.at.now.given.now in
    let all : drain_items c.into_iter-emitted-iterator.result ≡ list.items =
    ap drain_items c.into_iter-emitted-iterator.ensures.into_iter_gives
    ∙ (c.drain-emitted-items.ensures.rest ∙ take_all (list.len - 0) list.items (omega (arith, list.ok.0))) in
    let whole : done ≡ list.items =
    sym (append-nil done) ∙ (ap (λ (es : List Emitted). done ++ es) (sym c.in-None.ensures.steps.0)
    ∙ (c.loop-emitted.invariant.3 ∙ all)) in
    subst (λ (es : List Emitted). Adds c.args.first c.args.all.now c.loop-emitted.all
    (λ q here. here ≡ rows_to q c.args.at.now.place.now 0 (emissions_in given es))) whole c.loop-emitted.invariant.5
