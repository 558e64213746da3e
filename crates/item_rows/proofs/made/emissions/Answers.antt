use Rattle.std.proofs.Common.{◌≡◌, ◌-◌, List, ◌++◌, sym, ap, ◌∙◌, rules, arith, [], ◌∷◌, append_assoc}
use Rattle.std.proofs.lemmas.List.{append-nil}
use Rattle.std.specs.Vec.Iter.{drain_items}
use Rattle.machine_spec.specs.declared.outcome.Emission.{Emission}
use Rattle.item_rows.proofs.RowLaws.{take_all}
use Rattle.item_rows.proofs.made.emissions.Goals as goal

pub loop-one-preserved : goal.loop-one-preserved
loop-one-preserved c =
    let inv = c.loop-one.invariant in let done = c.loop-one.yielded in let one = c.in-Some.one in (
      tt,
      tt,
      search rules,
      append_assoc done (one ∷ []) (drain_items c.next.new.self)
          ∙ (ap (λ (all : List Emission). done ++ all) (sym c.in-Some.ensures.steps.0) ∙ inv.3),
      c.in_ok-push.ensures.items
          ∙ (ap (λ (all : List Emission). all ++ c.in_ok-into_emission.field-0 ∷ []) inv.4
          ∙ ap (λ (e : Emission). done ++ e ∷ []) c.in_ok-into_emission.ensures),
    )

pub returns : goal.returns
returns c =
    let done = c.loop-one.yielded in let records = c.args.records in
    let all : drain_items c.into_iter-one-iterator.result ≡ records.items =
    ap drain_items c.into_iter-one-iterator.ensures.into_iter_gives
    ∙ (c.drain-one-items.ensures.rest ∙ take_all (records.len - 0) records.items (omega (arith, records.ok.0))) in
    c.loop-one.invariant.4
    ∙ (sym (append-nil done)
    ∙ (ap (λ (rest : List Emission). done ++ rest) (sym c.in-None.ensures.steps.0) ∙ (c.loop-one.invariant.3 ∙ all)))
