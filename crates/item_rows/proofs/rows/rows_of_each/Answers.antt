use Rattle.std.proofs.Common.{◌≡◌, ◌-◌, List, ◌++◌, sym, ap, ◌∙◌, rules, arith, [], ◌∷◌, append_assoc}
use Rattle.std.proofs.lemmas.List.{append-nil}
use Rattle.std.specs.Vec.Iter.{drain_items}
use Rattle.log_spec.specs.declared.row.Row.{Row}
use Rattle.item_rows.proofs.RowLaws.{take_all}
use Rattle.item_rows.proofs.rows.rows_of_each.Goals as goal

pub loop-rows-preserved : goal.loop-rows-preserved
loop-rows-preserved c =
    let inv = c.loop-rows.invariant in let done = c.loop-rows.yielded in let rows = c.in-Some.rows in (
      tt,
      tt,
      search rules,
      append_assoc done (rows ∷ []) (drain_items c.next.new.self)
          ∙ (ap (λ (all : List (List Row)). done ++ all) (sym c.in-Some.ensures.steps.0) ∙ inv.3),
      c.in_ok-push.ensures.items
          ∙ (ap (λ (all : List (List Row)). all ++ c.in_ok-list.list.items ∷ []) inv.4
          ∙ ap (λ (rs : List Row). done ++ rs ∷ []) c.in_ok-list.ensures),
    )

pub returns : goal.returns
returns c =
    let done = c.loop-rows.yielded in let outputs = c.args.outputs in
    let all : drain_items c.into_iter-rows-iterator.result ≡ outputs.items =
    ap drain_items c.into_iter-rows-iterator.ensures.into_iter_gives
    ∙ (c.drain-rows-items.ensures.rest ∙ take_all (outputs.len - 0) outputs.items (omega (arith, outputs.ok.0))) in
    c.loop-rows.invariant.4
    ∙ (sym (append-nil done)
    ∙ (ap (λ (rest : List (List Row)). done ++ rest) (sym c.in-None.ensures.steps.0) ∙ (c.loop-rows.invariant.3 ∙ all)))
