use Rattle.std.proofs.Common.{◌≡◌, List, refl, sym, subst, ◌∙◌}
use Rattle.std.proofs.lemmas.Option.{same_Some}
use Rattle.helpers.specs.{declared.emitted.Emitted.Emitted, Emitted.emissions_in}
use Rattle.exec.specs.declared.ending.Ending.{Ending}
use Rattle.exec.specs.Endings.{Ended, outcome_in, outcome_with}
use Rattle.log_spec.specs.Logs.{rows_of}
use Rattle.fates.specs.declared.fate.Fate.TheVariants as fate
use Rattle.fates.specs.Fates.{fate_of}
use Rattle.item_rows.specs.ItemRows.{Adds}
use Rattle.item_rows.proofs.BlockLaws.{alone_is}
use Rattle.item_rows.proofs.outcomes.push_ended.Goals as goal

pub returns-in_ok-push_excerpt-in-Some-clause-pushed : goal.returns-in_ok-push_excerpt-in-Some-clause-pushed
returns-in_ok-push_excerpt-in-Some-clause-pushed c = λ ended at.
    let first = c.args.first in let place = c.args.at.now.place.now in let one = c.args.all.now in
    let two = c.push_excerpt.new.all in
    let given = c.args.at.now.given.now in
    let is = alone_is ended.ending ended.emitted c.in-Some.excerpt (sym c.in-Some.is ∙ c.kept_alone.ensures ended at) in
    subst (λ (e : Ending). (fate.Kept ≡ fate_of (outcome_with e (emissions_in given ended.emitted)))
    × Adds first one two (λ q here. here ≡ rows_of q place (outcome_with e (emissions_in given ended.emitted))))
    (sym is.0)
    (subst (λ (es : List Emitted). (fate.Kept ≡ fate.Kept)
    × Adds first one two (λ q here. here ≡ rows_of q place (outcome_with Ending.Kept (emissions_in given es))))
    (sym is.1) (refl, c.in_ok-push_excerpt-in-Some.ensures))

pub returns-in_ok-fate-in-None-clause-pushed : goal.returns-in_ok-fate-in-None-clause-pushed
returns-in_ok-fate-in-None-clause-pushed c = λ ended at.
    let first = c.args.first in let place = c.args.at.now.place.now in let one = c.args.all.now in let two =
    c.push_outcome.new.all in let given = c.args.at.now.given.now in
    subst (λ (e : Ended). (c.in_ok-fate-in-None.fate ≡ fate_of (outcome_in given e))
    × Adds first one two (λ q here. here ≡ rows_of q place (outcome_in given e)))
    (same_Some _ _ (sym c.take-ending.ensures.ended ∙ at)) c.in_ok-fate-in-None.ensures
