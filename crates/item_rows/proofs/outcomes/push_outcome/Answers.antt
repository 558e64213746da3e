use Rattle.std.proofs.Common.{◌≡◌, List, refl, sym, subst}
use Rattle.helpers.specs.{declared.emitted.Emitted.Emitted, Emitted.emissions_in}
use Rattle.exec.specs.{declared.ending.Ending.Ending, declared.ending.Ending.TheVariants.Rejected, Endings.outcome_with}
use Rattle.log_spec.specs.Logs.{rows_of, rows_to}
use Rattle.fates.specs.declared.fate.Fate.TheVariants as fate
use Rattle.fates.specs.Fates.{fate_of}
use Rattle.item_rows.specs.ItemRows.{Adds}
use Rattle.item_rows.proofs.RowLaws.{adds_none}
use Rattle.item_rows.proofs.outcomes.push_outcome.Goals as goal

pub returns-in_ok-push_rows-in-Kept : goal.returns-in_ok-push_rows-in-Kept
returns-in_ok-push_rows-in-Kept c =
    let first = c.args.first in let place = c.args.at.now.place.now in let one = c.args.all.now in let two =
    c.push_rows.new.all in let given = c.args.at.now.given.now in let emissions =
    emissions_in given c.args.emitted.now in
    let adds = subst (λ (es : List Emitted). Adds first one two
    (λ q here. here ≡ rows_to q place 0 (emissions_in given es)))
    c.emitted.view_is c.in_ok-push_rows-in-Kept.ensures.rows in
    subst (λ (e : Ending). (fate.Kept ≡ fate_of (outcome_with e emissions))
    × Adds first one two (λ q here. here ≡ rows_of q place (outcome_with e emissions)))
    (sym c.in-Kept.is) (refl, adds)

pub returns-in-Rejected : goal.returns-in-Rejected
returns-in-Rejected c =
    let first = c.args.first in let place = c.args.at.now.place.now in let all = c.args.all.now in let code =
    c.in-Rejected.code in let emissions = emissions_in c.args.at.now.given.now c.args.emitted.now in
    subst (λ (e : Ending). (fate.Rejected code ≡ fate_of (outcome_with e emissions))
    × Adds first all all (λ q here. here ≡ rows_of q place (outcome_with e emissions)))
    (sym c.in-Rejected.is)
    (refl, adds_none first all (λ q here. here ≡ rows_of q place (outcome_with (Rejected code) emissions)) (λ q. refl))
