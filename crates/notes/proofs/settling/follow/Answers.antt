use Rattle.std.proofs.Common.{ap, ◌∙◌, Some}
use Rattle.machine_spec.specs.Image.{helpers_of}
use Rattle.notes.specs.Derived.{state_fallen_to, given_or}
use Rattle.notes.proofs.Steps.{claim_at-set}
use Rattle.notes.proofs.settling.follow.Goals as goal

pub returns-clause-fallen : goal.returns-clause-fallen
returns-clause-fallen c =
    c.state_fallen_to.ensures.fallen
    ∙ ap (λ o. state_fallen_to (helpers_of c.args.table) c.args.code.now c.args.k (Some c.args.placed) o)
    (c.state_of-2.ensures ∙ (claim_at-set c.args.states.now c.args.k c.given_or.result c.requires.within
    ∙ (c.given_or.ensures ∙ ap (λ o. given_or o c.args.follows) c.state_of.ensures)))
