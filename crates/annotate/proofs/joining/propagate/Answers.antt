use Rattle.std.proofs.Common.{Some, sym, ap, ◌∙◌}
use Rattle.verifier_spec.specs.JoinedStates.{joined_claims}
use Rattle.notes.proofs.Steps.{claim_at-get_or}
use Rattle.annotate.proofs.Passing.{brought}
use Rattle.annotate.proofs.joining.propagate.Goals as goal

pub returns-then-target-states-clause-each : goal.returns-then-target-states-clause-each
returns-then-target-states-clause-each c = λ j under.
    brought c.args.states.now c.args.target c.args.state.now c.joined_claim.result c.if-target-states.true
    (c.joined_claim.ensures ∙ ap (λ o. joined_claims o (Some c.args.state.now))
    (sym (claim_at-get_or c.args.states.now c.args.target c.index-states-target.result c.if-target-states.true))) j
