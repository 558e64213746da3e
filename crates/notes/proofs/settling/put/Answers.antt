use Rattle.std.proofs.Common.{ap, ◌∙◌, Some}
use Rattle.notes.specs.Derived.{given_or}
use Rattle.notes.proofs.Steps.{put_one}
use Rattle.notes.proofs.settling.put.Goals as goal

pub returns-then-pair-states-clause-each : goal.returns-then-pair-states-clause-each
returns-then-pair-states-clause-each c =
    put_one c.args.states.now c.args.pair c.given_or.result c.if-pair-states.true
    (c.given_or.ensures ∙ ap (λ o. given_or o (Some c.args.pair.1)) c.state_of.ensures)
