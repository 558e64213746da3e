use Rattle.std.proofs.Common.{sym, ◌∙◌}
use Rattle.annotate.proofs.joining.claim_of.Goals as goal
use Rattle.notes.proofs.Steps.{claim_at-get_or}

pub returns : goal.returns
returns c = c.index-states-k.is ∙ sym (claim_at-get_or c.args.states.now c.args.k c.index-states-k.result c.requires)
