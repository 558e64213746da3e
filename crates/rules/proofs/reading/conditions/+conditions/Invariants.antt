use Rattle.rules.proofs.reading.conditions.+conditions.Given as goal

abbrev pub decreases-any_at : goal.decreases-any_at
decreases-any_at l = l.steps

abbrev pub decreases-all_at : goal.decreases-all_at
decreases-all_at l = l.steps

abbrev pub decreases-one_at : goal.decreases-one_at
decreases-one_at l = l.steps
