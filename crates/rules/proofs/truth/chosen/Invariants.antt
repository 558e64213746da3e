use Rattle.std.proofs.Common.{◌≡◌, drop}
use Rattle.rules.specs.{Lines.lines_of, Meaning.chosen}
use Rattle.rules.proofs.truth.chosen.Given as goal

abbrev pub invariant-loop-rule : goal.invariant-loop-rule
invariant-loop-rule l = chosen (lines_of l.rules) l.given l.place
    ≡ chosen (lines_of (drop l.rule-index l.rules)) l.given l.place
