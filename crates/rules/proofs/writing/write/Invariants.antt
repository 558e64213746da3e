use Rattle.std.proofs.Common.{◌≡◌, take}
use Rattle.rules.specs.{Lines.lines_of, Writing.text_of}
use Rattle.rules.proofs.writing.write.Given as goal

abbrev pub invariant-loop-rule : goal.invariant-loop-rule
invariant-loop-rule l = l.out.items ≡ text_of (lines_of (take l.rule-index l.rules))
