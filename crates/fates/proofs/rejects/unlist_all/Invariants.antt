use Rattle.fates.specs.Rejects.{unless_none}
use Rattle.fates.proofs.RejectLaws.{Setting}
use Rattle.fates.proofs.rejects.unlist_all.Given as goal

abbrev pub invariant-loop-code : goal.invariant-loop-code
invariant-loop-code l = Setting unless_none l.others.entries l.code-iterator l.initial.rejects.entries l.rejects.entries
