use Rattle.fates.specs.Rejects.{as_summed}
use Rattle.fates.proofs.RejectLaws.{Setting}
use Rattle.fates.proofs.rejects.count_all.Given as goal

abbrev pub invariant-loop-code : goal.invariant-loop-code
invariant-loop-code l = Setting as_summed l.others.entries l.code-iterator l.initial.rejects.entries l.rejects.entries
