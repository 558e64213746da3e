use Rattle.batch.proofs.Latest.{UpTo}
use Rattle.batch.proofs.times.latest.Given as goal

abbrev pub invariant-loop-record : goal.invariant-loop-record
invariant-loop-record l = UpTo l.base l.records l.record-index l.greatest
