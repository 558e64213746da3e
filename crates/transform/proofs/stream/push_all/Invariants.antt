use Rattle.transform.proofs.StreamLaws.{Underway}
use Rattle.transform.proofs.stream.push_all.Given as goal

abbrev pub invariant-loop : goal.invariant-loop
invariant-loop g l =
    Underway l.program l.initial.reader l.initial.stream (g.V.Watch.told l.initial.watch) l.reader l.stream
    (g.V.Watch.told l.watch) l.reader.given
