use Rattle.std.proofs.Common.{None}
use Rattle.transform.proofs.StreamLaws.{Underway}
use Rattle.transform.proofs.memory.push_within.Given as goal

abbrev pub invariant-loop : goal.invariant-loop
invariant-loop g l =
    Underway l.program l.initial.reader l.initial.stream None l.reader l.stream None l.place
