use Rattle.std.proofs.Common.{ℕ, ◌<◌, get_or}
use Rattle.wire_spec.specs.declared.record.Record.{Record}
use Rattle.machine_spec.specs.{declared.outcome.Place.Place, Meaning.IsPlace}
use Rattle.exec.specs.Records.{IsShortRecord}
use Rattle.bench_exec.proofs.abreast.are_given.Given as goal

abbrev pub invariant-loop-i : goal.invariant-loop-i
invariant-loop-i l = record {
  limits : (k : ℕ) (g : Record) → k < l.i → IsShortRecord (get_or l.given k g);
  ranges : (k : ℕ) (p : Place) → k < l.i → IsPlace (get_or l.places k p);
}
