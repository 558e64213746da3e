use Rattle.std.proofs.Common.{◌≡◌, ◌+◌, ◌-◌, ◌≤◌, length}
use Rattle.transform.proofs.PushLaws.{Begun}
use Rattle.transform.proofs.flow.push_parts.Given as goal

abbrev pub invariant-loop-done : goal.invariant-loop-done
invariant-loop-done g l = record {
  few : l.done ≤ length l.batch.records;
  begun : Begun l.program l.batch l.fn.stream l.done l.stream;
  counted : l.stream.counts.records ≡ l.fn.stream.counts.records + l.done;
  rows : length l.rows.rows ≡ length l.fn.stream.outputs;
}

abbrev pub decreases-loop-done : goal.decreases-loop-done
decreases-loop-done g l = length l.batch.records - l.done
