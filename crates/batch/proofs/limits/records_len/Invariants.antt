use Rattle.std.proofs.Common.{◌≡◌, ◌≤◌, ◌*◌, length, take}
use Rattle.wire_spec.specs.{declared.limits.TheConstants.MAX_RECORD_SIZE, BatchSpelling.records_spelling}
use Rattle.batch.proofs.limits.records_len.Given as goal

abbrev pub invariant-loop-place : goal.invariant-loop-place
invariant-loop-place l = record {
  size : l.len ≡ length (records_spelling 0 (take l.place l.records));
  small : l.len ≤ MAX_RECORD_SIZE * l.place;
}
