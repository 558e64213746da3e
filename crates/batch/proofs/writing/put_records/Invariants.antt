use Rattle.std.proofs.Common.{◌≡◌, ◌++◌, take}
use Rattle.wire_spec.specs.BatchSpelling.{records_spelling}
use Rattle.batch.proofs.writing.put_records.Given as goal

abbrev pub invariant-loop-place : goal.invariant-loop-place
invariant-loop-place l = l.out.items ≡ l.fn.out.items ++ records_spelling 0 (take l.place l.records)
