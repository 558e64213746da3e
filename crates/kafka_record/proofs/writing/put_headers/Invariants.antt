use Rattle.std.proofs.Common.{◌≡◌, ◌++◌, take}
use Rattle.std.specs.List.{flat_map}
use Rattle.wire_spec.specs.RecordSpelling.{header}
use Rattle.kafka_record.specs.Keeps.{Keeps}
use Rattle.kafka_record.proofs.writing.put_headers.Given as goal

-- The headers so far are at the end.
abbrev pub invariant-loop-one : goal.invariant-loop-one
invariant-loop-one l = record {
  written : l.out.items ≡ l.fn.out.items ++ flat_map header (take l.one-index l.headers);
  kept : Keeps l.fn.out.items l.out.items;
}
