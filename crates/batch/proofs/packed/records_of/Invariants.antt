use Rattle.std.proofs.Common.{◌≡◌, take}
use Rattle.batch.specs.Packed.{span_records}
use Rattle.batch.proofs.packed.records_of.Given as goal

abbrev pub invariant-loop-span : goal.invariant-loop-span
invariant-loop-span l = l.list.items ≡ span_records l.bytes (take l.span-index l.spans)
