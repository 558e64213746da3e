use Rattle.batch.specs.Packed.{span_records}
use Rattle.batch.proofs.Latest.{UpTo}
use Rattle.batch.proofs.times.latest_of_spans.Given as goal

abbrev pub invariant-loop-span : goal.invariant-loop-span
invariant-loop-span l = UpTo l.base (span_records l.bytes l.spans) l.span-index l.greatest
