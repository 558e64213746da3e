use Rattle.std.proofs.Common.{rules, ◌≡◌, drop, Ok}
use Rattle.wire_spec.specs.BatchReading.{count_at, records_at, whole_at}
use Rattle.batch.specs.Packed.{span_records}
use Rattle.batch.proofs.packed.whole_of.Goals as goal

pub timed_of-requires-clause-whole : goal.timed_of-requires-clause-whole
unfolding whole_at
timed_of-requires-clause-whole c b made =
    let records = span_records c.args.bytes c.in_ok-spans.spans.items in
    let counted : count_at c.args.bytes ≡ Ok c.in_ok-count.count = search rules in
    let read : records_at c.in_ok-count.count 0 (drop 61 c.args.bytes) ≡ Ok records = search rules in
    c.requires.whole b (rw (counted, read) made)
