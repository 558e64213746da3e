use Rattle.std.proofs.Common.{drop, refl, ◌≡◌, arith, None, Err, ok_or}
use Rattle.wire_spec.specs.{Memory.IsFault, RecordReading.record_at}
use Rattle.kafka_record.specs.declared.fault.RecordFault.TheVariants.{Bad, Memory}
use Rattle.kafka_record.proofs.Answered.{past_end, is_only}
use Rattle.kafka_record.proofs.reading.read.Goals as goal

none_begins : (c : goal.Then-at-len) → record_at c.args.delta (drop c.args.at c.args.bytes.now) ≡ None
none_begins c = past_end c.args.bytes.now c.args.at c.args.delta (omega (arith, c.if-at-len.true, c.len.ensures.value))

bad : (c : goal.Then-at-len) → IsFault Memory Bad (ok_or (record_at c.args.delta (drop c.args.at c.args.bytes.now)) Bad)
bad c = λ _. rw (none_begins c) refl

pub returns-then-at-len-clause-only : goal.returns-then-at-len-clause-only
returns-then-at-len-clause-only c = is_only c.args.bytes.now c.args.at c.args.delta c.ranges.delta (Err Bad) (bad c) tt

pub returns-then-at-len-clause-exact : goal.returns-then-at-len-clause-exact
returns-then-at-len-clause-exact c = bad c
