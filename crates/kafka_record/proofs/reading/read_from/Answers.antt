use Rattle.std.proofs.Common.{drop, subst, arith, ℤ, ok_or}
use Rattle.std.specs.Int.{w32}
use Rattle.std.proofs.lemmas.Int.{to_z-of_z}
use Rattle.wire_spec.specs.{RecordReading.record_at, Memory.AnswersAs}
use Rattle.wire_spec.proofs.Varints.{IsBytes}
use Rattle.kafka_record.specs.declared.fault.RecordFault.TheVariants.{Bad, Memory}
use Rattle.kafka_record.proofs.Answered.{view, is_found, is_only}
use Rattle.kafka_record.proofs.reading.read_from.Goals as goal

exact : (c : goal.After-record_from) →
    AnswersAs Memory (view c.args.bytes.now c.args.at c.args.delta c.ranges.delta) c.record_from.result
    (ok_or (record_at c.args.delta (drop c.args.at c.args.bytes.now)) Bad)
exact c = subst (λ (d : ℤ). AnswersAs Memory (view c.args.bytes.now c.args.at c.args.delta c.ranges.delta)
    c.record_from.result (ok_or (record_at d (drop c.args.at c.args.bytes.now)) Bad))
    (to_z-of_z w32 c.args.delta c.ranges.delta) c.record_from.ensures.exact

bytes_are : (c : goal.After-record_from) → IsBytes c.args.bytes.now
bytes_are c =
    let small : IsBytes c.args.slice.now = λ i. omega (arith, c.type_inv.slice i) in
    subst IsBytes c.requires.same small

pub returns-clause-found : goal.returns-clause-found
returns-clause-found c = is_found c.args.bytes.now c.args.at c.args.delta c.ranges.delta c.record_from.result
    (bytes_are c) (exact c) c.record_from.ensures.within

pub returns-clause-only : goal.returns-clause-only
returns-clause-only c = is_only c.args.bytes.now c.args.at c.args.delta c.ranges.delta c.record_from.result (exact c)
    c.record_from.ensures.within
