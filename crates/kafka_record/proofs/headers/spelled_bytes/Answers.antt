use Rattle.std.proofs.Common.{arith}
use Rattle.wire_spec.proofs.Varints.{IsBytes}
use Rattle.kafka_record.proofs.HeadersLaws.{bytes_are}
use Rattle.kafka_record.proofs.headers.spelled_bytes.Goals as goal

pub returns : goal.returns
returns c =
    let fits : IsBytes c.args.bytes.now = λ i. omega (arith, c.type_inv.bytes i) in
    bytes_are c.args.bytes.now c.args.start c.args.end c.args.count fits c.requires
