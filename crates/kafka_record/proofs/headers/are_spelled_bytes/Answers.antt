use Rattle.std.proofs.Common.{arith}
use Rattle.wire_spec.proofs.Varints.{IsBytes}
use Rattle.kafka_record.proofs.ByteHeaders.{are_bytes}
use Rattle.kafka_record.proofs.headers.are_spelled_bytes.Goals as goal

pub returns : goal.returns
returns c =
    let fits : IsBytes c.args.bytes.now = λ i. omega (arith, c.type_inv.bytes i) in
    are_bytes c.args.bytes.now c.args.start c.args.end c.args.count fits c.requires
