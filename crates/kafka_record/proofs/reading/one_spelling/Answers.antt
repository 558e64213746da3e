use Rattle.wire_spec.proofs.RecordLaws.{one_record}
use Rattle.kafka_record.proofs.reading.one_spelling.Goals as goal

pub returns : goal.returns
returns c = one_record
