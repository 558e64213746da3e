use Rattle.std.proofs.Common.{sym}
use Rattle.kafka_record.proofs.HeadersLaws.{length_in}
use Rattle.kafka_record.proofs.headers.spelled_count.Goals as goal

pub returns : goal.returns
returns c = sym (length_in c.args.bytes.now c.args.start c.args.end c.args.count c.requires)
