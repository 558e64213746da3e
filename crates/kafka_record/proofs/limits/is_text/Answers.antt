use Rattle.std.proofs.Common.{rules}
use Rattle.kafka_record.proofs.Within.{is_utf8_test}
use Rattle.kafka_record.proofs.limits.is_text.Goals as goal

pub returns-clause-test : goal.returns-clause-test
returns-clause-test c = is_utf8_test c.args.bytes.now c.is_ok.result (search rules)
