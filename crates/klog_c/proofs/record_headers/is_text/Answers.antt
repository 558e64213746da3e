use Rattle.std.proofs.Common.{rules}
use Rattle.kafka_record.proofs.Within.{is_utf8_test}
use Rattle.klog_c.proofs.record_headers.is_text.Goals as goal

pub returns : goal.returns
returns c = is_utf8_test c.args.bytes.now c.is_ok.result (search rules)
