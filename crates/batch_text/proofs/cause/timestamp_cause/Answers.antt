use Rattle.std.proofs.Common.{rules, ◌≡◌, [], ◌++◌, string_bytes, codes}
use Rattle.wire_spec.specs.BatchReading.{base_timestamp}
use Rattle.batch_text.specs.Lines.{field}
use Rattle.batch_text.proofs.cause.timestamp_cause.Goals as goal
use Rattle.batch.proofs.Written.{row}

pub returns : goal.returns
returns c =
    let base = field (codes "baseTimestamp is ") (base_timestamp c.args.bytes.now) in
    let first : string_bytes c.push_long.new.text ≡ [] ++ base = search rules in
    row [] _ _ _ _ first c.in_ok-push_long-2.ensures
