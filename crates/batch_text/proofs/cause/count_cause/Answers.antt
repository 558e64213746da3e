use Rattle.std.proofs.Common.{rules, ◌≡◌, [], ◌++◌, string_bytes, codes}
use Rattle.std.specs.Int.{w32, cast_signed}
use Rattle.wire_spec.specs.BatchReading.{record_count}
use Rattle.batch_text.specs.Lines.{field}
use Rattle.batch_text.proofs.cause.count_cause.Goals as goal
use Rattle.batch.proofs.Written.{row}

pub returns : goal.returns
returns c =
    let count = field (codes "the number of records is ") (cast_signed w32 (record_count c.args.bytes.now)) in
    let first : string_bytes c.push_int.new.text ≡ [] ++ count = search rules in
    row [] _ _ _ _ first c.in_ok-push_int-2.ensures
