use Rattle.std.proofs.Common.{◌≡◌, rules}
use Rattle.wire_spec.specs.RecordSpelling.{record_parts}
use Rattle.row_batch.proofs.RowLaws.{few_parts}
use Rattle.row_batch.proofs.records.put_if_room.Goals as goal

pub write_spelled-requires : goal.write_spelled-requires
write_spelled-requires c =
    let spelled : c.in-Some.parts.now ≡ record_parts c.args.row.now.key c.args.row.now.value c.args.row.now.headers =
    search rules in
    few_parts c.args.row.now c.in-Some.parts.now c.requires.row spelled
