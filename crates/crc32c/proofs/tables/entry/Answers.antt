use Rattle.crc32c.proofs.Table.{TABLES_is}
use Rattle.crc32c.proofs.tables.entry.Goals as goal

pub returns : goal.returns
returns c = TABLES_is c.args.row c.args.byte c.requires.in_rows c.requires.in_row
