use Rattle.crc32c.proofs.Blocks.{from_entries}
use Rattle.crc32c.proofs.fold_word.Goals as goal

pub returns : goal.returns
returns c = (let e = from_entries c.args.row c.args.word in cc)
