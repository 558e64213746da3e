use Rattle.std.proofs.Common.{◌≡◌, length, rules}
use Rattle.crc32c.proofs.Steps.{each_below}
use Rattle.crc32c.proofs.after_block.Goals as goal

pub returns : goal.returns
returns c =
    let block = c.args.block.now in
    let long : length block ≡ 16 = search rules in
    c.after_words.ensures block long (each_below block c.fits-block) c.words.ensures
