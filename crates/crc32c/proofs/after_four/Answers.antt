use Rattle.std.proofs.Common.{◌≡◌, length, rules}
use Rattle.crc32c.proofs.Steps.{after-four, each_below}
use Rattle.crc32c.proofs.after_four.Goals as goal

pub returns : goal.returns
returns c =
    let four = c.args.four.now in
    let long : length four ≡ 4 = search rules in
    let word = after-four c.args.r four long (each_below four c.fits-four) in
    cc
