use Rattle.std.proofs.Common.{arith}
use Rattle.crc32c.proofs.Blocks.{after-block}
use Rattle.crc32c.proofs.after_words.Goals as goal

pub returns : goal.returns
returns c block long fits is =
    let e = after-block c.args.r block long fits in
    let w0 = is 0 (omega arith) in
    let w1 = is 1 (omega arith) in
    let w2 = is 2 (omega arith) in
    let w3 = is 3 (omega arith) in
    cc
