use Rattle.std.proofs.Common.{refl}
use Rattle.crc32c.specs.Register.{register_after}
use Rattle.crc32c.proofs.Blocks.{after-next_block}
use Rattle.crc32c.proofs.after_fours.Goals as goal

pub loop-four-init : goal.loop-four-init
unfolding register_after
loop-four-init c = refl

pub loop-four-preserved : goal.loop-four-preserved
loop-four-preserved c =
    let next = after-next_block c.args.r c.loop-four.four-index c.args.fours.now c.loop-four-test.true in
    cc
