use Rattle.std.proofs.Common.{refl}
use Rattle.crc32c.specs.Register.{register_after}
use Rattle.crc32c.proofs.Blocks.{after-next_block}
use Rattle.crc32c.proofs.after_blocks.Goals as goal

pub loop-block-init : goal.loop-block-init
unfolding register_after
loop-block-init c = refl

pub loop-block-preserved : goal.loop-block-preserved
loop-block-preserved c =
    let next = after-next_block c.args.r c.loop-block.block-index c.args.blocks.now c.loop-block-test.true in
    cc
