use Rattle.std.proofs.Common.{refl}
use Rattle.crc32c.specs.Register.{register_after}
use Rattle.crc32c.proofs.Steps.{after-take_more}
use Rattle.crc32c.proofs.after_bytes.Goals as goal

pub loop-byte-init : goal.loop-byte-init
unfolding register_after
loop-byte-init c = refl

pub loop-byte-preserved : goal.loop-byte-preserved
loop-byte-preserved c =
    let more = after-take_more c.args.r c.loop-byte.byte-index c.args.bytes.now c.loop-byte-test.true in
    cc
