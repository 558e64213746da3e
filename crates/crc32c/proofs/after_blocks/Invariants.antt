use Rattle.std.proofs.Common.{◌≡◌, take}
use Rattle.std.specs.List.{concat}
use Rattle.crc32c.specs.Register.{register_after}
use Rattle.crc32c.proofs.after_blocks.Given as goal

abbrev pub invariant-loop-block : goal.invariant-loop-block
invariant-loop-block l = l.r ≡ register_after l.fn.r (concat (take l.block-index l.blocks))
