use Rattle.std.proofs.Common.{◌≡◌, take}
use Rattle.std.specs.List.{concat}
use Rattle.crc32c.specs.Register.{register_after}
use Rattle.crc32c.proofs.after_fours.Given as goal

abbrev pub invariant-loop-four : goal.invariant-loop-four
invariant-loop-four l = l.r ≡ register_after l.fn.r (concat (take l.four-index l.fours))
