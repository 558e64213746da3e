use Rattle.std.proofs.Common.{◌≡◌, take}
use Rattle.crc32c.specs.Register.{register_after}
use Rattle.crc32c.proofs.after_bytes.Given as goal

abbrev pub invariant-loop-byte : goal.invariant-loop-byte
invariant-loop-byte l = l.r ≡ register_after l.fn.r (take l.byte-index l.bytes)
