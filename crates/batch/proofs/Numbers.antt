-- Eight bytes as one number, by both definitions of it.
use Rattle.std.proofs.Common.{◌≡◌, List, ℕ, arith}
use Rattle.std.specs.Int.{w64, from_be_bytes}
use Rattle.byteorder.specs.Endian.{big_number}

pub eight_bytes : (bytes : List ℕ) → big_number 8 bytes ≡ from_be_bytes w64 bytes
eight_bytes bytes = omega arith
