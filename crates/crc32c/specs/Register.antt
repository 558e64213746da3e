-- The checksum's register: the remainder of the bytes so far.
use Rattle.std.specs.Prelude.{ℕ, List, [], ◌∷◌, bit_xor}
use Rattle.std.specs.Simd.Lanes.{chunk, number_l}
use Rattle.wire_spec.specs.Checksum.{remainder}

-- the remainder after more bytes, where that of the bytes before them is r
unfoldable pub register_after : ℕ → List ℕ → ℕ
register_after r [] = r
register_after r (b ∷ bs) = register_after (remainder 8 (bit_xor r b)) bs

-- the 32 coefficients in the four bytes from place i on, the first byte lowest
abbrev pub word_at : List ℕ → ℕ → ℕ
word_at bytes i = number_l 256 (chunk i 4 bytes)
