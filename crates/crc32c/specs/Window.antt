-- Blocks of 16 bytes whose part is moved to the blocks behind them, by a sparse multiple of the generator.
--
-- With z = x^8 a multiple is z^n + z^d + z^c + z^b + z^a + 1. So a block may be taken away where it is added n - d,
-- n - c, n - b, n - a and n bytes further on. The window holds the last n bytes that were so taken away, as they were
-- then: a number, the earliest byte lowest.
use Rattle.std.specs.Prelude.{ℕ, ◌≡◌, ◌+◌, ◌*◌, ◌/◌, ◌^◌, ◌<◌, ◌≤◌, List, length, bit_xor}
use Rattle.std.specs.{List.concat, Simd.Lanes.Each1, Simd.Lanes.number_l, Simd.Lanes.chunk}
use Rattle.wire_spec.specs.Checksum.{remainder}

-- sixteen bytes
abbrev pub IsBlock : List ℕ → Type 0
IsBlock block = (length block ≡ 16) × Each1 (λ b. b < 256) block

-- blocks of sixteen bytes, as the bytes of all show
abbrev pub AreBlocks : List (List ℕ) → Type 0
AreBlocks blocks = (length (concat blocks) ≡ 16 * length blocks) × Each1 (λ b. b < 256) (concat blocks)

-- the sum of five polynomials
abbrev pub sum_of_five : ℕ → ℕ → ℕ → ℕ → ℕ → ℕ
sum_of_five a b c d e = bit_xor (bit_xor (bit_xor (bit_xor a b) c) d) e

-- what a polynomial leaves `bytes` bytes before the end
abbrev pub before_end : ℕ → ℕ → ℕ
before_end bytes p = remainder (8 * bytes) p

-- what a polynomial leaves at the places of the lower powers of a multiple
abbrev pub spread : ℕ → ℕ → ℕ → ℕ → ℕ → ℕ
spread a b c d p = sum_of_five p (before_end a p) (before_end b p) (before_end c p) (before_end d p)

-- The generator divides z^n + z^d + z^c + z^b + z^a + 1, as the polynomial 1 shows. The powers are in order, at a word
-- or more, and a block has room below the highest, which has two.
pub record IsMultiple (a b c d n : ℕ) : Type 0 where
  pub divided : before_end n 0x8000_0000 ≡ spread a b c d 0x8000_0000
  pub word : 4 ≤ a
  pub second : a ≤ b
  pub third : b ≤ c
  pub fourth : c ≤ d
  pub block : d + 16 ≤ n
  pub two_blocks : 32 ≤ n

-- the window without its first bytes, the earliest ones
abbrev pub later : ℕ → ℕ → ℕ
later bytes window = window / 2 ^ (8 * bytes)

-- what a window adds to the bytes behind it, the first of them lowest
unfoldable pub window_behind : ℕ → ℕ → ℕ → ℕ → ℕ → ℕ
window_behind a b c d window = sum_of_five window (later a window) (later b window) (later c window) (later d window)

-- the remainder after more blocks, where that of what is before them is r, and the window adds to them
unfoldable pub after_window : ℕ → ℕ → ℕ → ℕ → ℕ → ℕ → List (List ℕ) → ℕ
after_window a b c d r window blocks =
    remainder (128 * length blocks) (bit_xor (bit_xor r (window_behind a b c d window)) (number_l 256 (concat blocks)))

-- the window of n bytes from a place on
abbrev pub window_at : ℕ → ℕ → List ℕ → ℕ
window_at n place bytes = number_l 256 (chunk place n bytes)
