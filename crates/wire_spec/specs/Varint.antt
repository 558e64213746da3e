-- Varints and varlongs, as a Kafka record has them: a signed number as its zigzag number, in groups of
-- seven bits, the lowest group first (Protocol Buffers, "Encoding": "Base 128 Varints" and "ZigZag").
use Rattle.std.specs.Prelude.{◌≡◌, ℕ, zero, suc, ◌+◌, ◌-◌, ◌*◌, ◌/◌, ◌%◌, ◌<◌, ◌≤◌, ℤ, pos, negsuc, List, [], ◌∷◌}
use Rattle.std.specs.Prelude.{length, take, position, slice_index, Option, Some, None, Result, Ok, Err, nat_lt, ◌==◌}
use Rattle.std.specs.Prelude.{◌&&◌, if◌then◌else◌, FitsSigned}
use Rattle.std.specs.Int.{w32, w64}
use Rattle.wire_spec.specs.declared.fault.VarintFault.{VarintFault}
use Rattle.wire_spec.specs.declared.fault.VarintFault.TheVariants.{Short, Long, NotShortest}

-- the zigzag number: 0, -1, 1, -2 become 0, 1, 2, 3
abbrev pub zigzag : ℤ → ℕ
zigzag (pos n) = 2 * n
zigzag (negsuc n) = 2 * n + 1

-- the number that has this zigzag number
abbrev pub unzigzag : ℕ → ℤ
unzigzag n = if n % 2 == 0 then pos (n / 2) else negsuc (n / 2)

-- ---- The grammar

-- The bytes spell the number. A byte below 128 is the last, and is the number itself. One from 128 on has the lowest
-- seven bits, and the bytes after it spell the rest, which isn't 0: so each number has one spelling, the shortest.
abbrev pub IsBase128 : List ℕ → ℕ → Type 0
IsBase128 [] n = ⊥
IsBase128 (b ∷ []) n = (b < 128) × (n ≡ b)
IsBase128 (b ∷ c ∷ bs) n = (128 ≤ b) × (b < 256) × (high : ℕ) × (0 < high) × (n + 128 ≡ b + 128 * high)
    × IsBase128 (c ∷ bs) high

-- the bytes are the varint of a signed number of 32 bits
pub record IsVarint (bytes : List ℕ) (z : ℤ) : Type 0 where
  pub fits : FitsSigned w32 z
  pub spelled : IsBase128 bytes (zigzag z)

-- the bytes are the varlong of a signed number of 64 bits
pub record IsVarlong (bytes : List ℕ) (z : ℤ) : Type 0 where
  pub fits : FitsSigned w64 z
  pub spelled : IsBase128 bytes (zigzag z)

-- ---- The spelling as a function

-- the groups of seven bits of n, the lowest first, each but the last with the top bit set; at most `most` of them,
-- which are enough wherever this is used
unfoldable pub groups : ℕ → ℕ → List ℕ
groups zero n = []
groups (suc most) n = if nat_lt n 128 then n ∷ [] else (128 + n % 128) ∷ groups most (n / 128)

-- the varint of a number of 32 bits, 1 to 5 bytes
unfoldable pub varint : ℤ → List ℕ
varint z = groups 5 (zigzag z)

-- the varlong of a number of 64 bits, 1 to 10 bytes
unfoldable pub varlong : ℤ → List ℕ
varlong z = groups 10 (zigzag z)

-- ---- Reading

-- the number that groups of seven bits encode, whatever their top bits are
abbrev pub groups_value : List ℕ → ℕ
groups_value [] = 0
groups_value (b ∷ bs) = b % 128 + 128 * groups_value bs

-- the place of the first byte without the top bit, looked for among the first `most` bytes
abbrev pub last_place : ℕ → List ℕ → Option ℕ
last_place most bytes = position (λ b. nat_lt b 128) (take most bytes)

-- The number that ends with the byte at this place, and how many bytes it takes, or the first refusal; no place means
-- that there is no last byte. It may have `most` bytes, of which the last is then at most `top`.
abbrev pub read_to : ℕ → ℕ → List ℕ → Option ℕ → Result (ℕ × ℕ) VarintFault
read_to most top bytes None = if nat_lt (length bytes) most then Err Short else Err Long
read_to most top bytes (Some last) =
    if (last == most - 1) && nat_lt top (slice_index bytes last) then Err Long
    else if nat_lt 0 last && (slice_index bytes last == 0) then Err NotShortest
    else Ok (groups_value (take (last + 1) bytes), last + 1)

-- the number in base 128 at the front of the bytes, and how many of them it takes, or the first refusal
abbrev pub read_base128 : ℕ → ℕ → List ℕ → Result (ℕ × ℕ) VarintFault
read_base128 most top bytes = read_to most top bytes (last_place most bytes)

-- the same of the signed number whose zigzag number it is
abbrev pub read_signed : Result (ℕ × ℕ) VarintFault → Result (ℤ × ℕ) VarintFault
read_signed (Ok x) = Ok (unzigzag x.0, x.1)
read_signed (Err f) = Err f

-- the varint at the front of the bytes, and how many of them it takes, or the first refusal
unfoldable pub read_varint : List ℕ → Result (ℤ × ℕ) VarintFault
read_varint bytes = read_signed (read_base128 5 0x0f bytes)

-- the same for a varlong
unfoldable pub read_varlong : List ℕ → Result (ℤ × ℕ) VarintFault
read_varlong bytes = read_signed (read_base128 10 0x01 bytes)
