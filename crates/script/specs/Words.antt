-- The words of a line, and the numbers and bytes that words spell.
use Rattle.std.specs.Prelude.{ℕ, ◌+◌, ◌*◌, ◌-◌, ◌^◌, Bool, not, ◌&&◌, ◌||◌, ◌==◌, nat_lt, nat_le, min, if◌then◌else◌}
use Rattle.std.specs.Prelude.{List, [], ◌∷◌, length, map, slice_index, slice_index_or, Option, Some, None}
use Rattle.std.specs.{List.slice_split, List.list_all, Str.Parse.digits_value, Str.bytes_eq, Char.is_ascii_digit}
use denote.Ref.{Bor}

-- the words of a line: its pieces between single spaces, of which some may be empty
abbrev pub words_of : List ℕ → List (List ℕ)
words_of line = slice_split (λ b. b == 32) line

-- word k of a line, from 0; empty where there is none
abbrev pub word_at : List (List ℕ) → ℕ → List ℕ
word_at words k = slice_index_or words k []

-- the texts of borrowed words
abbrev pub texts : List (Bor (List ℕ)) → List (List ℕ)
texts words = map (λ w. w.now) words

-- ---- numbers

-- decimal digits, at least one, of which the first is 0 only where it is alone
abbrev pub is_number : List ℕ → Bool
is_number word = nat_lt 0 (length word)
    && (list_all is_ascii_digit word && ((length word == 1) || not (slice_index word 0 == 48)))

-- The whole number that a word spells. One past 2^64 - 1 counts as 2^64 - 1, which is past every limit.
abbrev pub decimal_of : List ℕ → Option ℕ
decimal_of word = if is_number word then Some (min (digits_value 10 word) (2 ^ 64 - 1)) else None

-- ---- bytes

-- the value of a lower-case hex digit
abbrev pub hex_digit : ℕ → Option ℕ
hex_digit b = if nat_le 48 b && nat_le b 57 then Some (b - 48) else if nat_le 97 b
    && nat_le b 102 then Some (b - 87) else None

-- the byte that two hex digits spell, if both are digits
abbrev pub pair_of : Option ℕ → Option ℕ → Option ℕ
pair_of (Some high) (Some low) = Some (high * 16 + low)
pair_of (Some high) None = None
pair_of None low = None

-- a byte before others, if both are spelled
abbrev pub before_bytes : Option ℕ → Option (List ℕ) → Option (List ℕ)
before_bytes (Some byte) (Some bytes) = Some (byte ∷ bytes)
before_bytes (Some byte) None = None
before_bytes None bytes = None

-- the bytes that pairs of lower-case hex digits spell, the high digit first
abbrev pub hex_bytes : List ℕ → Option (List ℕ)
hex_bytes [] = Some []
hex_bytes (a ∷ []) = None
hex_bytes (a ∷ b ∷ word) = before_bytes (pair_of (hex_digit a) (hex_digit b)) (hex_bytes word)

-- bytes that are not null, if some are spelled
abbrev pub some_bytes : Option (List ℕ) → Option (Option (List ℕ))
some_bytes (Some bytes) = Some (Some bytes)
some_bytes None = None

-- the bytes that a word spells: `-` is null, `.` is no bytes, and others are hex pairs
abbrev pub spelled_bytes : List ℕ → Option (Option (List ℕ))
spelled_bytes word = if bytes_eq word (45 ∷ []) then Some None else if bytes_eq word (46 ∷ []) then Some (Some []) else
    some_bytes (hex_bytes word)
