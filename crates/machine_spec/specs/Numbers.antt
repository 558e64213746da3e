-- Decimal numbers in a part.
use Rattle.std.specs.Prelude.{ℕ, ◌+◌, Bool, ◌&&◌, nat_le, if◌then◌else◌, List, length, Option, Some, None}
use Rattle.std.specs.{Char.is_ascii_digit, List.list_all, Str.Parse.digits_value}
use Rattle.machine_spec.specs.Places.{cut_of}

-- 1 to 18 bytes, each of which is an ASCII digit
abbrev pub are_digits : List ℕ → Bool
are_digits bytes = nat_le 1 (length bytes) && (nat_le (length bytes) 18 && list_all is_ascii_digit bytes)

-- the number that such bytes write, plus 1; else 0
abbrev pub decimal_of : Option (List ℕ) → ℕ
decimal_of (Some bytes) = if are_digits bytes then digits_value 10 bytes + 1 else 0
decimal_of None = 0

-- the same of `count` bytes from a place on
abbrev pub decimal_answer : List ℕ → (place count : ℕ) → ℕ
decimal_answer part place count = decimal_of (cut_of part place count)
