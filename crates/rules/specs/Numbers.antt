-- Numbers as digits spell them.
use Rattle.std.specs.Prelude.{ℕ, ◌^◌, ◌&&◌, nat_lt, if◌then◌else◌, List, length, Option, Some, None}
use Rattle.std.specs.{List.list_all, Str.Parse.digits_value, Char.is_digit}

-- the number that digits of a base spell, where there is one at least and 64 bits hold it
abbrev pub digits_number : ℕ → List ℕ → Option ℕ
digits_number base digits = if nat_lt 0 (length digits)
    && (list_all (λ d. is_digit d base) digits && nat_lt (digits_value base digits) (2 ^ 64))
    then Some (digits_value base digits) else None
