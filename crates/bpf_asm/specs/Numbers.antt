-- Numbers and distances as texts spell them. A text is the list of its bytes.
use Rattle.std.specs.Prelude.{ℕ, ◌^◌, ℤ, pos, negsuc, neg_ℤ, Bool, not, ◌&&◌, ◌||◌, ◌==◌, nat_lt, int_le, min}
use Rattle.std.specs.Prelude.{if◌then◌else◌, List, ◌∷◌, length, drop, slice_index, Option, Some, None, suc, decimal}
use Rattle.std.specs.{List.list_all, Char.is_ascii_digit, Str.Parse.digits_value}

-- one decimal digit or more
abbrev pub is_digits : List ℕ → Bool
is_digits text = nat_lt 0 (length text) && list_all is_ascii_digit text

-- digits, of which the first is 0 only where it is alone
abbrev pub is_natural : List ℕ → Bool
is_natural text = is_digits text && ((length text == 1) || not (slice_index text 0 == 48))

-- The number that digits spell. One past 2^64 counts as 2^64, which is out of every range.
abbrev pub natural : List ℕ → Option ℕ
natural text = if is_natural text then Some (min (digits_value 10 text) (2 ^ 64)) else None

-- the number as a signed one, if there is one
abbrev pub positive : Option ℕ → Option ℤ
positive (Some n) = Some (pos n)
positive None = None

-- the number with a minus sign, if there is one; 0 has no sign
abbrev pub negative : Option ℕ → Option ℤ
negative (Some n) = if n == 0 then None else Some (neg_ℤ (pos n))
negative None = None

-- the number that a text spells: `-` (45) is before one below 0, and nothing before others
abbrev pub written_number : List ℕ → Option ℤ
written_number text = if slice_index text 0 == 45 then negative (natural (drop 1 text)) else positive (natural text)

-- the distance that a text spells: `+` (43) is before it, or `-` (45) where it is below 0
abbrev pub distance_of : List ℕ → Option ℤ
distance_of text =
    if slice_index text 0 == 43 then positive (natural (drop 1 text)) else
    if slice_index text 0 == 45 then negative (natural (drop 1 text)) else None

-- the number is in a range, whose ends are part of it
abbrev pub is_in : ℤ → ℤ → ℤ → Bool
is_in low high z = int_le low z && int_le z high

-- ---- the text of a distance; that of a number is `signed_decimal`

-- the text of a distance, with its sign
abbrev pub distance_text : ℤ → List ℕ
distance_text (pos n) = 43 ∷ decimal n
distance_text (negsuc n) = 45 ∷ decimal (suc n)
