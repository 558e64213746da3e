-- Bytes at places of a part.
use Rattle.std.specs.Prelude.{ℕ, zero, suc, ◌+◌, Bool, ◌&&◌, nat_eq, nat_le, if◌then◌else◌, List, length, take, drop}
use Rattle.std.specs.Prelude.{Option, Some, None}
use Rattle.std.specs.{Option.option_map_or, List.starts_with}

-- `count` bytes from a place on; none where not all of them are there
abbrev pub cut_of : List ℕ → (place count : ℕ) → Option (List ℕ)
cut_of part place count = if nat_le (place + count) (length part) then Some (take count (drop place part)) else None

-- these bytes stand at a place of a part: it is one of the part's or its end, and what follows begins with them
abbrev pub stand_at : (part bytes : List ℕ) → ℕ → Bool
stand_at part bytes place = nat_le place (length part) && starts_with nat_eq (drop place part) bytes

-- the least of `count` places from the given one on at which a test holds
unfoldable pub least_place : (ℕ → Bool) → (place count : ℕ) → Option ℕ
least_place test place zero = None
least_place test place (suc count) = if test place then Some place else least_place test (place + 1) count

-- the least of 4,096 places from the given one on at which these bytes stand, plus 1; else 0
abbrev pub find_answer : (part bytes : List ℕ) → ℕ → ℕ
find_answer part bytes place = option_map_or (λ p. p + 1) (least_place (stand_at part bytes) place 4096) 0
