-- Sets of stack places by their eight words: place k is bit k % 64 of word k / 64.
use Rattle.std.specs.Prelude.{ℕ, zero, suc, ◌+◌, ◌/◌, ◌%◌, ◌^◌, Bool, ◌==◌, bit_and, bit_or, if◌then◌else◌, [], ◌∷◌}
use Rattle.std.specs.Prelude.{map, slice_index}
use Rattle.std.specs.Int.{bit_at}
use Rattle.verifier_spec.specs.declared.state.StackSet.{StackSet}

-- the word with a number; past the last one, 0
abbrev pub word_of : StackSet → ℕ → ℕ
word_of set number = slice_index set.words number

-- the set that has these words, each by its number
abbrev pub set_of : (ℕ → ℕ) → StackSet
set_of word = record { words = map word (0 ∷ 1 ∷ 2 ∷ 3 ∷ 4 ∷ 5 ∷ 6 ∷ 7 ∷ []) }

-- a place is in a set
abbrev pub is_set : StackSet → ℕ → Bool
is_set set place = bit_at (word_of set (place / 64)) (place % 64) == 1

-- the set without a place
abbrev pub no_places : StackSet
no_places = set_of (λ number. 0)

-- the places that are in both sets
abbrev pub intersection : StackSet → StackSet → StackSet
intersection a b = set_of (λ number. bit_and (word_of a number) (word_of b number))

-- a place added to a set
abbrev pub with_place : StackSet → ℕ → StackSet
with_place set place = set_of (λ number. bit_or (word_of set number)
    (if number == place / 64 then 2 ^ (place % 64) else 0))

-- `count` places from one on added to a set
abbrev pub with_places : StackSet → ℕ → ℕ → StackSet
with_places set place zero = set
with_places set place (suc count) = with_places (with_place set place) (place + 1) count
