-- Lists of how many records each code rejected, and what is done to them.
use Rattle.std.specs.Prelude.{◌≡◌, ℕ, ◌+◌, ◌==◌, false, List, Option, Some, None}
use Rattle.std.specs.{Ordering.nat_cmp, Map.keys_of, List.Sorted.IsStrictlySortedBy}
use Rattle.fates.specs.Totals.{rejected_by, rejects_of, listed_count}

-- a code is listed only where it rejected a record
abbrev pub ListsSome : List (ℕ × ℕ) → Type 0
ListsSome rejects = (code : ℕ) → rejected_by code rejects ≡ listed_count (rejects_of code rejects)

-- this is listed at a code, and nothing else changes
pub record IsSet (code : ℕ) (here : Option ℕ) (old new : List (ℕ × ℕ)) : Type 0 where
  pub rising : IsStrictlySortedBy nat_cmp (keys_of new)
  pub here_is : rejected_by code new ≡ here
  pub others : (other : ℕ) → (code == other) ≡ false → rejected_by other new ≡ rejected_by other old

-- At each of these codes a number is listed that is made of its count and of its other count; nothing else changes.
pub record AreSet (made : ℕ → ℕ → Option ℕ) (others old new : List (ℕ × ℕ)) : Type 0 where
  pub rising : IsStrictlySortedBy nat_cmp (keys_of new)
  pub at : (code more : ℕ) → rejected_by code others ≡ Some more →
      rejected_by code new ≡ made (rejects_of code old) more
  pub apart : (code : ℕ) → rejected_by code others ≡ None → rejected_by code new ≡ rejected_by code old

-- each count is listed as it was
abbrev pub as_listed : ℕ → ℕ → Option ℕ
as_listed count more = Some count

-- each count is listed as it was, unless it is 0
abbrev pub unless_none : ℕ → ℕ → Option ℕ
unless_none count more = listed_count count

-- each count is listed with the other one
abbrev pub as_summed : ℕ → ℕ → Option ℕ
as_summed count more = Some (count + more)

-- At some of these codes a count is listed that may be 0; nothing else changes.
pub record AreKept (others old new : List (ℕ × ℕ)) : Type 0 where
  pub rising : IsStrictlySortedBy nat_cmp (keys_of new)
  pub same : (code : ℕ) → rejects_of code new ≡ rejects_of code old
  pub apart : (code : ℕ) → rejected_by code others ≡ None → rejected_by code new ≡ rejected_by code old

-- each code rejected as many as in both lists, and only codes that rejected a record are listed
pub record AreSummed (one other both : List (ℕ × ℕ)) : Type 0 where
  pub rising : IsStrictlySortedBy nat_cmp (keys_of both)
  pub sums : (code : ℕ) → rejected_by code both ≡ listed_count (rejects_of code one + rejects_of code other)
