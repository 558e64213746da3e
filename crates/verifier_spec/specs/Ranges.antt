-- Ranges of lengths in bytes: when one is in its limit, their order and their join.
use Rattle.std.specs.Prelude.{ℕ, min, max, Bool, ◌&&◌, nat_le}
use Rattle.verifier_spec.specs.{declared.interval.Interval.Interval, declared.state.Range.Range, Intervals.from_to}

-- the lengths from one to another
abbrev pub lengths_from_to : ℕ → ℕ → Range
lengths_from_to least most = record { min = least; max = most }

-- the numbers that a range's lengths are
abbrev pub interval_of : Range → Interval
interval_of range = from_to range.min range.max

-- a range is not empty, and its lengths are no greater than a limit
abbrev pub is_proper_range : ℕ → Range → Bool
is_proper_range limit range = nat_le range.min range.max && nat_le range.max limit

-- the lengths of a range are in another
abbrev pub is_range_within : Range → Range → Bool
is_range_within inner outer = nat_le outer.min inner.min && nat_le inner.max outer.max

-- the least range that two are within
abbrev pub joined_range : Range → Range → Range
joined_range a b = lengths_from_to (min a.min b.min) (max a.max b.max)
