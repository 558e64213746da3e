-- Abstract values of registers: their ranges and their order.
use Rattle.std.specs.Prelude.{ℕ, ◌^◌, pos, neg_ℤ, Bool, true, false, ◌&&◌, not, nat_lt, nat_le, int_le, slice_index_or}
use Rattle.std.specs.Prelude.{Option, Some, None}
use Rattle.machine_spec.specs.{declared.limits.TheConstants.STACK_SIZE, declared.instruction.Region.Region}
use Rattle.machine_spec.specs.Traps.{is_stack}
use Rattle.verifier_spec.specs.declared.{interval.Interval.Interval, state.Abs.Abs, state.Range.Range}
use Rattle.verifier_spec.specs.declared.state.Abstract.{Abstract}
use Rattle.verifier_spec.specs.{Intervals.from_to, Ranges.lengths_from_to, Ranges.interval_of}

-- what a state knows of a register; of one past r10, nothing
abbrev pub kind_at : Abstract → ℕ → Abs
kind_at s r = slice_index_or s.registers r Abs.None

-- the lengths that a region may have in a state; the stack has 512 bytes
abbrev pub length_range : Abstract → Region → Range
length_range s Region.Stack = lengths_from_to STACK_SIZE STACK_SIZE
length_range s Region.Key = s.key
length_range s Region.Value = s.value

-- the numbers that a kind represents, if it represents numbers
abbrev pub range_of : Abstract → Abs → Option Interval
range_of s (Abs.Num lo hi) = Some (from_to lo hi)
range_of s (Abs.Len region) = Some (interval_of (length_range s region))
range_of s _ = None

-- of a register nothing is known; it is a number, which a length is too; it is an address
abbrev pub is_unknown : Abs → Bool
is_unknown Abs.None = true
is_unknown _ = false

abbrev pub is_number_kind : Abs → Bool
is_number_kind (Abs.Num _ _) = true
is_number_kind (Abs.Len _) = true
is_number_kind _ = false

abbrev pub is_address_kind : Abs → Bool
is_address_kind (Abs.Addr _ _ _) = true
is_address_kind _ = false

-- ---- ranges of kinds

-- the furthest that an address's offset may be from 0, either way
abbrev pub furthest : ℕ
furthest = 2 ^ 32

-- an interval is not empty and in range; a length is the key's or the value's
abbrev pub is_proper_kind : Abs → Bool
is_proper_kind Abs.None = true
is_proper_kind (Abs.Num lo hi) = nat_le lo hi && nat_lt hi (2 ^ 64)
is_proper_kind (Abs.Len region) = not (is_stack region)
is_proper_kind (Abs.Addr _ lo hi) = int_le (neg_ℤ (pos furthest)) lo && (int_le lo hi && int_le hi (pos furthest))

-- ---- order

-- two regions are the same
abbrev pub same_region : Region → Region → Bool
same_region Region.Stack Region.Stack = true
same_region Region.Key Region.Key = true
same_region Region.Value Region.Value = true
same_region _ _ = false

-- One kind is within another: whatever the first represents in the inner state, the second does. A length is within the
-- numbers that include all that it may be there.
abbrev pub is_kind_within : Abstract → Abs → Abs → Bool
is_kind_within inner _ Abs.None = true
is_kind_within inner (Abs.Num lo hi) (Abs.Num low high) = nat_le low lo && nat_le hi high
is_kind_within inner (Abs.Len a) (Abs.Num low high) = nat_le low (length_range inner a).min
    && nat_le (length_range inner a).max high
is_kind_within inner (Abs.Len a) (Abs.Len b) = same_region a b
is_kind_within inner (Abs.Addr a lo hi) (Abs.Addr b low high) = same_region a b && (int_le low lo && int_le hi high)
is_kind_within inner _ _ = false
