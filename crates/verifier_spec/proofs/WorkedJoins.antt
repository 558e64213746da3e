-- Joins of kinds, worked.
use Rattle.std.proofs.Common.{◌≡◌, pos, refl}
use Rattle.wire_spec.specs.declared.limits.TheConstants.{MAX_VALUE}
use Rattle.machine_spec.specs.declared.instruction.Region.TheVariants as region
use Rattle.verifier_spec.specs.declared.state.Abs.TheVariants as abs
use Rattle.verifier_spec.specs.{declared.state.Abstract.Abstract, Ranges.lengths_from_to, States.entry_state}
use Rattle.verifier_spec.specs.{Joins.joined_kind, Joins.joined_state}

-- the value has five to nine bytes
abbrev five_to_nine : Abstract
five_to_nine = record entry_state { value = lengths_from_to 5 9 }

two_intervals : joined_kind entry_state entry_state (abs.Num 1 2) (abs.Num 5 9) ≡ abs.Num 1 9
two_intervals = refl

length_and_number : joined_kind entry_state entry_state (abs.Len region.Value) (abs.Num 3 7) ≡ abs.Num 0 MAX_VALUE
length_and_number = refl

number_and_length : joined_kind five_to_nine five_to_nine (abs.Num 3 7) (abs.Len region.Value) ≡ abs.Num 3 9
number_and_length = refl

narrower_length : joined_kind five_to_nine five_to_nine (abs.Len region.Value) (abs.Num 3 7) ≡ abs.Num 3 9
narrower_length = refl

-- each length by the view of its own state
views_of_two_states : joined_kind five_to_nine entry_state (abs.Len region.Value) (abs.Num 3 7) ≡ abs.Num 3 9
views_of_two_states = refl

two_lengths : joined_kind entry_state entry_state (abs.Len region.Key) (abs.Len region.Value) ≡ abs.Num 0 MAX_VALUE
two_lengths = refl

same_length : joined_kind five_to_nine entry_state (abs.Len region.Value) (abs.Len region.Value) ≡ abs.Len region.Value
same_length = refl

two_addresses : joined_kind entry_state entry_state (abs.Addr region.Value (pos 0) (pos 0))
    (abs.Addr region.Value (pos 4) (pos 4)) ≡ abs.Addr region.Value (pos 0) (pos 4)
two_addresses = refl

two_regions : joined_kind entry_state entry_state (abs.Addr region.Value (pos 0) (pos 0))
    (abs.Addr region.Key (pos 0) (pos 0)) ≡ abs.None
two_regions = refl

number_and_address : joined_kind entry_state entry_state (abs.Num 0 0) (abs.Addr region.Value (pos 0) (pos 0))
    ≡ abs.None
number_and_address = refl

address_and_length : joined_kind entry_state entry_state (abs.Addr region.Value (pos 0) (pos 0)) (abs.Len region.Value)
    ≡ abs.None
address_and_length = refl

-- the lengths of a join contain those of both states
joined_lengths : joined_state entry_state five_to_nine ≡ entry_state
joined_lengths = refl
