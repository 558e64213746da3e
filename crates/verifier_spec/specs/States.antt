-- Abstract states: their ranges, their order, and the one that every run begins in.
use Rattle.std.specs.Prelude.{ℕ, zero, suc, pos, Bool, true, ◌==◌, ◌&&◌, ◌||◌, not, [], ◌∷◌, length}
use Rattle.std.specs.List.{list_all}
use Rattle.wire_spec.specs.declared.limits.TheConstants.{MAX_KEY, MAX_VALUE}
use Rattle.machine_spec.specs.declared.{limits.TheConstants.STACK_SIZE, instruction.Region.Region}
use Rattle.verifier_spec.specs.{declared.state.Abs.Abs, declared.state.Abstract.Abstract, StackSets.is_set}
use Rattle.verifier_spec.specs.StackSets.{no_places}
use Rattle.verifier_spec.specs.Ranges.{lengths_from_to, is_proper_range, is_range_within}
use Rattle.verifier_spec.specs.Kinds.{kind_at, is_proper_kind, is_kind_within}

-- a test holds of every number below one
unfoldable pub each_below : ℕ → (ℕ → Bool) → Bool
each_below zero test = true
each_below (suc n) test = each_below n test && test n

-- The ranges of an abstract state: each of its eleven kinds is in its own, and the lengths are within their limits.
unfoldable pub is_proper : Abstract → Bool
is_proper s =
    (length s.registers == 11)
    && (list_all is_proper_kind s.registers && (is_proper_range MAX_KEY s.key && is_proper_range MAX_VALUE s.value))

-- A state is within another: each register is, the key's and the value's ranges are, and no fewer bytes are set.
unfoldable pub is_within : Abstract → Abstract → Bool
is_within inner outer =
    each_below 11 (λ r. is_kind_within inner (kind_at inner r) (kind_at outer r))
    && (is_range_within inner.key outer.key && (is_range_within inner.value outer.value
    && each_below STACK_SIZE (λ place. not (is_set outer.set place) || is_set inner.set place)))

-- the state that every run begins in: r1 and r3 address the value and the key, r2 and r4 are their lengths, r5 has the
-- null flags, r10 is the stack's end
abbrev pub entry_state : Abstract
entry_state = record {
  registers =
      Abs.None ∷ Abs.Addr Region.Value (pos 0) (pos 0) ∷ Abs.Len Region.Value ∷ Abs.Addr Region.Key (pos 0) (pos 0)
      ∷ Abs.Len Region.Key
      ∷ Abs.Num 0 3 ∷ Abs.None ∷ Abs.None ∷ Abs.None ∷ Abs.None
      ∷ Abs.Addr Region.Stack (pos STACK_SIZE) (pos STACK_SIZE) ∷ [];
  key = lengths_from_to 0 MAX_KEY;
  value = lengths_from_to 0 MAX_VALUE;
  set = no_places;
}
