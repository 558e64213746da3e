-- The join of two abstract states: the least state that both are within.
use Rattle.std.specs.Prelude.{◌≡◌, min, max, true, if◌then◌else◌, List, [], ◌∷◌, Option, Some}
use Rattle.std.specs.Int.{int_min, int_max}
use Rattle.verifier_spec.specs.declared.{interval.Interval.Interval, state.Abs.Abs, state.Abstract.Abstract}
use Rattle.verifier_spec.specs.{StackSets.intersection, Ranges.joined_range, Kinds.range_of, Kinds.same_region}
use Rattle.verifier_spec.specs.{States.is_proper, States.is_within}

-- the least interval that contains two; nothing is known where one of them is no number
abbrev pub joined_numbers : Option Interval → Option Interval → Abs
joined_numbers (Some a) (Some b) = Abs.Num (min a.low b.low) (max a.high b.high)
joined_numbers _ _ = Abs.None

-- The join of a kind in one state and a kind in another. A length joined with the same length stays a length; two other
-- numbers give an interval, a length by the view of its own state.
abbrev pub joined_kind : Abstract → Abstract → Abs → Abs → Abs
joined_kind a b (Abs.Len at) (Abs.Len other) =
    if same_region at other then Abs.Len at else joined_numbers (range_of a (Abs.Len at)) (range_of b (Abs.Len other))
joined_kind a b (Abs.Addr at lo hi) (Abs.Addr other low high) =
    if same_region at other then Abs.Addr at (int_min lo low) (int_max hi high) else Abs.None
joined_kind a b j k = joined_numbers (range_of a j) (range_of b k)

-- element by element, as far as both lists go
abbrev pub pairwise : {A : Type 0} → (A → A → A) → List A → List A → List A
pairwise f [] ys = []
pairwise f (x ∷ xs) [] = []
pairwise f (x ∷ xs) (y ∷ ys) = f x y ∷ pairwise f xs ys

-- The join of two states: that of each register's kinds and of each range, and the stack bytes that are set in both.
abbrev pub joined_state : Abstract → Abstract → Abstract
joined_state a b = record {
  registers = pairwise (joined_kind a b) a.registers b.registers;
  key = joined_range a.key b.key;
  value = joined_range a.value b.value;
  set = intersection a.set b.set;
}

-- A state is the least one above two: it is in its ranges, both are within it, and it is within every state that both
-- are within.
pub record IsLeastAbove (a b join : Abstract) : Type 0 where
  pub proper : is_proper join ≡ true
  pub left : is_within a join ≡ true
  pub right : is_within b join ≡ true
  pub least : (above : Abstract) → is_within a above ≡ true → is_within b above ≡ true → is_within join above ≡ true
