-- Where a register that may hold nothing was lost: two edges met that propagate different kinds of it, or a call left
-- nothing in it.
use Rattle.std.specs.Prelude.{ℕ, zero, suc, ◌+◌, Bool, true, false, ◌==◌, ◌&&◌, ◌||◌, not, if◌then◌else◌, List, length}
use Rattle.std.specs.Prelude.{slice_get, Option, Some, None, option_map, is_some, is_none, unwrap_or}
use Rattle.std.specs.Option.{option_or}
use Rattle.machine_spec.specs.{declared.helper.Table.Table, declared.instruction.Placed.Placed, Image.helpers_of}
use Rattle.machine_spec.specs.Image.{target_of}
use Rattle.verifier_spec.specs.declared.{state.Abs.Abs, state.Abstract.Abstract}
use Rattle.verifier_spec.specs.Kinds.{kind_at, is_unknown, is_number_kind, same_region}
use Rattle.verifier_spec.specs.{Checks.failed_check, Checks.jump_of, Transfer.falls_to, Transfer.jumps_to}
use Rattle.verifier_spec.specs.{Annotation.Claims, Annotation.claim_at}
use Rattle.explain.specs.{declared.hint.Hint.Hint, declared.hint.Edge.Edge, declared.meeting.Loss.Loss}
use Rattle.explain.specs.{declared.reason.Reason.Reason, Reasons.first_below}

-- ---- the kind that an edge propagates

-- There is a number, and it is j.
abbrev pub is_number_of : Option ℕ → ℕ → Bool
is_number_of (Some k) j = k == j
is_number_of None j = false

-- the kind of a register along an edge that is there
abbrev pub kind_along : Bool → ℕ → Option Abstract → Option Abs
kind_along leads r edge = if leads then option_map (λ s. kind_at s r) edge else None

-- the kind along the edges of instruction number k, where they lead to instruction number j
abbrev pub kind_from : List Placed → ℕ → ℕ → ℕ → Placed → Abstract → Option Abs
kind_from code r j k placed s =
    option_or
    (kind_along (k + 1 == j) r (falls_to placed.instruction s))
    (kind_along (is_number_of (target_of code placed.slot (jump_of placed.instruction)) j) r
    (jumps_to placed.instruction s))

-- an instruction that is not reached or fails a check propagates nothing
abbrev pub kind_passed : Table → List Placed → ℕ → ℕ → ℕ → Option Placed → Option Abstract → Option Abs
kind_passed table code r j k (Some placed) (Some s) =
    if is_none (failed_check (helpers_of table) placed.instruction s) then kind_from code r j k placed s else None
kind_passed table code r j k _ _ = None

-- ---- two kinds that nothing is known of together

-- Two kinds are addresses of the same region.
abbrev pub same_address : Abs → Abs → Bool
same_address (Abs.Addr a _ _) (Abs.Addr b _ _) = same_region a b
same_address _ _ = false

-- Two kinds are of one sort: nothing is known of either, both are numbers, or both are addresses of the same region.
abbrev pub same_sort : Abs → Abs → Bool
same_sort a b = (is_unknown a && is_unknown b) || ((is_number_kind a && is_number_kind b) || same_address a b)

-- There is another kind, and it is of another sort than this one.
abbrev pub is_other : Abs → Option Abs → Bool
is_other kind (Some other) = not (same_sort kind other)
is_other kind None = false

-- ---- one instruction

-- the slot of an instruction; 0 where there is none
abbrev pub slot_in : Option Placed → ℕ
slot_in (Some placed) = placed.slot
slot_in None = 0

-- the slot at which instruction number k begins; 0 where there is no such instruction
abbrev pub slot_of : List Placed → ℕ → ℕ
slot_of code k = slot_in (slice_get code k)

-- an edge from instruction number k that propagates a kind
abbrev pub edge_from : List Placed → ℕ → Abs → Edge
edge_from code k kind = record { kind = kind; slot = slot_of code k }

-- nothing is known of a register before an instruction
abbrev pub is_lost_before : ℕ → Option Abstract → Bool
is_lost_before r (Some s) = is_unknown (kind_at s r)
is_lost_before r None = true

-- what propagates nothing of a register leaves nothing in it, or had nothing of it
abbrev pub lost_in : List Placed → Claims → ℕ → ℕ → Loss
lost_in code claims r k = if is_lost_before r (claim_at claims k) then Loss.Before k else Loss.Here
    (Hint.Called (slot_of code k))

-- where a register was lost, if it was here; else what is said of the instruction before which it is unknown too
abbrev pub after_step : (ℕ → Option Hint) → Loss → Option Hint
after_step before (Loss.Here hint) = Some hint
after_step before (Loss.Before k) = before k

-- of a program, by its helper table, its code and what is known before each instruction, and of a register
module _ (table : Table) (code : List Placed) (claims : Claims) (r : ℕ) where
  -- what instruction number k propagates of the register to instruction number j
  unfoldable pub arrival : ℕ → ℕ → Option Abs
  arrival j k = kind_passed table code r j k (slice_get code k) (claim_at claims k)

  abbrev pub arrives : ℕ → ℕ → Bool
  arrives j k = is_some (arrival j k)

  abbrev pub differs : ℕ → Abs → ℕ → Bool
  differs j kind k = is_other kind (arrival j k)

  -- one that propagates a kind of another sort than this one, if one is given, else one that propagates anything
  abbrev pub passes : Option Abs → ℕ → ℕ → Bool
  passes None j k = arrives j k
  passes (Some kind) j k = differs j kind k

  abbrev pub met_with : ℕ → ℕ → Abs → Option ℕ → Loss
  met_with j k kind (Some other) =
      Loss.Here (Hint.Met (edge_from code k kind) (edge_from code other (unwrap_or (arrival j other) Abs.None))
      (slot_of code j))
  met_with j k kind None = lost_in code claims r k

  abbrev pub met_from : ℕ → ℕ → Option Abs → Loss
  met_from j k (Some kind) = met_with j k kind (first_below j (differs j kind))
  met_from j k None = Loss.Here Hint.NeverSet

  abbrev pub met_first : ℕ → Option ℕ → Loss
  met_first j (Some k) = met_from j k (arrival j k)
  met_first j None = Loss.Here Hint.NeverSet

  -- At an instruction before which nothing is known of the register: the first edges to it that propagate kinds of
  -- different sorts; else the instruction that the first edge to it begins at, which is a call, or before which nothing
  -- is known of it either.
  unfoldable pub step : ℕ → Loss
  step j = met_first j (first_below j (arrives j))

  -- where it is lost, from one instruction back to another, as far back as a number of them
  unfoldable pub lost_within : ℕ → ℕ → Option Hint
  lost_within zero j = None
  lost_within (suc n) j = after_step (lost_within n) (step j)

-- ---- the hint

-- the register that a refusal finds nothing in
abbrev pub lost_register : Option Reason → Option ℕ
lost_register (Some (Reason.Unknown r)) = Some r
lost_register _ = None

-- where a register was lost that is unknown before instruction number pc; none where there is no such register
abbrev pub lost_hint_of : Table → List Placed → Claims → ℕ → Option ℕ → Option Hint
lost_hint_of table code claims pc (Some r) = lost_within table code claims r (length code) pc
lost_hint_of table code claims pc None = None

-- of a refusal at an instruction for what is given
abbrev pub lost_hint : Table → List Placed → Claims → ℕ → Option Reason → Option Hint
lost_hint table code claims pc reason = lost_hint_of table code claims pc (lost_register reason)
