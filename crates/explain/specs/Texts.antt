-- The text of a program's instructions, each with what is known before it.
use Rattle.std.specs.Prelude.{ℕ, zero, suc, ◌+◌, ◌-◌, ℤ, Bool, ◌==◌, ◌&&◌, not, nat_lt, if◌then◌else◌, List, [], ◌∷◌}
use Rattle.std.specs.Prelude.{◌++◌, slice_get, Option, Some, None, codes, decimal}
use Rattle.std.specs.Ordering.{int_eq}
use Rattle.wire_spec.specs.declared.limits.TheConstants.{MAX_KEY, MAX_VALUE}
use Rattle.machine_spec.specs.declared.{limits.TheConstants.STACK_SIZE, instruction.Region.Region}
use Rattle.machine_spec.specs.declared.instruction.Placed.{Placed}
use Rattle.verifier_spec.specs.declared.{state.Abs.Abs, state.StackSet.StackSet, state.Abstract.Abstract}
use Rattle.verifier_spec.specs.{Kinds.kind_at, Kinds.is_unknown, Checks.are_set, Annotation.Claims, Annotation.claim_at}
use Rattle.bpf_asm.specs.{Numbers.distance_text, Writing.line_text}

-- the texts of the numbers below one, in order
unfoldable pub texts_below : ℕ → (ℕ → List ℕ) → List ℕ
texts_below zero text = []
texts_below (suc n) text = texts_below n text ++ text n

-- ---- registers

-- the word for a region
abbrev pub region_word : Region → List ℕ
region_word Region.Stack = codes "stack"
region_word Region.Key = codes "key"
region_word Region.Value = codes "value"

-- one number, or the ends of an interval
abbrev pub range_text : ℕ → ℕ → List ℕ
range_text low high = if low == high then decimal low else (decimal low ++ (codes " to " ++ decimal high))

-- one offset, or the ends of an interval, each with its sign
abbrev pub offsets_text : ℤ → ℤ → List ℕ
offsets_text low high = if int_eq low high then distance_text low else
    (distance_text low ++ (codes " to " ++ distance_text high))

-- `0 to 3`, `length of value`, `value+0`
abbrev pub kind_text : Abs → List ℕ
kind_text Abs.None = codes "nothing known"
kind_text (Abs.Num low high) = range_text low high
kind_text (Abs.Len region) = codes "length of " ++ region_word region
kind_text (Abs.Addr region low high) = region_word region ++ offsets_text low high

-- a register of which nothing is known is left out
abbrev pub register_text : ℕ → Abs → List ℕ
register_text r kind = if is_unknown kind then [] else codes "  r" ++ (decimal r ++ (codes ": " ++ kind_text kind))

-- the line of the registers of which something is known
abbrev pub registers_text : Abstract → List ℕ
registers_text s = texts_below 11 (λ r. register_text r (kind_at s r)) ++ 10 ∷ []

-- ---- lengths and the stack

-- `  value: 1 to 1048576 bytes`, left out where it says no more than at the entry
abbrev pub length_text : Region → ℕ → ℕ → ℕ → List ℕ
length_text region low high limit =
    if (low == 0) && (high == limit) then [] else codes "  "
    ++ (region_word region ++ (codes ": " ++ (range_text low high ++ (codes " bytes" ++ 10 ∷ []))))

-- a place is in a set
abbrev pub is_in : StackSet → ℕ → Bool
is_in set place = are_set set place 1

-- the place before one that is in a set isn't in it, or there is none
abbrev pub begins : StackSet → ℕ → Bool
begins set place = not (nat_lt 0 place && is_in set (place - 1))

-- the place after one that is in a set isn't in it
abbrev pub ends : StackSet → ℕ → Bool
ends set place = not (is_in set (place + 1))

-- `  stack set: 504`, where a place is the first of those that are set one after another; else nothing
abbrev pub beginning_text : StackSet → ℕ → List ℕ
beginning_text set place = if begins set place then codes "  stack set: " ++ decimal place else []

-- ` to 511` and the end of that line, where a place is the last of them; no more than the end where it is the first
-- too; else nothing
abbrev pub end_text : StackSet → ℕ → List ℕ
end_text set place = if ends set place then (if begins set place then 10 ∷ [] else codes " to "
    ++ (decimal place ++ 10 ∷ [])) else []

-- what a place adds to the lines of those that are set; nothing where it is not set
abbrev pub place_text : StackSet → ℕ → List ℕ
place_text set place = if is_in set place then beginning_text set place ++ end_text set place else []

-- the lines of the stack places that are set, one line for those that are set one after another
abbrev pub stack_text : StackSet → List ℕ
stack_text set = texts_below STACK_SIZE (place_text set)

-- ---- instructions

-- the lines of a state: its registers, the lengths of key and value, and the stack places that are set
abbrev pub state_text : Abstract → List ℕ
state_text s = registers_text s
    ++ (length_text Region.Key s.key.min s.key.max MAX_KEY
    ++ (length_text Region.Value s.value.min s.value.max MAX_VALUE ++ stack_text s.set))

-- what is known before an instruction, which may be unreached
abbrev pub claim_text : Option Abstract → List ℕ
claim_text (Some s) = state_text s
claim_text None = codes "  unreached" ++ 10 ∷ []

-- `3 slot 4: exit`
abbrev pub instruction_text : ℕ → Placed → List ℕ
instruction_text k placed = decimal k
    ++ (codes " slot " ++ (decimal placed.slot ++ (codes ": " ++ line_text placed.instruction)))

-- the lines of an instruction and of what is known before it; none where there is no instruction
abbrev pub lines_of : ℕ → Option Placed → Option Abstract → List ℕ
lines_of k (Some placed) known = instruction_text k placed ++ claim_text known
lines_of k None known = []

-- the lines of instruction number k
abbrev pub lines_at : List Placed → Claims → ℕ → List ℕ
lines_at code claims k = lines_of k (slice_get code k) (claim_at claims k)
