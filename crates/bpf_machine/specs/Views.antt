-- The parts of the plain machine as the definitions of the machine name them.
use Rattle.std.specs.Prelude.{◌≡◌, ℕ, ◌<◌, ◌^◌, Bool, false, List, Option, Some, None, slice_get, option_and_then}
use Rattle.std.specs.Prelude.{unwrap_or, unsigned_abs}
use Rattle.machine_spec.specs.{Image.is_first_slot, Machine.Access}
use Rattle.machine_spec.specs.Values.{Value, Nothing, Number, Address}
use Rattle.bpf_machine.specs.declared.{tagged.Tagged.Tagged, memory.Span.Span}
use Rattle.bpf_machine.specs.declared.tagged.Tagged.TheVariants as tagged

-- a tagged value as the definitions have it
abbrev pub value_of : Tagged → Value
value_of tagged.Nothing = Nothing
value_of (tagged.Number n) = Number n
value_of (tagged.Address region at) = Address region at

-- the same where there is one; else nothing is held
abbrev pub value_in : Option Tagged → Value
value_in (Some value) = value_of value
value_in None = Nothing

-- the registers in a list; those past its end hold nothing
abbrev pub registers_of : List Tagged → ℕ → Value
registers_of registers r = value_in (slice_get registers r)

-- the bytes of the stack in a list; those past its end are not set
abbrev pub stack_of : List (Option ℕ) → ℕ → Option ℕ
stack_of bytes place = option_and_then (λ byte. byte) (slice_get bytes place)

-- the bytes of a span, if there is one
abbrev pub access_in : Option Span → Option Access
access_in (Some span) = Some (record {
  direction = span.direction;
  region = span.region;
  start = span.start;
  size = span.size;
})
access_in None = None

-- a slot is marked in a list; those past its end are not
abbrev pub is_marked : List Bool → ℕ → Bool
is_marked marks slot = unwrap_or (slice_get marks slot) false

-- the marked slots are those at which an instruction of an image begins
pub record AreFirstSlots (image : List ℕ) (marks : List Bool) : Type 0 where
  pub each : (slot : ℕ) → is_marked marks slot ≡ is_first_slot image slot

-- the offset of an address is so small that its sum with a displacement fits in 128 bits
abbrev pub IsNear : Value → Type 0
IsNear Nothing = Unit {0}
IsNear (Number _) = Unit {0}
IsNear (Address _ at) = unsigned_abs at < 2 ^ 126
