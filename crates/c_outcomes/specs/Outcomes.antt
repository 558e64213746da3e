-- What an outcome tells C.
use Rattle.std.specs.Prelude.{◌≡◌, ℕ, zero, suc, ◌+◌, ◌≤◌, List, [], ◌++◌, length, drop, slice_get, is_none}
use Rattle.std.specs.Prelude.{if◌then◌else◌, Option, Result, Ok, Err, ok_or}
use denote.Ref.{Bor}
use Rattle.wire_spec.specs.declared.record.Header.{Header}
use Rattle.machine_spec.specs.{declared.outcome.Outcome.Outcome, declared.outcome.Emission.Emission, Machine.bytes_of}
use Rattle.machine_spec.specs.declared.outcome.Outcome.TheVariants.{Kept, Rejected}
use Rattle.c_outcomes.specs.declared.numbers.TheConstants.{RANGE, ROOM}
use Rattle.c_outcomes.specs.declared.{emissions.EmissionTold.EmissionTold, headers.HeaderTold.HeaderTold}

-- the reject code, 0 where the record is kept
abbrev pub code_of : Outcome → ℕ
code_of (Kept emissions) = 0
code_of (Rejected code) = code

-- the emissions; a rejected record has none
abbrev pub emissions_of : Outcome → List Emission
emissions_of (Kept emissions) = emissions
emissions_of (Rejected code) = []

-- the length of a part in bytes; 0 for null
abbrev pub length_of : Option (List ℕ) → ℕ
length_of part = length (bytes_of part)

-- 1 for a null key plus 2 for a null value
abbrev pub nulls_of : Option (List ℕ) → Option (List ℕ) → ℕ
nulls_of key value = (if is_none key then 1 else 0) + (if is_none value then 2 else 0)

-- what is reported of an emission: its output partition, the lengths of its key and value, which of them are null, and
-- how many headers it has
abbrev pub description_of : Emission → EmissionTold
description_of emission = record {
  output = emission.out;
  key_length = length_of emission.key;
  value_length = length_of emission.value;
  nulls = nulls_of emission.key emission.value;
  header_count = length emission.headers;
}

-- ---- what is found by its number

-- a value behind a reference that was found, or why there is none
abbrev pub found : {A : Type 0} → Result (Bor A) ℕ → Result A ℕ
found (Ok value) = Ok value.now
found (Err fault) = Err fault

-- an item of a list; RANGE where there is none with this number
abbrev pub item_at : {A : Type 0} → List A → ℕ → Result A ℕ
item_at items number = ok_or (slice_get items number) RANGE

-- an emission of an outcome that was found, by its number
abbrev pub emission_at : Result Outcome ℕ → ℕ → Result Emission ℕ
emission_at (Err fault) number = Err fault
emission_at (Ok outcome) number = item_at (emissions_of outcome) number

-- a header of an emission that was found, by its number
abbrev pub header_at : Result Emission ℕ → ℕ → Result Header ℕ
header_at (Err fault) at = Err fault
header_at (Ok emission) at = item_at emission.headers at

-- the bytes of a part of what was found
abbrev pub part_at : {A : Type 0} → (A → List ℕ) → Result A ℕ → Result (List ℕ) ℕ
part_at part (Err fault) = Err fault
part_at part (Ok value) = Ok (part value)

-- ---- what is told

-- what is reported of a header: the lengths of its key and value, and whether the value is null
abbrev pub header_told : Header → HeaderTold
header_told header = record {
  key_length = length header.key;
  value_length = length_of header.value;
  nulls = if is_none header.value then 2 else 0;
}

-- what is told of something that was found; else the number says why nothing was
abbrev pub TellsOf : {A B : Type 0} → (A → B) → Result A ℕ → B → ℕ → Type 0
TellsOf told_of (Err fault) told number = number ≡ fault
TellsOf told_of (Ok value) told number = (number ≡ 0) × (told ≡ told_of value)

-- bytes at the front of a buffer, and the rest of it as it was; or none of it changed, where it is too short
abbrev pub Copies : List ℕ → List ℕ → List ℕ → ℕ → Type 0
Copies bytes before after zero = after ≡ bytes ++ drop (length bytes) before
Copies bytes before after (suc number) =
    (after ≡ before) × (suc number ≡ ROOM) × (suc (length before) ≤ length bytes)

-- The same of bytes that were found; else the number says why none were, and the buffer is as it was.
abbrev pub CopiesFound : Result (List ℕ) ℕ → List ℕ → List ℕ → ℕ → Type 0
CopiesFound (Err fault) before after number = (after ≡ before) × (number ≡ fault)
CopiesFound (Ok bytes) before after number = Copies bytes before after number
