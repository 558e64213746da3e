-- Records by their parts.
use Rattle.std.specs.Prelude.{◌≡◌, ℕ, ◌<◌, ◌≤◌, ℤ, List, ◌∷◌, ◌++◌, length, Option, Bool, true, false}
use Rattle.wire_spec.specs.{Varint.varint, Varint.varlong, RecordSpelling.string}
use Rattle.wire_spec.specs.declared.{record.Header.Header, record.Record.Record}

-- the record with these parts
abbrev pub record_with : ℤ → Option (List ℕ) → Option (List ℕ) → List Header → Record
record_with timestamp_delta key value headers = record {
  timestamp_delta = timestamp_delta;
  key = key;
  value = value;
  headers = headers;
}

-- the bytes of a record with these parts, as they are spelled
abbrev pub spelling_with : ℤ → List ℕ → ℤ → List ℕ
spelling_with timestamp_delta parts delta = string (0 ∷ (varlong timestamp_delta ++ (varint delta ++ parts)))

-- Bytes were written at the end, where they are at most so many, or they were not.
abbrev pub WritesWithin : ℕ → Bool → List ℕ → List ℕ → List ℕ → Type 0
WritesWithin most true old new bytes = (new ≡ old ++ bytes) × (length bytes ≤ most)
WritesWithin most false old new bytes = (new ≡ old) × (most < length bytes)
