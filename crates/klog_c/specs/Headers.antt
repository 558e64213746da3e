-- Headers that C collects for records. A number is 0 where the header was added.
use Rattle.std.specs.Prelude.{◌≡◌, ◌≢◌, ℕ, zero, suc, ◌≤◌, Bool, not, ◌&&◌, nat_le, if◌then◌else◌, List, [], ◌∷◌, ◌++◌}
use Rattle.std.specs.Prelude.{length}
use Rattle.std.specs.{List.AllByRecursion, Str.is_utf8}
use Rattle.wire_spec.specs.{declared.record.Header.Header, RecordSpelling.HeaderFits}
use Rattle.wire_spec.specs.declared.limits.TheConstants.{MAX_HEADERS, MAX_HEADER_KEY, MAX_HEADER_VALUE}
use Rattle.klog_c.specs.declared.faults.TheConstants.{MEMORY, LENGTH, TEXT}
use Rattle.c_outcomes.specs.declared.numbers.TheConstants.{RANGE}
use Rattle.klog_c.specs.RecordParts.{part_of, is_part_fitting}

-- headers that a record may have
abbrev pub AreHeaders : List Header → Type 0
AreHeaders headers = (length headers ≤ MAX_HEADERS) × AllByRecursion HeaderFits headers

-- a header with this key, and with null or these bytes as its value
abbrev pub header_of : List ℕ → Bool → List ℕ → Header
header_of key is_null value = record { key = key; value = part_of is_null value }

-- Neither the key nor the value of a header is too long; a null value never is.
abbrev pub are_parts_short : List ℕ → Bool → List ℕ → Bool
are_parts_short key is_null value =
    nat_le (length key) MAX_HEADER_KEY && is_part_fitting is_null value MAX_HEADER_VALUE

-- the first fault of a header after this number of them, or 0
abbrev pub header_fault : ℕ → List ℕ → Bool → List ℕ → ℕ
header_fault count key is_null value =
    if not (are_parts_short key is_null value) then LENGTH else if not (is_utf8 key) then TEXT
    else if nat_le MAX_HEADERS count then RANGE else 0

-- the header is one more at the end; or nothing has changed
abbrev pub Adds : List Header → List ℕ → Bool → List ℕ → List Header → ℕ → Type 0
Adds held key is_null value after zero = (after ≡ held ++ header_of key is_null value ∷ [])
    × (header_fault (length held) key is_null value ≡ 0)
Adds held key is_null value after (suc number) = (after ≡ held)
    × (suc number ≢ MEMORY → suc number ≡ header_fault (length held) key is_null value)
