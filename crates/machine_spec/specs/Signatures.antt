-- The helpers: a row for each says its number, what its arguments must be, and the greatest number that it answers.
use Rattle.std.specs.Prelude.{ℕ, ◌+◌, ◌-◌, ◌^◌, ℤ, pos, List, [], ◌∷◌, Option, find}
use Rattle.std.specs.{Ordering.int_eq}
use Rattle.wire_spec.specs.declared.limits.TheConstants.{MAX_VALUE, MAX_HEADERS, MAX_HEADER_KEY, MAX_HEADER_VALUE}
use Rattle.wire_spec.specs.declared.limits.TheConstants.{TIMESTAMP_END}
use Rattle.machine_spec.specs.declared.{helper.Helper.Helper, helper.Argument.Argument, helper.Signature.Signature}
use Rattle.machine_spec.specs.declared.helper.TheConstants.{HELPERS}
use Rattle.machine_spec.specs.declared.helper.Helper.TheVariants.{LoadValue, LoadKey, EmitRecord, EmitValue, Emit}
use Rattle.machine_spec.specs.declared.helper.Helper.TheVariants.{EmitNull, Offset, Timestamp, Partition}
use Rattle.machine_spec.specs.declared.helper.Helper.TheVariants.{HeaderCount, HeaderKey, HeaderValue, PartLength}
use Rattle.machine_spec.specs.declared.helper.Helper.TheVariants.{LoadPart, Find, Equals, Decimal, Hash, FindHeader}
use Rattle.machine_spec.specs.declared.helper.Helper.TheVariants.{EmitPart, EmitChanged, AddHeader}

-- a row
abbrev pub row : ℤ → List Argument → ℕ → Signature
row number arguments greatest = record { number = number; arguments = arguments; greatest = greatest }

-- One row for each helper: its number, what its arguments must be, and the greatest number that it leaves in r0.
abbrev pub signature_of : Helper → Signature
signature_of LoadValue =
    row (pos 1) (Argument.Room 1 3 ∷ Argument.Number 2 ∷ Argument.Nothing ∷ Argument.Nothing ∷ []) 1
signature_of LoadKey = row (pos 2) (Argument.Room 1 3 ∷ Argument.Number 2 ∷ Argument.Nothing ∷ Argument.Nothing ∷ []) 1
signature_of EmitRecord =
    row (pos 3) (Argument.Number 1 ∷ Argument.Nothing ∷ Argument.Nothing ∷ Argument.Nothing ∷ []) 3
signature_of EmitValue =
    row (pos 4) (Argument.Number 1 ∷ Argument.Bytes 2 3 ∷ Argument.Nothing ∷ Argument.Nothing ∷ []) 3
signature_of Emit = row (pos 5) (Argument.Number 1 ∷ Argument.Bytes 2 3 ∷ Argument.Bytes 4 5 ∷ Argument.Nothing ∷ []) 3
signature_of EmitNull = row (pos 6) (Argument.Number 1 ∷ Argument.Nothing ∷ Argument.Nothing ∷ Argument.Nothing ∷ []) 3
signature_of Offset =
    row (pos 7) (Argument.Nothing ∷ Argument.Nothing ∷ Argument.Nothing ∷ Argument.Nothing ∷ []) (TIMESTAMP_END - 1)
signature_of Timestamp =
    row (pos 8) (Argument.Nothing ∷ Argument.Nothing ∷ Argument.Nothing ∷ Argument.Nothing ∷ []) (TIMESTAMP_END - 1)
signature_of Partition = row (pos 9) (Argument.Nothing ∷ Argument.Nothing ∷ Argument.Nothing ∷ Argument.Nothing ∷ []) 63
signature_of HeaderCount =
    row (pos 10) (Argument.Nothing ∷ Argument.Nothing ∷ Argument.Nothing ∷ Argument.Nothing ∷ []) MAX_HEADERS
signature_of HeaderKey =
    row (pos 11) (Argument.Room 1 3 ∷ Argument.Number 2 ∷ Argument.Nothing ∷ Argument.Nothing ∷ []) (MAX_HEADER_KEY + 1)
signature_of HeaderValue =
    row (pos 12)
    (Argument.Room 1 3 ∷ Argument.Number 2 ∷ Argument.Nothing ∷ Argument.Nothing ∷ []) (MAX_HEADER_VALUE + 2)
signature_of PartLength =
    row (pos 13) (Argument.Number 1 ∷ Argument.Nothing ∷ Argument.Nothing ∷ Argument.Nothing ∷ []) (MAX_VALUE + 2)
signature_of LoadPart =
    row (pos 14) (Argument.Room 1 3 ∷ Argument.Number 2 ∷ Argument.Number 4 ∷ Argument.Nothing ∷ []) 1
signature_of Find =
    row (pos 15) (Argument.Number 1 ∷ Argument.Number 2 ∷ Argument.Bytes 3 4 ∷ Argument.Nothing ∷ []) (MAX_VALUE + 1)
signature_of Equals =
    row (pos 16) (Argument.Number 1 ∷ Argument.Number 2 ∷ Argument.Bytes 3 4 ∷ Argument.Nothing ∷ []) 1
signature_of Decimal =
    row (pos 17) (Argument.Number 1 ∷ Argument.Number 2 ∷ Argument.Number 3 ∷ Argument.Nothing ∷ []) (10 ^ 18)
signature_of Hash =
    row (pos 18) (Argument.Number 1 ∷ Argument.Nothing ∷ Argument.Nothing ∷ Argument.Nothing ∷ []) (2 ^ 31 - 1)
signature_of FindHeader =
    row (pos 19) (Argument.Bytes 1 2 ∷ Argument.Nothing ∷ Argument.Nothing ∷ Argument.Nothing ∷ []) MAX_HEADERS
signature_of EmitPart =
    row (pos 20) (Argument.Number 1 ∷ Argument.Number 2 ∷ Argument.Number 3 ∷ Argument.Number 4 ∷ []) 4
signature_of EmitChanged =
    row (pos 21) (Argument.Number 1 ∷ Argument.Number 2 ∷ Argument.Number 3 ∷ Argument.Bytes 4 5 ∷ []) 5
signature_of AddHeader =
    row (pos 22) (Argument.Bytes 1 2 ∷ Argument.Bytes 3 4 ∷ Argument.Nothing ∷ Argument.Nothing ∷ []) 3

-- the helper of a table with a number
unfoldable pub helper_among : List Helper → ℤ → Option Helper
helper_among helpers number = find (λ helper. int_eq (signature_of helper).number number) helpers

-- the helper with a number; it is the same in every table that has one with this number
abbrev pub helper_of : ℤ → Option Helper
helper_of number = helper_among HELPERS number
