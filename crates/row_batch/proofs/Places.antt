-- Rows from a place on.
use Rattle.std.proofs.Common.{◌≡◌, ℕ, suc, zero, ◌+◌, ◌<◌, ◌≤◌, List, [], ◌∷◌, length, take, drop, get_or, Some}
use Rattle.std.proofs.Common.{slice_get, refl, sym, ap, subst, ◌∙◌, length-drop, arith, All}
use Rattle.std.proofs.{lemmas.List.get_or-drop, lemmas.List.length-take-le, lemmas.List.Elements.All-take}
use Rattle.std.proofs.{lemmas.List.Elements.All-drop, lemmas.Option.get_or_from_slice_get}
use Rattle.log_spec.specs.{declared.row.Row.Row, Logs.RowFits}
use Rattle.row_batch.specs.RowBatches.{first_timestamp}

-- these many rows from a place on
abbrev pub part : List Row → ℕ → ℕ → List Row
part rows place most = take most (drop place rows)

take_at : (n k : ℕ) (rows : List Row) (row : Row) → k < n → get_or (take n rows) k row ≡ get_or rows k row
take_at zero k rows row lt = absurd (omega (arith, lt))
take_at (suc n) k [] row lt = refl
take_at (suc n) zero (first ∷ rows) row lt = refl
take_at (suc n) (suc k) (first ∷ rows) row lt = take_at n k rows row (omega (arith, lt))

pub part_fits : (rows : List Row) (place most : ℕ) → All RowFits rows → All RowFits (part rows place most)
part_fits rows place most fit = All-take RowFits most (drop place rows) (All-drop RowFits place rows fit)

pub part_length : (rows : List Row) (place most : ℕ) → place + most ≤ length rows →
    length (part rows place most) ≡ most
part_length rows place most there =
    length-take-le most (drop place rows) (omega (arith, there, length-drop place rows))

pub part_at : (rows : List Row) (place most count : ℕ) (row : Row) → count < most →
    slice_get rows (place + count) ≡ Some row → row ≡ get_or (part rows place most) count row
part_at rows place most count row lt at =
    sym (take_at most count (drop place rows) row lt ∙ (get_or-drop place rows count row
    ∙ get_or_from_slice_get rows (place + count) row row at))

-- the row with a number among rows from a place on, which fit
pub fits_at : (rows : List Row) (place most count : ℕ) (row : Row) → place + most ≤ length rows → count < most →
    slice_get rows (place + count) ≡ Some row → All RowFits (part rows place most) → RowFits row
fits_at rows place most count row there lt at fit =
    let long = part_length rows place most there in
    subst RowFits (sym (part_at rows place most count row lt at)) (fit count row (omega (arith, long, lt)))

first_of : (rows : List Row) (row : Row) → 0 < length rows → row ≡ get_or rows 0 row →
    row.timestamp ≡ first_timestamp rows
first_of [] row some is = absurd (omega (arith, some))
first_of (first ∷ rows) row some is = ap (λ (r : Row). r.timestamp) is

-- the first timestamp of rows from a place on is that of the row there
pub part_first : (rows : List Row) (place most : ℕ) (row : Row) → place + most ≤ length rows → 1 ≤ most →
    slice_get rows place ≡ Some row → row.timestamp ≡ first_timestamp (part rows place most)
part_first rows place most row there some at =
    let z : place + 0 ≡ place = omega arith in
    let long = part_length rows place most there in
    first_of (part rows place most) row (omega (arith, long, some))
    (part_at rows place most 0 row (omega (arith, some)) (ap (slice_get rows) z ∙ at))
