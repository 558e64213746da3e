-- Rows whose parts stay where they are: one more of them.
use Rattle.std.proofs.Common.{◌≡◌, ℕ, zero, suc, ◌+◌, ◌<◌, ◌≤◌, List, [], ◌∷◌, ◌++◌, length, get_or}
use Rattle.std.proofs.Common.{slice_get, Some, take, refl, sym, ap, subst, ◌∙◌, arith}
use Rattle.std.proofs.lemmas.Option.{get_or_from_slice_get}
use Rattle.std.proofs.lemmas.List.{map-append, get_or_append_left, get_or-append-add, length-map, take_more}
use Rattle.wire_spec.specs.declared.record.Record.{Record}
use Rattle.machine_spec.specs.declared.outcome.Emission.{Emission}
use Rattle.log_spec.specs.declared.row.Row.{Row}
use Rattle.helpers.specs.declared.excerpts.Excerpt.{Excerpt}
use Rattle.item_rows.specs.declared.refs.{Slot.Slot, SlotParts.SlotParts}
use Rattle.item_rows.specs.declared.refs.SlotParts.TheVariants as slot_parts
use Rattle.item_rows.specs.RowParts.{no_emission, parts_in, IsWithin}
use Rattle.item_rows.specs.RowRefs.{row_with, row_in, rows_by, AreWithin}

-- parts stay where one more record is made
parts_same : (made more : List Emission) (given : Record) (parts : SlotParts) → IsWithin (length made) parts →
    parts_in (made ++ more) given parts ≡ parts_in made given parts
parts_same made more given (slot_parts.Given excerpt) within = refl
parts_same made more given (slot_parts.Made k) within = get_or_append_left made more no_emission k within

-- ---- the numbers of made records

within_more : (count more : ℕ) (parts : SlotParts) → count ≤ more → IsWithin count parts → IsWithin more parts
within_more count more (slot_parts.Given excerpt) le within = tt
within_more count more (slot_parts.Made k) le within = omega (arith, le, within)

pub within_at : (count : ℕ) (slots : List Slot) (k : ℕ) (slot : Slot) → AreWithin count slots → k < length slots →
    slot ≡ get_or slots k slot → IsWithin count slot.parts
within_at count [] k slot all lt is = absurd (omega arith)
within_at count (first ∷ slots) zero slot all lt is = subst (λ (s : Slot). IsWithin count s.parts) (sym is) all.0
within_at count (first ∷ slots) (suc k) slot all lt is = within_at count slots k slot all.1 (omega arith) is

pub all_within : (count more : ℕ) (slots : List Slot) → count ≤ more → AreWithin count slots → AreWithin more slots
all_within count more [] le all = tt
all_within count more (slot ∷ slots) le all =
    (within_more count more slot.parts le all.0, all_within count more slots le all.1)

-- one slot more, and maybe more made records
pub one_within : (count more : ℕ) (slots : List Slot) (slot : Slot) → count ≤ more → AreWithin count slots →
    IsWithin more slot.parts → AreWithin more (slots ++ slot ∷ [])
one_within count more [] slot le all within = (within, tt)
one_within count more (first ∷ slots) slot le all within =
    (within_more count more first.parts le all.0, one_within count more slots slot le all.1 within)

pub none_made : (count : ℕ) (parts : SlotParts) (excerpt : Excerpt) → parts ≡ slot_parts.Given excerpt →
    IsWithin count parts
none_made count parts excerpt none = subst (IsWithin count) (sym none) tt

pub last_made : (count : ℕ) (parts : SlotParts) → parts ≡ slot_parts.Made count → IsWithin (count + 1) parts
last_made count parts last =
    let lt : count < count + 1 = omega arith in
    subst (IsWithin (count + 1)) (sym last) lt

-- the row of a slot in its list
pub row_at : (made : List Emission) (slots : List Slot) (k : ℕ) (slot : Slot) → k < length slots →
    slot ≡ get_or slots k slot → slice_get (rows_by made slots) k ≡ Some (row_in made slot)
row_at made [] k slot lt is = absurd (omega arith)
row_at made (first ∷ slots) zero slot lt is = ap (λ (s : Slot). Some (row_in made s)) (sym is)
row_at made (first ∷ slots) (suc k) slot lt is = row_at made slots k slot (omega arith) is

-- ---- one row more

rows_same : (made more : List Emission) (slots : List Slot) → AreWithin (length made) slots →
    rows_by (made ++ more) slots ≡ rows_by made slots
rows_same made more [] all = refl
rows_same made more (slot ∷ slots) all =
    ap (λ (e : Emission). row_with slot e ∷ rows_by (made ++ more) slots)
    (parts_same made more slot.given slot.parts all.0)
    ∙ ap (λ (rs : List Row). row_in made slot ∷ rs) (rows_same made more slots all.1)

-- one row more, whose parts the record has
pub given_more : (made : List Emission) (slots : List Slot) (slot : Slot) (given : Record) (parts : SlotParts)
    (row : Emission → Row) → slot.given ≡ given → slot.parts ≡ parts → ((e : Emission) → row_with slot e ≡ row e) →
    rows_by made (slots ++ slot ∷ []) ≡ rows_by made slots ++ row (parts_in made given parts) ∷ []
given_more made slots slot given parts row same are is =
    map-append (row_in made) slots (slot ∷ [])
    ∙ ap (λ (r : Row). rows_by made slots ++ r ∷ [])
    (ap (λ (p : SlotParts). row_with slot (parts_in made slot.given p)) are
    ∙ (ap (λ (g : Record). row_with slot (parts_in made g parts)) same ∙ is (parts_in made given parts)))

-- one row more, of a record that is made
pub made_more : (made : List Emission) (slots : List Slot) (slot : Slot) (emission : Emission) (row : Emission → Row) →
    AreWithin (length made) slots → slot.parts ≡ slot_parts.Made (length made) →
    ((e : Emission) → row_with slot e ≡ row e) →
    rows_by (made ++ emission ∷ []) (slots ++ slot ∷ []) ≡ rows_by made slots ++ row emission ∷ []
made_more made slots slot emission row all last is =
    let both = made ++ emission ∷ [] in
    let at : length made + 0 ≡ length made = omega arith in
    let here : get_or both (length made) no_emission ≡ emission =
    subst (λ (k : ℕ). get_or both k no_emission ≡ emission) at
    (get_or-append-add made (emission ∷ []) 0 no_emission) in
    map-append (row_in both) slots (slot ∷ [])
    ∙ (ap (λ (rs : List Row). rs ++ row_in both slot ∷ []) (rows_same made (emission ∷ []) slots all)
    ∙ ap (λ (r : Row). rows_by made slots ++ r ∷ [])
    (ap (λ (p : SlotParts). row_with slot (parts_in both slot.given p)) last
    ∙ (ap (row_with slot) here ∙ is emission)))

-- ---- the rows of the first slots

-- one slot more, whose row is added at the end
pub one_taken : (made : List Emission) (slots : List Slot) (index : ℕ) (rows more : List Row)
    (slot : Slot) (row : Row) →
    rows ≡ take index (rows_by made slots) → index < length slots → slot ≡ get_or slots index slot →
    row ≡ row_in made slot → more ≡ rows ++ row ∷ [] → more ≡ take (index + 1) (rows_by made slots)
one_taken made slots index rows more slot row are lt is row_is more_is =
    more_is
    ∙ (ap (λ (rs : List Row). rs ++ row ∷ []) are
    ∙ (ap (λ (r : Row). take index (rows_by made slots) ++ r ∷ []) row_is ∙ sym next_row))
  where
    within : index < length (rows_by made slots)
    within = omega (arith, lt, length-map slots (row_in made))

    next_row : take (index + 1) (rows_by made slots) ≡ take index (rows_by made slots) ++ row_in made slot ∷ []
    next_row = take_more (rows_by made slots) index row within
        ∙ ap (λ (r : Row). take index (rows_by made slots) ++ r ∷ [])
        (get_or_from_slice_get (rows_by made slots) index (row_in made slot) row (row_at made slots index slot lt is))
