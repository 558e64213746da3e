-- Reading an image slot after slot, as a loop does, and that what is read is the image's code.
use Rattle.std.proofs.Common.{◌≡◌, ◌≢◌, ℕ, zero, suc, ◌+◌, ◌-◌, ◌<◌, ◌≤◌, true, cond, eqb, List, [], ◌∷◌, ◌++◌, length}
use Rattle.std.proofs.Common.{map, Option, Some, None, Result, Ok, Err, refl, sym, ap, ⊎_elim, subst, ◌==◌}
use Rattle.std.proofs.Common.{if◌then◌else◌, ◌∙◌, append_assoc, length-append, arith, slice_get, option_and_then, IfOk}
use Rattle.std.proofs.lemmas.Bool.{lt-ltb, le-ltb, eq-eqb, ne_eqb, cases_eq, cond_both}
use Rattle.std.proofs.{lemmas.List.append-nil, lemmas.Option.same_Some, lemmas.Option.slice_get_past}
use Rattle.machine_spec.specs.declared.{instruction.Instruction.Instruction, instruction.Placed.Placed}
use Rattle.machine_spec.specs.declared.{instruction.IsaFault.IsaFault, instruction.Instruction.TheVariants.Wide}
use Rattle.machine_spec.specs.declared.instruction.IsaFault.TheVariants as fault
use Rattle.machine_spec.specs.Image.{slot_count, first_slots_from, first_slots, has_size, read_slot, read_slots}
use Rattle.machine_spec.specs.Image.{then_placed, read_image, form_at, if_read, slots_of, number_from, number_at}
use Rattle.machine_spec.specs.Image.{IsCodeOf}
use Rattle.wire_spec.specs.Memory.{AnswersAs}
use Rattle.bpf_isa.specs.Code.{AreBytes, IsTable, IsKept}
use Rattle.bpf_isa.proofs.{Cases.on_choice, Bytes.next_slot, Bytes.form_read}

abbrev Reading : Type 0
Reading = Result (List Placed) IsaFault

-- ---- the loop

-- what was read before, and what is still read
abbrev pub with_front : List Placed → Reading → Reading
with_front front (Ok code) = Ok (front ++ code)
with_front front (Err e) = Err e

-- what is still read from a slot on, after some instructions
abbrev pub rest_from : List ℕ → ℕ → ℕ → Reading
rest_from image steps slot = read_slots image (first_slots_from image steps slot)

regroup : (front : List Placed) (p : Placed) (r : Reading) →
    with_front front (then_placed p.slot (Ok p.instruction) r) ≡ with_front (front ++ p ∷ []) r
regroup front p (Ok code) = ap Ok (simp append_assoc)
regroup front p (Err e) = refl

pub goes_on : (image : List ℕ) (front : List Placed) (slot : ℕ) (i : Instruction) (total : Reading) →
    length front ≤ slot → slot < slot_count image → read_slot image slot ≡ Ok i
    → with_front front (rest_from image (slot_count image - length front) slot) ≡ total
    → with_front (front ++ record { slot = slot; instruction = i } ∷ [])
    (rest_from image (slot_count image - (length front + 1)) (slot + slots_of i)) ≡ total
goes_on image front slot i total few lt read so_far =
    let p : Placed = record { slot = slot; instruction = i } in
    let left = slot_count image - (length front + 1) in
    let k : slot_count image - length front ≡ suc left = omega arith in
    let opened : rest_from image (slot_count image - length front) slot
    ≡ then_placed slot (Ok i) (rest_from image left (slot + slots_of i)) =
    rw (k, lt-ltb slot (slot_count image) lt, next_slot image slot i read, read) in
    sym (ap (with_front front) opened ∙ regroup front p (rest_from image left (slot + slots_of i))) ∙ so_far

pub ends : (image : List ℕ) (front : List Placed) (slot : ℕ) (e : IsaFault) (total : Reading) → length front ≤ slot →
    slot < slot_count image → read_slot image slot ≡ Err e →
    with_front front (rest_from image (slot_count image - length front) slot) ≡ total → total ≡ Err e
ends image front slot e total few lt read so_far =
    let left = slot_count image - (length front + 1) in
    let k : slot_count image - length front ≡ suc left = omega arith in
    rw (← so_far, k, lt-ltb slot (slot_count image) lt, read)

closed : (image : List ℕ) (steps slot : ℕ) → slot_count image ≤ slot → rest_from image steps slot ≡ Ok []
closed image zero slot le = refl
closed image (suc steps) slot le = rw (le-ltb slot (slot_count image) le) refl

pub is_done : (image : List ℕ) (front : List Placed) (slot steps : ℕ) (total : Reading) → slot_count image ≤ slot →
    with_front front (rest_from image steps slot) ≡ total → total ≡ Ok front
is_done image front slot steps total le so_far = rw (← so_far, closed image steps slot le, append-nil front)

-- ---- the table

number-push : (code : List Placed) (p : Placed) (k slot : ℕ) → p.slot ≢ slot →
    number_from k (code ++ p ∷ []) slot ≡ number_from k code slot
number-push [] p k slot other = rw (ne_eqb p.slot slot other) refl
number-push (q ∷ code) p k slot other = ap (cond (eqb q.slot slot) (Some k)) (number-push code p (k + 1) slot other)

number-push_here : (code : List Placed) (p : Placed) (k : ℕ) → number_from k code p.slot ≡ None →
    number_from k (code ++ p ∷ []) p.slot ≡ Some (k + length code)
number-push_here [] p k none = rw (eq-eqb p.slot p.slot refl) (ap Some (omega arith))
number-push_here (q ∷ code) p k none =
    grind (arith, cond_both, number-push_here code p (k + 1))

get_push_other : (xs : List (Option ℕ)) (x : Option ℕ) (slot : ℕ) → length xs ≢ slot →
    slice_get (xs ++ x ∷ []) slot ≡ slice_get xs slot
get_push_other [] x zero other = absurd (other refl)
get_push_other (y ∷ xs) x (suc slot) other = get_push_other xs x slot (λ e. other (ap suc e))
get_push_other _ x _ other = refl

get_push_here : (xs : List (Option ℕ)) (x : Option ℕ) → slice_get (xs ++ x ∷ []) (length xs) ≡ Some x
get_push_here [] x = refl
get_push_here (y ∷ xs) x = get_push_here xs x

abbrev flat : Option (Option ℕ) → Option ℕ
flat o = option_and_then (λ number. number) o

no_entry : (code : List Placed) (numbers : List (Option ℕ)) → IsTable code numbers →
    number_at code (length numbers) ≡ None
no_entry code numbers table = sym (table.entries (length numbers))
    ∙ ap flat (slice_get_past numbers (length numbers) (omega arith))

-- one more entry
table_with : (code others : List Placed) (numbers : List (Option ℕ)) (x : Option ℕ) → IsTable code numbers →
    x ≡ number_at others (length numbers) →
    ((slot : ℕ) → length numbers ≢ slot → number_at others slot ≡ number_at code slot) →
    IsTable others (numbers ++ x ∷ [])
table_with code others numbers x table here there =
    record {
      entries = λ slot. ⊎_elim
          (λ same. rw (← same) (ap flat (get_push_here numbers x) ∙ here))
          (λ other. ap flat (get_push_other numbers x slot other) ∙ table.entries slot ∙ sym (there slot other))
          (cases_eq (length numbers) slot);
    }

table_pushed : (code : List Placed) (numbers : List (Option ℕ)) (i : Instruction) → IsTable code numbers →
    IsTable (code ++ record { slot = length numbers; instruction = i } ∷ []) (numbers ++ Some (length code) ∷ [])
table_pushed code numbers i table =
    let p : Placed = record { slot = length numbers; instruction = i } in
    table_with code (code ++ p ∷ []) numbers (Some (length code)) table
    (sym (number-push_here code p 0 (no_entry code numbers table) ∙ ap Some (omega arith)))
    (number-push code p 0)

-- no instruction begins at the next slot
pub table_skip : (code : List Placed) (numbers : List (Option ℕ)) → IsTable code numbers →
    IsTable code (numbers ++ None ∷ [])
table_skip code numbers table =
    table_with code code numbers None table (sym (no_entry code numbers table)) (λ _ _. refl)

-- the entries of one instruction after those of the ones before it
abbrev pub entered : List (Option ℕ) → ℕ → ℕ → List (Option ℕ)
entered numbers n slots = (numbers ++ Some n ∷ []) ++ (if slots == 2 then None ∷ [] else [])

pub table_enter : (code : List Placed) (numbers : List (Option ℕ)) (slot n : ℕ) (i : Instruction) →
    IsTable code numbers → slot ≡ length numbers → n ≡ length code
    → IsTable (code ++ record { slot = slot; instruction = i } ∷ []) (entered numbers n (slots_of i))
table_enter code numbers slot n i table e d =
    let placed = code ++ record { slot = slot; instruction = i } ∷ [] in
    let pushed : IsTable placed (numbers ++ Some n ∷ []) = rw (e, d) (table_pushed code numbers i table) in
    cond_both (slots_of i == 2) (None ∷ []) [] (λ rest. IsTable placed ((numbers ++ Some n ∷ []) ++ rest))
    (λ _. table_skip placed (numbers ++ Some n ∷ []) pushed)
    (λ _. subst (IsTable placed) (sym (append-nil (numbers ++ Some n ∷ []))) pushed)

pub entered_length : (numbers : List (Option ℕ)) (n : ℕ) (i : Instruction) →
    length (entered numbers n (slots_of i)) ≡ length numbers + slots_of i
entered_length numbers n (Wide _ _) = omega (arith, length-append {A = Option ℕ})
entered_length numbers n _ = omega (arith, length-append {A = Option ℕ})

-- ---- what is read is the image's code

-- what a slot's instruction before the others is read with
read_first : (slot : ℕ) (code : List Placed) (r : Result Instruction IsaFault) (rs : Reading) →
    then_placed slot r rs ≡ Ok code → (i : Instruction) × (others : List Placed) × (r ≡ Ok i) × (rs ≡ Ok others)
    × (record { slot = slot; instruction = i } ∷ others ≡ code)
read_first slot code (Ok i) (Ok others) e = (i, others, refl, refl, cc)
read_first slot code _ _ e = absurd cc

slots_read : (image : List ℕ) (slots : List ℕ) (code : List Placed) → read_slots image slots ≡ Ok code →
    map (λ placed. placed.slot) code ≡ slots
slots_read image [] [] e = refl
slots_read image [] (p ∷ code) e = absurd cc
slots_read image (slot ∷ slots) code e =
    let c = read_first slot code (read_slot image slot) (read_slots image slots) e in
    rw (← c.4) (ap (λ (l : List ℕ). slot ∷ l) (slots_read image slots c.1 c.3))

forms_read : (image : List ℕ) (slots : List ℕ) (code : List Placed) → read_slots image slots ≡ Ok code →
    (k : ℕ) (placed : Placed) → slice_get code k ≡ Some placed → form_at image placed.slot ≡ Some placed.instruction
forms_read image [] [] e k placed at = absurd cc
forms_read image [] (p ∷ code) e k placed at = absurd cc
forms_read image (slot ∷ slots) code e zero placed at =
    let c = read_first slot code (read_slot image slot) (read_slots image slots) e in
    rw (← same_Some _ placed (rw (← c.4) at at)) (ap if_read c.2)
forms_read image (slot ∷ slots) code e (suc k) placed at =
    let c = read_first slot code (read_slot image slot) (read_slots image slots) e in
    forms_read image slots c.1 c.3 k placed (rw (← c.4) at at)

pub is_code_from : (image : List ℕ) (code : List Placed) → has_size image ≡ true →
    read_slots image (first_slots image) ≡ Ok code → IsCodeOf image code
is_code_from image code size e =
    let firsts = first_slots image in
    record { size = size; slots = slots_read image firsts code e; forms = forms_read image firsts code e }

slots_again : (image : List ℕ) (code : List Placed) →
    ((k : ℕ) (placed : Placed) → slice_get code k ≡ Some placed → form_at image placed.slot ≡ Some placed.instruction) →
    read_slots image (map (λ placed. placed.slot) code) ≡ Ok code
slots_again image [] forms = refl
slots_again image (p ∷ code) forms =
    rw (form_read image p.slot p.instruction (forms 0 p refl), slots_again image code (λ k. forms (suc k))) refl

-- the code of an image is what it reads as
pub code_read : (image : List ℕ) (code : List Placed) → IsCodeOf image code → read_image image ≡ Ok code
unfolding read_image
code_read image code is = rw (is.size, ← is.slots) (slots_again image code is.forms)

pub one_code : (image : List ℕ) (code other : List Placed) → IsCodeOf image code → IsCodeOf image other → code ≡ other
one_code image code other is other_is = cc (code_read image code is, code_read image other other_is)

-- ---- the loop's ends

front_none : (r : Reading) → with_front [] r ≡ r
front_none (Ok code) = refl
front_none (Err e) = refl

pub starts : (image : List ℕ) → with_front [] (rest_from image (slot_count image - 0) 0)
    ≡ read_slots image (first_slots image)
unfolding first_slots
starts image =
    let all : slot_count image - 0 ≡ slot_count image = omega arith in
    rw all (front_none (rest_from image (slot_count image) 0))

pub table_none : IsTable [] []
table_none = record { entries = λ slot. refl }

pub kept : (image : List ℕ) (code : List Placed) (numbers : List (Option ℕ)) → AreBytes image → has_size image ≡ true →
    read_slots image (first_slots image) ≡ Ok code → IsTable code numbers → IsKept code numbers
kept image code numbers bytes size read table =
    let is_code = is_code_from image code size read in
    record { image = record { image = image; bytes = bytes; is_code = is_code }; table = table }

pub if_ok_code : (image : List ℕ) (r : Reading) → has_size image ≡ true →
    AnswersAs fault.Memory (λ (code : List Placed). code) r (read_slots image (first_slots image)) →
    IfOk r (λ code. IsCodeOf image code)
if_ok_code image (Ok code) size read = is_code_from image code size read
if_ok_code image (Err e) size read = tt

pub read_code : (image : List ℕ) (code : List Placed) → read_image image ≡ Ok code → IsCodeOf image code
unfolding read_image
read_code image code e =
    on_choice (has_size image) (read_slots image (first_slots image)) (Err fault.Size) (Ok code)
    (IsCodeOf image code) e
    (λ size e. is_code_from image code size e)
    (λ _ e. absurd cc)
