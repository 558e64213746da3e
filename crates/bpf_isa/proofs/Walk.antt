-- Code and image, from the first slot to the last.
use Rattle.std.proofs.Common.{◌≡◌, ℕ, zero, suc, ◌+◌, ◌*◌, ◌<◌, ◌≤◌, ltb, List, [], ◌∷◌, length, map, drop, Option}
use Rattle.std.proofs.Common.{Some, None, Ok, refl, sym, ap, ◌∙◌, arith, slice_get, IfSome}
use Rattle.std.proofs.lemmas.Bool.{ltb-true, ltb-false}
use Rattle.std.proofs.{lemmas.List.drop_all, lemmas.List.Concat.flat_map-cons}
use Rattle.machine_spec.specs.declared.{instruction.Placed.Placed, limits.TheConstants.MAX_SLOTS}
use Rattle.machine_spec.specs.Image.{slot_count, slot_after, first_slots_from, first_slots, read_slot, form_at}
use Rattle.machine_spec.specs.Image.{slots_of, number_at, IsCodeOf}
use Rattle.machine_spec.proofs.Slots.{slot_in_image, number_of_placed, number_below}
use Rattle.bpf_isa.specs.Code.{AreBytes}
use Rattle.bpf_isa.specs.Spelling.{spelling, image_bytes, HasRegisters}
use Rattle.bpf_isa.proofs.{Cases.on_choice, Slots.IsSized, Slots.sized}
use Rattle.bpf_isa.proofs.Bytes.{from_slots, slot_spelled, slot_registers, form_read, next_slot, inside, some_slots}

abbrev firsts_of : List Placed → List ℕ
firsts_of code = map (λ placed. placed.slot) code

-- at each slot the instruction that is placed there
abbrev AreForms : List ℕ → List Placed → Type 0
AreForms image code = (k : ℕ) (placed : Placed) → slice_get code k ≡ Some placed →
    form_at image placed.slot ≡ Some placed.instruction

-- ---- the bytes of an image are its code's spelling

-- the bytes from a slot on, where the instructions from there on are known
abbrev Goes : List ℕ → ℕ → List Placed → Type 0
Goes image slot code = drop (8 * slot) image ≡ image_bytes code

ended : (image : List ℕ) (slot : ℕ) → IsSized image → slot_count image ≤ slot → Goes image slot []
ended image slot size past = drop_all (8 * slot) image (let whole = size.whole in omega arith)

goes : (image : List ℕ) → AreBytes image → IsSized image → (steps slot : ℕ) (code : List Placed) →
    slot_count image ≤ slot + steps → firsts_of code ≡ first_slots_from image steps slot → AreForms image code →
    Goes image slot code
goes image fits size zero slot [] enough e forms = ended image slot size (omega arith)
goes image fits size zero slot (p ∷ code) enough e forms = absurd cc
goes image fits size (suc steps) slot [] enough e forms =
    on_choice (ltb slot (slot_count image)) (slot ∷ first_slots_from image steps (slot_after image slot)) [] []
    (Goes image slot []) (sym e)
    (λ _ e. absurd cc)
    (λ past _. ended image slot size (ltb-false _ _ past))
goes image fits size (suc steps) slot (p ∷ code) enough e forms =
    on_choice (ltb slot (slot_count image)) (slot ∷ first_slots_from image steps (slot_after image slot)) []
    (firsts_of (p ∷ code)) (Goes image slot (p ∷ code)) (sym e)
    (λ within e.
    let here : slot ≡ p.slot = cc in
    let later : first_slots_from image steps (slot_after image slot) ≡ firsts_of code = cc in
    let read : read_slot image slot ≡ Ok p.instruction =
    form_read image slot p.instruction (ap (form_at image) here ∙ forms 0 p refl) in
    let next = next_slot image slot p.instruction read in
    let some = some_slots p.instruction in
    let rest = goes image fits size steps (slot + slots_of p.instruction) code (omega arith)
    (sym later ∙ ap (first_slots_from image steps) next) (λ k. forms (suc k)) in
    let whole = size.whole in
    let all = inside image slot p.instruction read (ltb-true _ _ within) in
    let bytes = slot_spelled image slot p.instruction fits read in
    rw (from_slots image slot (slots_of p.instruction) (omega arith), rest, bytes)
    (sym (flat_map-cons (λ placed. spelling placed.instruction) p code)))
    (λ _ e. absurd cc)

pub code_spelled : (image : List ℕ) (code : List Placed) → AreBytes image → IsCodeOf image code →
    image ≡ image_bytes code
unfolding first_slots
code_spelled image code fits is =
    goes image fits (sized image is.size) (slot_count image) 0 code (omega arith) is.slots is.forms

pub one_image : (image other : List ℕ) (code : List Placed) → AreBytes image → AreBytes other → IsCodeOf image code →
    IsCodeOf other code → image ≡ other
one_image image other code fits other_fits is other_is = code_spelled image code fits is
    ∙ sym (code_spelled other code other_fits other_is)

-- ---- each instruction of a code

pub placed_small : (image : List ℕ) (code : List Placed) (k : ℕ) (p : Placed) → IsCodeOf image code →
    slice_get code k ≡ Some p → p.slot < MAX_SLOTS
placed_small image code k p is at =
    let within = slot_in_image image code is p.slot k (number_of_placed image code is k p at) in
    omega (arith, within, (sized image is.size).few)

pub placed_registers : (image : List ℕ) (code : List Placed) (k : ℕ) (p : Placed) → IsCodeOf image code →
    slice_get code k ≡ Some p → HasRegisters p.instruction
placed_registers image code k p is at =
    slot_registers image p.slot p.instruction (form_read image p.slot p.instruction (is.forms k p at))

-- ---- numbers of slots

pub number_within : (code : List Placed) (slot : ℕ) (o : Option ℕ) → o ≡ number_at code slot →
    IfSome o (λ n. n < length code)
number_within code slot None e = tt
number_within code slot (Some n) e = number_below code slot n (sym e)
