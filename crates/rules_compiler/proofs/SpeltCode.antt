-- The code of conditions is read again from its spelling.
use Rattle.std.proofs.Common.{◌≡◌, ℕ, zero, suc, ◌/◌, ◌%◌, ◌^◌, ◌<◌, ◌≤◌, ℤ, pos, true, nat_le, nat_lt}
use Rattle.std.proofs.Common.{List, [], ◌∷◌, ◌++◌, length, refl, arith, FitsSigned}
use Rattle.std.proofs.Common.{length-append}
use Rattle.std.specs.Int.{w16, w32}
use Rattle.std.proofs.{lemmas.Int.fits_signed_from_abs, lemmas.Bool.cond_both}
use Rattle.std.proofs.lemmas.Bool.{leb-true, ltb-true}
use Rattle.machine_spec.specs.declared.{instruction.Instruction.Instruction}
use Rattle.machine_spec.specs.declared.{operation.Test.Test as Jumps}
use Rattle.machine_spec.specs.declared.limits.TheConstants.{MAX_SLOTS}
use Rattle.machine_spec.specs.declared.instruction.Instruction.TheVariants.{Move, Compute, Call}
use Rattle.machine_spec.specs.declared.instruction.Source.TheVariants.{Register, Immediate}
use Rattle.machine_spec.specs.declared.operation.Operation.TheVariants.{Add, Sub, LeftShift}
use Rattle.machine_spec.specs.declared.operation.Width.TheVariants.{Bits32, Bits64}
use Rattle.machine_spec.specs.declared.operation.Test.TheVariants as jumps
use Rattle.machine_spec.specs.{Image.read_fields, Opcodes.template_of}
use Rattle.rules.specs.declared.{rule.Part.Part, rule.Layout.Layout}
use Rattle.rules.specs.declared.rule.Part.TheVariants as part
use Rattle.rules.specs.Limits.{IsText, FitsPart}
use Rattle.rules_compiler.specs.Code.{Code, Plain, Then, Unless, instructions}
use Rattle.rules_compiler.specs.Pieces.{set, copy, change, number_code, word_at, word_store, words_code, word_count, text_code}
use Rattle.rules_compiler.specs.Pieces.{header_call, header_number, part_code, measure, high_half, low_half}
use Rattle.rules_compiler.specs.declared.pieces.TheConstants.{NEAR, FAR}
use Rattle.rules_compiler.proofs.Texts.{StandsAt, near_stands, AreBytes, quad_small, bytes_of_text}
use Rattle.std.proofs.Common.{◌+ℤ◌, ◌*◌}
use Rattle.std.proofs.lemmas.Int.{ints}
use Rattle.machine_spec.specs.declared.instruction.Instruction.TheVariants.{Store, Load}
use Rattle.machine_spec.specs.declared.instruction.Size.TheVariants.{Word}
use Rattle.rules_compiler.specs.Terms.{answer_code, size_of, turned, ordered, room_call, load_list}
use Rattle.rules_compiler.specs.Terms.{layout_code}
use Rattle.rules.specs.Meaning.{layout_size}
use Rattle.rules.specs.declared.rule.Layout.TheVariants.{Byte, U16Be, U32Be, U64Be, U16Le, U32Le, U64Le}
use Rattle.machine_spec.specs.declared.operation.SwappedWidth.{SwappedWidth}
use Rattle.machine_spec.specs.declared.instruction.Extension.TheVariants.{Zero}
use Rattle.rules_compiler.specs.Tests.{stands}
use Rattle.rules_compiler.proofs.Images.{IsSpelt, AreSpelt, spelt_both}
use Rattle.rules_compiler.proofs.Spelt.{fits_half, fits_imm, fits_nothing, fits_zero, spelt_add}
use Rattle.rules_compiler.proofs.Spelt.{spelt_call, spelt_change, spelt_copy, spelt_half, spelt_jump}
use Rattle.rules_compiler.proofs.Spelt.{spelt_set}

-- ---- pieces

-- the instructions of code are read again, where they are no more than an image may have
pub record Spells (code : Code) : Type 0 where
  pub spelt : length (instructions code) ≤ MAX_SLOTS → AreSpelt (instructions code)

pub spells_then : {first next : Code} → Spells first → Spells next → Spells (Then first next)
spells_then {first} {next} x y = record {
  spelt = λ few.
      let long = length-append (instructions first) (instructions next) in
      spelt_both (instructions first) (instructions next) (x.spelt (omega arith)) (y.spelt (omega arith));
}

pub spells_unless : (how : Jumps) (r : ℕ) (z : ℤ) {block : Code} → nat_le r 10 ≡ true → FitsSigned w32 z → Spells block →
    Spells (Unless how r (Immediate z) block)
spells_unless how r z {block} low fits x = record {
  spelt = λ few. (spelt_jump r low how z (length (instructions block)) fits (omega arith), x.spelt (omega arith));
}

pub spells_plain : (list : List Instruction) → AreSpelt list → Spells (Plain list)
spells_plain list are = record { spelt = λ few. are }

pub set_zero : (r : ℕ) → nat_le r 10 ≡ true → IsSpelt (set r (pos 0))
set_zero r low = spelt_set r low (pos 0) fits_zero

pub set_one : (r : ℕ) → nat_le r 10 ≡ true → IsSpelt (set r (pos 1))
set_one r low = spelt_set r low (pos 1) (fits_imm 1 (omega arith))

pub number_spelt : (r n : ℕ) → nat_le r 10 ≡ true → n < 2 ^ 64 → AreSpelt (number_code r n)
number_spelt r n low small = cond_both (nat_lt n (2 ^ 31)) (set r (pos n) ∷ [])
    (Move Bits32 r (Immediate (high_half n)) ∷ change LeftShift r (pos 32)
    ∷ Move Bits32 2 (Immediate (low_half n)) ∷ Compute Bits64 Add r (Register 2) ∷ []) AreSpelt
    (λ e. (spelt_set r low (pos n) (fits_imm n (ltb-true n (2 ^ 31) e)), tt))
    (λ e. (
      spelt_half r low (high_half n) (fits_half (n / 2 ^ 32) (omega arith)),
      (
        spelt_change r low LeftShift (pos 32) refl (fits_imm 32 (omega arith)),
        (spelt_half 2 refl (low_half n) (fits_half (n % 2 ^ 32) (omega arith)), (spelt_add r low, tt)),
      ),
    ))

pub spelt_store : (z w : ℤ) → FitsSigned w16 z → FitsSigned w32 w → IsSpelt (Store Word 10 z (Immediate w))
unfolding read_fields template_of
spelt_store z w near fits = record {
  reads = λ slot. refl;
  names = record { dst = omega arith; src = omega arith; changed = omega arith };
  upper = refl;
  narrow = refl;
  slots = refl;
  offset = near;
  imm = fits;
}

pub spelt_less : (r : ℕ) → nat_le r 10 ≡ true → IsSpelt (Compute Bits32 Sub r (Immediate (pos 1)))
unfolding read_fields template_of
spelt_less r low = record {
  reads = λ slot. rw low refl;
  names = record { dst = leb-true r 10 low; src = omega arith; changed = omega arith };
  upper = refl;
  narrow = refl;
  slots = refl;
  offset = fits_nothing;
  imm = fits_imm 1 (omega arith);
}

pub word_fits : (start : ℤ) (base : ℕ) → StandsAt start base → (k : ℕ) → k < 64 → FitsSigned w16 (start +ℤ pos (4 * k))
word_fits start base stands k few =
    let is = stands.is in
    let low = stands.low in
    fits_signed_from_abs w16 (start +ℤ pos (4 * k)) (omega (arith, ints))

pub spelt_near : (r : ℕ) → nat_le r 10 ≡ true → IsSpelt (change Add r NEAR)
spelt_near r low = spelt_change r low Add NEAR refl (fits_signed_from_abs w32 NEAR (omega (arith, ints)))

pub spelt_far : (r : ℕ) → nat_le r 10 ≡ true → IsSpelt (change Add r FAR)
spelt_far r low = spelt_change r low Add FAR refl (fits_signed_from_abs w32 FAR (omega (arith, ints)))

pub words_spelt : (start : ℤ) (base : ℕ) → StandsAt start base → (text : List ℕ) → AreBytes text → (k : ℕ) → k ≤ 64 →
    AreSpelt (words_code start text k)
unfolding words_code
words_spelt start base stands text bytes zero few = tt
words_spelt start base stands text bytes (suc k) few = spelt_both (words_code start text k) (word_store start text k ∷ [])
    (words_spelt start base stands text bytes k (omega arith)) (
      spelt_store (start +ℤ pos (4 * k)) (word_at text (4 * k)) (word_fits start base stands k (omega arith))
          (fits_half _ (quad_small text bytes (4 * k))),
      tt,
    )

pub text_spelt : {start : ℤ} {base : ℕ} → StandsAt start base → (text : List ℕ) (list : List Instruction) → IsText text →
    AreSpelt list → AreSpelt (text_code start text ++ list)
text_spelt {start = start} {base = base} stands text list is are =
    let few = is.few in
    spelt_both (text_code start text) list
    (words_spelt start base stands text (bytes_of_text text is) (word_count (length text)) (omega arith)) are

pub part_spelt : (p : Part) (list : List Instruction) → FitsPart IsText p → AreSpelt list → AreSpelt (part_code p ++ list)
unfolding part_code
part_spelt part.Value list fits are = (spelt_set 6 refl (pos 0) fits_zero, are)
part_spelt part.Key list fits are = (spelt_set 6 refl (pos 1) (fits_imm 1 (omega arith)), are)
part_spelt (part.Header key) list fits are =
    let few = fits.few in
    spelt_both (text_code NEAR key ++ (header_call (length key) ++ (Call (pos 19) ∷ header_number))) list
    (text_spelt near_stands key (header_call (length key) ++ (Call (pos 19) ∷ header_number)) fits (
      spelt_copy 1 refl 10 refl,
      (
        spelt_near 1 refl,
        (
          spelt_set 2 refl (pos (length key)) (fits_imm (length key) (omega arith)),
          (
            spelt_call 19 (omega arith),
            (
              spelt_copy 6 refl 0 refl,
              (
                spelt_less 6 refl,
                (
                  spelt_change 6 refl LeftShift (pos 1) refl (fits_imm 1 (omega arith)),
                  (spelt_change 6 refl Add (pos 3) refl (fits_imm 3 (omega arith)), tt),
                ),
              ),
            ),
          ),
        ),
      ),
    )) are

pub measure_spelt : AreSpelt measure
measure_spelt = (spelt_copy 1 refl 6 refl, (spelt_call 13 (omega arith), (set_zero 8 refl, tt)))

pub answered_spells : (n : ℕ) → n < 2 ^ 31 → Spells (Unless jumps.Less 0 (Immediate (pos n)) (Plain (change Sub 0 (pos n) ∷ set 8 (pos 1) ∷ [])))
answered_spells n small = spells_unless jumps.Less 0 (pos n) refl (fits_imm n small)
    (spells_plain (change Sub 0 (pos n) ∷ set 8 (pos 1) ∷ [])
    (spelt_change 0 refl Sub (pos n) refl (fits_imm n small), (set_one 8 refl, tt)))

pub measured_spells : (p : Part) → FitsPart IsText p → Spells (Plain (part_code p ++ measure))
measured_spells p fits = spells_plain (part_code p ++ measure) (part_spelt p measure fits measure_spelt)

abbrev pub decimal_list : ℕ → ℕ → List Instruction
decimal_list place count = copy 1 6 ∷ set 2 (pos place) ∷ set 3 (pos count) ∷ Call (pos 17) ∷ set 8 (pos 0) ∷ []

pub answer_spells : (n : ℕ) → n < 2 ^ 31 → Spells (answer_code (pos n))
unfolding answer_code
answer_spells n small = spells_plain (Call (pos n) ∷ set 8 (pos 1) ∷ []) (spelt_call n small, (set_one 8 refl, tt))

pub spelt_load : (layout : Layout) → IsSpelt (Load (size_of layout) Zero 0 10 NEAR)
unfolding read_fields template_of
spelt_load Byte = record {
  reads = λ slot. refl;
  names = record { dst = omega arith; src = omega arith; changed = omega arith };
  upper = refl;
  narrow = refl;
  slots = refl;
  offset = fits_signed_from_abs w16 NEAR (omega (arith, ints));
  imm = fits_zero;
}
spelt_load _ = record {
  reads = λ slot. refl;
  names = record { dst = omega arith; src = omega arith; changed = omega arith };
  upper = refl;
  narrow = refl;
  slots = refl;
  offset = fits_signed_from_abs w16 NEAR (omega (arith, ints));
  imm = fits_zero;
}

pub spelt_turned : (width : SwappedWidth) → IsSpelt (turned width)
unfolding read_fields template_of
spelt_turned SwappedWidth.Bits16 = record {
  reads = λ slot. refl;
  names = record { dst = omega arith; src = omega arith; changed = omega arith };
  upper = refl;
  narrow = refl;
  slots = refl;
  offset = fits_nothing;
  imm = fits_imm 16 (omega arith);
}
spelt_turned SwappedWidth.Bits32 = record {
  reads = λ slot. refl;
  names = record { dst = omega arith; src = omega arith; changed = omega arith };
  upper = refl;
  narrow = refl;
  slots = refl;
  offset = fits_nothing;
  imm = fits_imm 32 (omega arith);
}
spelt_turned SwappedWidth.Bits64 = record {
  reads = λ slot. refl;
  names = record { dst = omega arith; src = omega arith; changed = omega arith };
  upper = refl;
  narrow = refl;
  slots = refl;
  offset = fits_nothing;
  imm = fits_imm 64 (omega arith);
}

pub ordered_spelt : (layout : Layout) → IsSpelt (ordered layout)
ordered_spelt Byte = spelt_copy 1 refl 0 refl
ordered_spelt U16Be = spelt_turned SwappedWidth.Bits16
ordered_spelt U32Be = spelt_turned SwappedWidth.Bits32
ordered_spelt U64Be = spelt_turned SwappedWidth.Bits64
ordered_spelt U16Le = spelt_copy 1 refl 0 refl
ordered_spelt U32Le = spelt_copy 1 refl 0 refl
ordered_spelt U64Le = spelt_copy 1 refl 0 refl

pub size_small : (layout : Layout) → layout_size layout < 2 ^ 31
size_small Byte = omega arith
size_small _ = omega arith

pub layout_spells : (layout : Layout) (p : Part) (place : ℕ) → FitsPart IsText p → place ≤ 1048576 → Spells (layout_code layout p place)
unfolding layout_code
layout_spells layout p place fits low = spells_then
    (spells_plain (part_code p ++ room_call (layout_size layout) place) (part_spelt p (room_call (layout_size layout) place) fits (
      spelt_copy 1 refl 10 refl,
      (
        spelt_near 1 refl,
        (
          spelt_set 2 refl (pos place) (fits_imm place (omega arith)),
          (
            spelt_set 3 refl (pos (layout_size layout)) (fits_imm (layout_size layout) (size_small layout)),
            (spelt_copy 4 refl 6 refl, (spelt_call 14 (omega arith), (set_zero 8 refl, tt))),
          ),
        ),
      ),
    )))
    (spells_unless jumps.NotEqual 0 (pos 0) refl fits_zero
    (spells_plain (load_list layout) (spelt_load layout, (ordered_spelt layout, (set_one 8 refl, tt)))))
