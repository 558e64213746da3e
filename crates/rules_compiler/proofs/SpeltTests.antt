-- The code of terms, tests and conditions is read again from its spelling.
use Rattle.rules_compiler.specs.Code.{Plain, Then, Unless}
use Rattle.machine_spec.specs.declared.instruction.Source.TheVariants.{Immediate}
use Rattle.rules_compiler.specs.Tests.{is_plain, value_length_code, term_compare_code}
use Rattle.rules.specs.Meaning.{compares}
use Rattle.std.proofs.lemmas.Bool.{and_parts}
use Rattle.std.proofs.Common.{not, ◌≡◌, true, nat_le}
use Rattle.std.proofs.Common.{ℕ, zero, suc, ◌+◌, ◌-◌, ◌^◌, ◌<◌, ◌≤◌, pos, nat_lt}
use Rattle.std.proofs.Common.{List, [], ◌∷◌, ◌++◌, length, refl, arith}
use Rattle.std.proofs.{lemmas.Bool.cond_both}
use Rattle.std.proofs.lemmas.Bool.{leb-true, ltb-true}
use Rattle.machine_spec.specs.declared.{operation.Test.Test as Jumps}
use Rattle.machine_spec.specs.declared.operation.Operation.TheVariants.{Xor}
use Rattle.machine_spec.specs.declared.operation.Test.TheVariants as jumps
use Rattle.machine_spec.specs.{Image.read_fields, Opcodes.template_of}
use Rattle.rules.specs.declared.{rule.Part.Part, rule.Layout.Layout, rule.Term.Term, rule.Comparison.Comparison}
use Rattle.rules.specs.declared.{rule.Test.Test as Tests}
use Rattle.rules.specs.declared.rule.Part.TheVariants as part
use Rattle.rules.specs.declared.rule.Term.TheVariants as term
use Rattle.rules.specs.declared.rule.Test.TheVariants as test
use Rattle.rules.specs.Formulas.{Formula, Single, Negated, Both, Either}
use Rattle.rules.specs.Limits.{IsText, FitsPart, FitsTerm, FitsTest, HasFitting}
use Rattle.rules_compiler.specs.Pieces.{set, change, number_code, text_code}
use Rattle.rules_compiler.specs.Pieces.{part_code}
use Rattle.rules_compiler.specs.declared.pieces.TheConstants.{NEAR}
use Rattle.rules_compiler.proofs.Texts.{near_stands}
use Rattle.std.proofs.Common.{◌*◌}
use Rattle.machine_spec.specs.declared.instruction.Instruction.TheVariants.{Load}
use Rattle.rules_compiler.specs.Terms.{count_code, decimal_code, term_code}
use Rattle.rules_compiler.specs.Terms.{layout_code}
use Rattle.rules.specs.Meaning.{layout_size}
use Rattle.machine_spec.specs.declared.instruction.Extension.TheVariants.{Zero}
use Rattle.rules_compiler.specs.Tests.{look, sized, mark, searches_code, has_code}
use Rattle.rules_compiler.specs.declared.searches.TheConstants.{LOOKED_AT, OTHERS, PLACES}
use Rattle.rules_compiler.specs.Tests.{stands, text_test_code, length_test_code, test_of, comparing_code, compare_code, test_code}
use Rattle.rules_compiler.specs.Rules.{condition_code, key_test_code, key_single_code, key_condition_code}
use Rattle.rules_compiler.proofs.Images.{IsSpelt, AreSpelt}
use Rattle.rules_compiler.proofs.Spelt.{fits_imm, fits_zero, spelt_against}
use Rattle.rules_compiler.proofs.Spelt.{spelt_call, spelt_change, spelt_copy}
use Rattle.rules_compiler.proofs.Spelt.{spelt_set}
use Rattle.rules_compiler.proofs.SpeltCode.{Spells, spells_then, spells_unless, spells_plain, set_zero, set_one, spelt_near, text_spelt, part_spelt}
use Rattle.rules_compiler.proofs.SpeltCode.{number_spelt, measured_spells, answered_spells, answer_spells, decimal_list, layout_spells}
use Rattle.std.specs.List.{AllByRecursion}
use Rattle.machine_spec.specs.declared.instruction.Size.{Size}
use Rattle.rules_compiler.specs.Terms.{first_size, more_of, append_byte, more_code, read_code, value_number_code, is_near}
use Rattle.rules_compiler.specs.Terms.{part_number_code}
use Rattle.rules_compiler.specs.Tests.{value_truth_code, value_compare_code, is_at_hand}
use Rattle.machine_spec.specs.declared.instruction.Instruction.TheVariants.{Compute}
use Rattle.machine_spec.specs.declared.instruction.Source.TheVariants.{Register}
use Rattle.machine_spec.specs.declared.operation.Operation.TheVariants.{Add, LeftShift}
use Rattle.machine_spec.specs.declared.operation.Width.TheVariants.{Bits64}
use Rattle.rules_compiler.proofs.Spelt.{fits_nothing}
use Rattle.rules_compiler.specs.Tests.{match_code, match_test_code, value_test_code, is_short, equal_code, begins_code}
use Rattle.rules_compiler.specs.declared.values.TheConstants.{REACH}
use Rattle.rules_compiler.proofs.NumberFlows.{behind_first}
use Rattle.rules_compiler.proofs.Spelt.{fits_distance}

-- ---- terms

spelt_value_load : (size : Size) (place : ℕ) → place < 2 ^ 15 → IsSpelt (Load size Zero 0 9 (pos place))
unfolding read_fields template_of
spelt_value_load Size.Byte place near = record {
  reads = λ slot. refl;
  names = record { dst = omega arith; src = omega arith; changed = omega arith };
  upper = refl;
  narrow = refl;
  slots = refl;
  offset = fits_distance place near;
  imm = fits_zero;
}
spelt_value_load _ place near = record {
  reads = λ slot. refl;
  names = record { dst = omega arith; src = omega arith; changed = omega arith };
  upper = refl;
  narrow = refl;
  slots = refl;
  offset = fits_distance place near;
  imm = fits_zero;
}

spelt_byte_load : (place : ℕ) → place < 2 ^ 15 → IsSpelt (Load Size.Byte Zero 1 9 (pos place))
unfolding read_fields template_of
spelt_byte_load place near = record {
  reads = λ slot. refl;
  names = record { dst = omega arith; src = omega arith; changed = omega arith };
  upper = refl;
  narrow = refl;
  slots = refl;
  offset = fits_distance place near;
  imm = fits_zero;
}

spelt_append : IsSpelt (Compute Bits64 Add 0 (Register 1))
unfolding read_fields template_of
spelt_append = record {
  reads = λ slot. refl;
  names = record { dst = omega arith; src = omega arith; changed = omega arith };
  upper = refl;
  narrow = refl;
  slots = refl;
  offset = fits_nothing;
  imm = fits_zero;
}

more_spells : (place count : ℕ) → place + count ≤ 32768 → Spells (more_code place count)
unfolding more_code
more_spells place zero near = spells_plain [] tt
more_spells place (suc count) near = spells_then
    (spells_plain (append_byte place) (
      spelt_change 0 refl LeftShift (pos 8) refl (fits_imm 8 (omega arith)),
      (spelt_byte_load place (omega arith), (spelt_append, tt)),
    ))
    (more_spells (place + 1) count (omega arith))

read_spells : (layout : Layout) (place : ℕ) → place + layout_size layout ≤ 32768 → Spells (read_code layout place)
unfolding read_code
read_spells layout place near = spells_then
    (spells_plain (Load (first_size layout) Zero 0 9 (pos place) ∷ [])
    (spelt_value_load (first_size layout) place (omega (arith, behind_first layout)), tt))
    (more_spells (place + 1) (more_of layout) (omega (arith, behind_first layout)))

value_number_spells : (layout : Layout) (place : ℕ) → place + layout_size layout ≤ 32768 →
    Spells (value_number_code layout place)
unfolding value_number_code
value_number_spells layout place near =
    spells_then (spells_plain (set 0 (pos 0) ∷ set 8 (pos 0) ∷ []) (set_zero 0 refl, (set_zero 8 refl, tt)))
    (spells_unless jumps.Less 7 (pos (place + layout_size layout)) refl (fits_imm (place + layout_size layout) (omega arith))
    (spells_then (read_spells layout place near) (spells_plain (set 8 (pos 1) ∷ []) (set_one 8 refl, tt))))

number_spells : (layout : Layout) (p : Part) (place : ℕ) → FitsPart IsText p → place ≤ 1048576 → Spells (part_number_code layout p place)
unfolding part_number_code
number_spells layout part.Value place fits low = cond_both (is_near layout place) (value_number_code layout place)
    (layout_code layout part.Value place) (λ code. Spells code)
    (λ near. value_number_spells layout place (leb-true (place + layout_size layout) REACH near)) (λ far. layout_spells layout part.Value place fits low)
number_spells layout part.Key place fits low = layout_spells layout part.Key place fits low
number_spells layout (part.Header key) place fits low = layout_spells layout (part.Header key) place fits low

pub term_spells : (t : Term) → FitsTerm IsText t → Spells (term_code t)
unfolding term_code count_code decimal_code
term_spells (term.Length p) fits = spells_then (measured_spells p fits) (answered_spells 2 (omega arith))
term_spells (term.Number layout p place) fits = number_spells layout p place fits.0 fits.1.high_is
term_spells (term.Decimal p place count) fits = spells_then
    (spells_plain (part_code p ++ decimal_list place count) (part_spelt p (decimal_list place count) fits.0 (
      spelt_copy 1 refl 6 refl,
      (
        spelt_set 2 refl (pos place) (fits_imm place (omega (arith, fits.1.0.high_is))),
        (spelt_set 3 refl (pos count) (fits_imm count (omega (arith, fits.1.1.high_is))), (spelt_call 17 (omega arith), (set_zero 8 refl, tt))),
      ),
    )))
    (answered_spells 1 (omega arith))
term_spells term.Offset fits = answer_spells 7 (omega arith)
term_spells term.Timestamp fits = answer_spells 8 (omega arith)
term_spells term.Partition fits = answer_spells 9 (omega arith)
term_spells term.Headers fits = answer_spells 10 (omega arith)

pub length_test_spells : (p : Part) (n : ℕ) → FitsPart IsText p → n < 2 ^ 31 → Spells (length_test_code p (pos n))
unfolding length_test_code
length_test_spells p n fits small = spells_then (measured_spells p fits)
    (spells_unless jumps.NotEqual 0 (pos n) refl (fits_imm n small)
    (spells_plain (set 8 (pos 1) ∷ []) (set_one 8 refl, tt)))

pub comparing_spells : (how : Comparison) (n : ℕ) → n < 2 ^ 64 → Spells (comparing_code how n)
unfolding comparing_code
comparing_spells how n small = spells_then (spells_plain (number_code 1 n) (number_spelt 1 n refl small))
    (record { spelt = λ few. (spelt_against (test_of how) 1 (omega arith), (set_zero 8 refl, tt)) })

length_spells : (how : Jumps) (n : ℕ) → n < 2 ^ 31 →
    Spells (Then (Plain (set 8 (pos 1) ∷ [])) (Unless how 7 (Immediate (pos n)) (Plain (set 8 (pos 0) ∷ []))))
length_spells how n small = spells_then (spells_plain (set 8 (pos 1) ∷ []) (set_one 8 refl, tt))
    (spells_unless how 7 (pos n) refl (fits_imm n small) (spells_plain (set 8 (pos 0) ∷ []) (set_zero 8 refl, tt)))

truth_spells : (how : Comparison) (n : ℕ) → n < 2 ^ 31 → Spells (value_truth_code how n)
unfolding value_truth_code
truth_spells how n small = spells_then (spells_plain (set 8 (pos 1) ∷ []) (set_one 8 refl, tt))
    (spells_unless (test_of how) 0 (pos n) refl (fits_imm n small) (spells_plain (set 8 (pos 0) ∷ []) (set_zero 8 refl, tt)))

pub stands_spelt : (size : ℕ) → size ≤ 255 → AreSpelt (stands size)
stands_spelt size few = (
  spelt_copy 1 refl 6 refl,
  (
    set_zero 2 refl,
    (
      spelt_copy 3 refl 10 refl,
      (
        spelt_near 3 refl,
        (
          spelt_set 4 refl (pos size) (fits_imm size (omega arith)),
          (spelt_call 16 (omega arith), (spelt_copy 8 refl 0 refl, tt)),
        ),
      ),
    ),
  ),
)

pub sized_spelt : AreSpelt sized
sized_spelt = (spelt_copy 1 refl 6 refl, (spelt_call 13 (omega arith), tt))

pub text_test_spells : (p : Part) (text : List ℕ) (how : Jumps) (n : ℕ) → FitsPart IsText p → IsText text → n < 2 ^ 31 →
    Spells (text_test_code p text how n)
unfolding text_test_code
text_test_spells p text how n fits is small = spells_then
    (spells_plain (part_code p ++ (text_code NEAR text ++ stands (length text)))
    (part_spelt p (text_code NEAR text ++ stands (length text)) fits
    (text_spelt near_stands text (stands (length text)) is (stands_spelt (length text) is.few))))
    (spells_unless jumps.Equal 8 (pos 0) refl fits_zero (spells_then (spells_plain sized sized_spelt)
    (spells_unless how 0 (pos n) refl (fits_imm n small) (spells_plain (set 8 (pos 0) ∷ []) (set_zero 8 refl, tt)))))

pub look_spelt : (size place : ℕ) → size ≤ 255 → place ≤ 65536 → AreSpelt (look size place)
look_spelt size place few low = (
  spelt_copy 1 refl 6 refl,
  (
    spelt_set 2 refl (pos place) (fits_imm place (omega arith)),
    (
      spelt_copy 3 refl 10 refl,
      (spelt_near 3 refl, (spelt_set 4 refl (pos size) (fits_imm size (omega arith)), (spelt_call 15 (omega arith), tt))),
    ),
  ),
)

pub mark_spells : Spells mark
mark_spells = spells_plain (set 8 (pos 1) ∷ []) (set_one 8 refl, tt)

pub searches_spell : (size place left : ℕ) → size ≤ 255 → place + PLACES * left ≤ 65536 → Spells (searches_code size place left)
unfolding searches_code
searches_spell size place zero few low = spells_then (spells_plain sized sized_spelt)
    (spells_unless jumps.Less 0 (pos (place + size + 2)) refl (fits_imm (place + size + 2) (omega arith))
    (spells_then (spells_plain (look size place) (look_spelt size place few (omega arith)))
    (spells_unless jumps.Equal 0 (pos 0) refl fits_zero
    (spells_unless jumps.Greater 0 (pos (LOOKED_AT - size + 1)) refl (fits_imm (LOOKED_AT - size + 1) (omega arith)) mark_spells))))
searches_spell size place (suc left) few low = spells_then (spells_plain sized sized_spelt)
    (spells_unless jumps.Less 0 (pos (place + size + 2)) refl (fits_imm (place + size + 2) (omega arith))
    (spells_then (spells_plain (look size place) (look_spelt size place few (omega arith)))
    (spells_then (spells_unless jumps.Equal 0 (pos 0) refl fits_zero mark_spells)
    (spells_unless jumps.NotEqual 8 (pos 0) refl fits_zero (searches_spell size (place + PLACES) left few (omega arith))))))

pub has_spells : (p : Part) (text : List ℕ) → FitsPart IsText p → IsText text → Spells (has_code p text)
unfolding has_code
has_spells p text fits is = spells_then
    (spells_plain (part_code p ++ (text_code NEAR text ++ set 8 (pos 0) ∷ []))
    (part_spelt p (text_code NEAR text ++ set 8 (pos 0) ∷ []) fits (text_spelt near_stands text (set 8 (pos 0) ∷ []) is (set_zero 8 refl, tt))))
    (searches_spell (length text) 0 OTHERS is.few (omega arith))

match_spells : (base : ℕ) → ((place : ℕ) → place < 2 ^ 15 → IsSpelt (Load Size.Byte Zero 0 base (pos place))) →
    (text : List ℕ) (place : ℕ) → AllByRecursion (λ byte. byte < 256) text → place + length text < 2 ^ 15 →
    Spells (match_code base text place)
unfolding match_code
match_spells base loads [] place bytes near = spells_plain (set 8 (pos 1) ∷ []) (set_one 8 refl, tt)
match_spells base loads (byte ∷ text) place bytes near = spells_then
    (spells_plain (Load Size.Byte Zero 0 base (pos place) ∷ []) (loads place (omega arith), tt))
    (spells_unless jumps.NotEqual 0 (pos byte) refl (fits_imm byte (omega (arith, bytes.0)))
    (match_spells base loads text (place + 1) bytes.1 (omega arith)))

match_test_spells : (base long : ℕ) → ((place : ℕ) → place < 2 ^ 15 → IsSpelt (Load Size.Byte Zero 0 base (pos place))) →
    nat_le long 10 ≡ true → (text : List ℕ) (how : Jumps) → IsText text → Spells (match_test_code base long text how)
unfolding match_test_code
match_test_spells base long loads low text how is =
    let few = is.few in
    spells_then (spells_plain (set 8 (pos 0) ∷ []) (set_zero 8 refl, tt))
    (spells_unless how long (pos (length text)) low (fits_imm (length text) (omega arith))
    (match_spells base loads text 0 is.bytes (omega arith)))

value_test_spells : (text : List ℕ) (how : Jumps) → IsText text → Spells (value_test_code text how)
value_test_spells text how is = match_test_spells 9 7 (spelt_value_load Size.Byte) refl text how is

spelt_key_load : (place : ℕ) → place < 2 ^ 15 → IsSpelt (Load Size.Byte Zero 0 3 (pos place))
unfolding read_fields template_of
spelt_key_load place near = record {
  reads = λ slot. refl;
  names = record { dst = omega arith; src = omega arith; changed = omega arith };
  upper = refl;
  narrow = refl;
  slots = refl;
  offset = fits_distance place near;
  imm = fits_zero;
}

-- ---- tests of the key, in the first rule

key_test_spells : (t : Tests) → FitsTest IsText t → Spells (key_test_code t)
unfolding key_test_code
key_test_spells (test.Equal p text) fits = match_test_spells 3 4 spelt_key_load refl text jumps.NotEqual fits.1
key_test_spells (test.Begins p text) fits = match_test_spells 3 4 spelt_key_load refl text jumps.Less fits.1
key_test_spells t fits = spells_plain [] tt

key_single_spells : (c : Formula) → HasFitting IsText c → Spells (key_single_code c)
unfolding key_single_code
key_single_spells (Single t) fits = key_test_spells t fits
key_single_spells c fits = spells_plain [] tt

pub key_condition_spells : (c : Formula) → HasFitting IsText c → Spells (key_condition_code c)
unfolding key_condition_code
key_condition_spells (Negated inner) fits = spells_then (key_single_spells inner fits)
    (spells_plain (change Xor 8 (pos 1) ∷ []) (spelt_change 8 refl Xor (pos 1) refl (fits_imm 1 (omega arith)), tt))
key_condition_spells (Single t) fits = key_single_spells (Single t) fits
key_condition_spells (Both one other) fits = key_single_spells (Both one other) fits
key_condition_spells (Either one other) fits = key_single_spells (Either one other) fits

-- ---- tests of texts

equal_spells : (p : Part) (text : List ℕ) → FitsPart IsText p → IsText text → Spells (equal_code p text)
unfolding equal_code
equal_spells part.Value text fits is =
    let few = is.few in
    cond_both (is_short text) (value_test_code text jumps.NotEqual)
    (text_test_code part.Value text jumps.Equal (length text + 2)) (λ code. Spells code)
    (λ short. value_test_spells text jumps.NotEqual is)
    (λ long. text_test_spells part.Value text jumps.Equal (length text + 2) fits is (omega arith))
equal_spells part.Key text fits is =
    let few = is.few in text_test_spells part.Key text jumps.Equal (length text + 2) fits is (omega arith)
equal_spells (part.Header key) text fits is =
    let few = is.few in text_test_spells (part.Header key) text jumps.Equal (length text + 2) fits is (omega arith)

begins_spells : (p : Part) (text : List ℕ) → FitsPart IsText p → IsText text → Spells (begins_code p text)
unfolding begins_code
begins_spells part.Value text fits is = cond_both (is_short text) (value_test_code text jumps.Less)
    (text_test_code part.Value text jumps.GreaterOrEqual 2) (λ code. Spells code)
    (λ short. value_test_spells text jumps.Less is)
    (λ long. text_test_spells part.Value text jumps.GreaterOrEqual 2 fits is (omega arith))
begins_spells part.Key text fits is = text_test_spells part.Key text jumps.GreaterOrEqual 2 fits is (omega arith)
begins_spells (part.Header key) text fits is = text_test_spells (part.Header key) text jumps.GreaterOrEqual 2 fits is (omega arith)

compare_spells : (t : Term) (how : Comparison) (n : ℕ) → FitsTerm IsText t → n < 2 ^ 64 → Spells (compare_code t how n)
unfolding compare_code value_length_code term_compare_code value_compare_code
compare_spells (term.Length part.Value) how n fits small = cond_both (is_plain how n) (value_length_code how n)
    (term_compare_code (term.Length part.Value) how n) (λ code. Spells code)
    (λ plain. length_spells (test_of how) n
    (ltb-true n (2 ^ 31) (and_parts (not (compares how 0 n)) (nat_lt n (2 ^ 31)) plain).1))
    (λ other. spells_then (term_spells (term.Length part.Value) fits)
    (spells_unless jumps.Equal 8 (pos 0) refl fits_zero (comparing_spells how n small)))
compare_spells (term.Number layout part.Value place) how n fits small = cond_both (is_at_hand layout place n)
    (value_compare_code layout place how n) (term_compare_code (term.Number layout part.Value place) how n)
    (λ code. Spells code)
    (λ at.
    let both = and_parts (is_near layout place) (nat_lt n (2 ^ 31)) at in
    let near = leb-true (place + layout_size layout) REACH both.0 in
    spells_then (spells_plain (set 8 (pos 0) ∷ []) (set_zero 8 refl, tt))
    (spells_unless jumps.Less 7 (pos (place + layout_size layout)) refl (fits_imm (place + layout_size layout) (omega arith))
    (spells_then (read_spells layout place near) (truth_spells how n (ltb-true n (2 ^ 31) both.1)))))
    (λ other. spells_then (term_spells (term.Number layout part.Value place) fits)
    (spells_unless jumps.Equal 8 (pos 0) refl fits_zero (comparing_spells how n small)))
compare_spells t how n fits small = spells_then (term_spells t fits)
    (spells_unless jumps.Equal 8 (pos 0) refl fits_zero (comparing_spells how n small))

pub test_spells : (t : Tests) → FitsTest IsText t → Spells (test_code t)
unfolding test_code
test_spells (test.Null p) fits = length_test_spells p 1 fits (omega arith)
test_spells (test.Absent p) fits = length_test_spells p 0 fits (omega arith)
test_spells (test.Equal p text) fits = equal_spells p text fits.0 fits.1
test_spells (test.Begins p text) fits = begins_spells p text fits.0 fits.1
test_spells (test.Has p text) fits = has_spells p text fits.0 fits.1
test_spells (test.Compare t how n) fits = compare_spells t how n fits.0 (omega (arith, fits.1.high_is))

pub condition_spells : (c : Formula) → HasFitting IsText c → Spells (condition_code c)
unfolding condition_code
condition_spells (Single t) fits = test_spells t fits
condition_spells (Negated inner) fits = spells_then (condition_spells inner fits)
    (spells_plain (change Xor 8 (pos 1) ∷ []) (spelt_change 8 refl Xor (pos 1) refl (fits_imm 1 (omega arith)), tt))
condition_spells (Both one other) fits = spells_then (condition_spells one fits.0)
    (spells_unless jumps.Equal 8 (pos 0) refl fits_zero (condition_spells other fits.1))
condition_spells (Either one other) fits = spells_then (condition_spells one fits.0)
    (spells_unless jumps.NotEqual 8 (pos 0) refl fits_zero (condition_spells other fits.1))
