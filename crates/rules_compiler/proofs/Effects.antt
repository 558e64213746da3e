-- What the code of tests and conditions does.
use Rattle.rules_compiler.specs.Tests.{is_plain, value_length_code, term_compare_code}
use Rattle.rules_compiler.specs.Tests.{value_truth_code, value_compare_code, is_at_hand}
use Rattle.rules_compiler.specs.Terms.{is_near}
use Rattle.rules_compiler.specs.declared.values.TheConstants.{REACH}
use Rattle.rules_compiler.proofs.NumberEffects.{compare_number_decides}
use Rattle.rules.specs.declared.rule.{Layout.Layout}
use Rattle.rules.specs.Meaning.{in_bytes, number_at, layout_size}
use Rattle.std.proofs.lemmas.Bool.{leb-true}
use Rattle.std.proofs.Common.{option_map}
use Rattle.std.proofs.lemmas.Bool.{and_parts}
use Rattle.rules.specs.declared.rule.Term.TheVariants as term
use Rattle.std.proofs.Common.{◌≡◌, ℕ, ◌+◌, ◌*◌, ◌/◌, ◌%◌, ◌^◌, ◌<◌, pos, Bool, true, false, not}
use Rattle.std.proofs.Common.{◌&&◌, ◌||◌, ◌==◌, nat_lt, List, [], ◌∷◌, ◌++◌, length, Option, Some}
use Rattle.std.proofs.Common.{None, refl, ap, ◌∙◌, arith}
use Rattle.std.specs.Int.{w32, cast_signed}
use Rattle.std.proofs.lemmas.Bool.{cond_both, ltb-true}
use Rattle.std.proofs.lemmas.{Int.of_z-to_z}
use Rattle.machine_spec.specs.declared.instruction.Instruction.{Instruction}
use Rattle.machine_spec.specs.declared.instruction.Source.TheVariants.{Register, Immediate}
use Rattle.machine_spec.specs.declared.operation.{Operation.TheVariants.Xor}
use Rattle.machine_spec.specs.declared.operation.Width.TheVariants.{Bits32, Bits64}
use Rattle.machine_spec.specs.declared.operation.Test.TheVariants as jumps
use Rattle.machine_spec.specs.Values.{Number, is_taken, immediate}
use Rattle.machine_spec.specs.Machine.{Input, State, state_after, goes_to}
use Rattle.machine_spec.specs.{Parts.length_answer}
use Rattle.verifier_spec.specs.StandsFor.{IsInput}
use Rattle.rules.specs.declared.{rule.Part.Part, rule.Term.Term, rule.Comparison.Comparison}
use Rattle.rules.specs.declared.{rule.Test.Test as Tests}
use Rattle.rules.specs.declared.rule.Comparison.TheVariants as comparison
use Rattle.rules.specs.declared.rule.Test.TheVariants as test
use Rattle.rules.specs.Formulas.{Formula, Single, Negated, Both, Either}
use Rattle.rules.specs.Meaning.{is_null, is_absent, term_value, compares, compares_if, test_holds, holds}
use Rattle.rules.specs.Limits.{IsText, FitsPart, FitsTerm, FitsTest, HasFitting}
use Rattle.rules_compiler.specs.Code.{Code, Plain, Unless}
use Rattle.rules_compiler.specs.Pieces.{set, change, number_code, part_code, measure}
use Rattle.rules_compiler.specs.Terms.{term_code}
use Rattle.rules.specs.declared.rule.Part.TheVariants as part
use Rattle.rules_compiler.specs.Tests.{length_test_code, test_of, comparing_code, compare_code, test_code}
use Rattle.rules_compiler.specs.Rules.{condition_code}
use Rattle.rules_compiler.proofs.Ready.{Ready, small_immediate}
use Rattle.rules_compiler.proofs.Parts.{found, absent_is, null_is}
use Rattle.std.proofs.Common.{unwrap_or}
use Rattle.rules_compiler.proofs.Walks.{run_list}
use Rattle.rules_compiler.proofs.SearchEffects.{has_decides}
use Rattle.rules_compiler.proofs.Courses.{Decides, HasTerm, bit_of}
use Rattle.rules_compiler.proofs.Courses.{enter_decides, list_decides}
use Rattle.rules_compiler.proofs.Courses.{measures}
use Rattle.rules_compiler.proofs.Courses.{skip_decides, then_decides}
use Rattle.rules_compiler.proofs.TermEffects.{term_values}
use Rattle.rules_compiler.proofs.TextEffects.{equal_test, begins_test}

-- ---- tests of lengths

module _ (input : Input) (t : State) (ready : Ready input t) (truth : t.registers 8 ≡ Number 0) where
  abbrev testing : ℕ → Code
  testing n = Unless jumps.NotEqual 0 (Immediate (pos n)) (Plain (set 8 (pos 1) ∷ []))

  tested : (n a : ℕ) (b : Bool) → immediate Bits64 (pos n) ≡ n → t.registers 0 ≡ Number a → (a == n) ≡ b →
      Decides input (testing n) t b
  unfolding state_after
  tested n a true small answer is =
      enter_decides input jumps.NotEqual 0 (Immediate (pos n)) (Plain (set 8 (pos 1) ∷ [])) t true
      (rw (answer, small, is) refl) (list_decides input (set 8 (pos 1) ∷ []) (goes_to t (t.slot + 1)) true (assumption ready) refl)
  tested n a false small answer is =
      skip_decides input jumps.NotEqual 0 (Immediate (pos n)) (Plain (set 8 (pos 1) ∷ [])) t false
      (rw (answer, small, is) refl) ready truth

module _ (input : Input) (given : IsInput input) (s : State) (ready : Ready input s) where
  length_decides : (p : Part) (n : ℕ) (b : Bool) → FitsPart IsText p → immediate Bits64 (pos n) ≡ n →
      (length_answer (found p input.given) == n) ≡ b → Decides input (length_test_code p (pos n)) s b
  unfolding length_test_code
  length_decides p n b fits small is =
      let m = measures input given s ready p fits in
      then_decides input (Plain (part_code p ++ measure))
      (Unless jumps.NotEqual 0 (Immediate (pos n)) (Plain (set 8 (pos 1) ∷ []))) s m.state b m.runs
      (tested input m.state m.ready m.truth n (length_answer (found p input.given)) b small m.answer is)

  null_decides : (p : Part) → FitsPart IsText p → Decides input (length_test_code p (pos 1)) s (is_null p input.given)
  null_decides p fits = length_decides p 1 (is_null p input.given) fits refl (null_is p input.given)

  absent_decides : (p : Part) → FitsPart IsText p → Decides input (length_test_code p (pos 0)) s (is_absent p input.given)
  absent_decides p fits = length_decides p 0 (is_absent p input.given) fits refl (absent_is p input.given)

-- ---- numbers of 64 bits

half_immediate : (n : ℕ) → n < 2 ^ 32 → immediate Bits32 (cast_signed w32 n) % 2 ^ 32 ≡ n
half_immediate n small = rw (of_z-to_z w32 n small) (omega arith)

put_together : (n high low : ℕ) → n < 2 ^ 64 → high ≡ n / 2 ^ 32 → low ≡ n % 2 ^ 32 →
    (high * 2 ^ 32 % 2 ^ 64 + low) % 2 ^ 64 ≡ n
put_together n high low small x y = omega arith

-- r0 or r1 has a number, and r8 and r0 stay where r1 has it
pub record Puts (input : Input) (list : List Instruction) (s : State) (register n : ℕ) : Type 0 where
  pub ready : Ready input s → Ready input (run_list input list s)
  pub number : (run_list input list s).registers register ≡ Number n
  pub truth : (run_list input list s).registers 8 ≡ s.registers 8
  pub answer : register ≡ 1 → (run_list input list s).registers 0 ≡ s.registers 0

module _ (input : Input) (s : State) (n : ℕ) (small : n < 2 ^ 64) where
  pub puts_answer : Puts input (number_code 0 n) s 0 n
  unfolding state_after
  puts_answer = cond_both (nat_lt n (2 ^ 31)) _ _ (λ list. Puts input list s 0 n)
      (λ e. record {
        ready = λ r. assumption r;
        number = ap Number (small_immediate n (ltb-true n (2 ^ 31) e));
        truth = refl;
        answer = λ other. absurd (omega arith);
      })
      (λ e. record {
        ready = λ r. assumption r;
        number = ap Number (put_together n _ _ small (half_immediate (n / 2 ^ 32) (omega arith)) (half_immediate (n % 2 ^ 32) (omega arith)));
        truth = refl;
        answer = λ other. absurd (omega arith);
      })

  pub puts_other : Puts input (number_code 1 n) s 1 n
  unfolding state_after
  puts_other = cond_both (nat_lt n (2 ^ 31)) _ _ (λ list. Puts input list s 1 n)
      (λ e. record {
        ready = λ r. assumption r;
        number = ap Number (small_immediate n (ltb-true n (2 ^ 31) e));
        truth = refl;
        answer = λ same. refl;
      })
      (λ e. record {
        ready = λ r. assumption r;
        number = ap Number (put_together n _ _ small (half_immediate (n / 2 ^ 32) (omega arith)) (half_immediate (n % 2 ^ 32) (omega arith)));
        truth = refl;
        answer = λ same. refl;
      })

-- ---- comparisons

taken_is : (how : Comparison) (a b : ℕ) → is_taken Bits64 (test_of how) (Number a) (Number b) ≡ compares how a b
taken_is comparison.Equal a b = refl
taken_is comparison.NotEqual a b = refl
taken_is comparison.Less a b = refl
taken_is comparison.LessOrEqual a b = refl
taken_is comparison.Greater a b = refl
taken_is comparison.GreaterOrEqual a b = refl

module _ (input : Input) (how : Comparison) (t : State) (ready : Ready input t) (a n : ℕ)
    (answer : t.registers 0 ≡ Number a) (number : t.registers 1 ≡ Number n) (truth : t.registers 8 ≡ Number 1) where
  cleared : (b : Bool) → compares how a n ≡ b →
      Decides input (Unless (test_of how) 0 (Register 1) (Plain (set 8 (pos 0) ∷ []))) t b
  unfolding state_after
  cleared true is =
      skip_decides input (test_of how) 0 (Register 1) (Plain (set 8 (pos 0) ∷ [])) t true
      (rw (answer, number) (taken_is how a n ∙ is)) ready truth
  cleared false is =
      enter_decides input (test_of how) 0 (Register 1) (Plain (set 8 (pos 0) ∷ [])) t false
      (rw (answer, number) (taken_is how a n ∙ is))
      (list_decides input (set 8 (pos 0) ∷ []) (goes_to t (t.slot + 1)) false (assumption ready) refl)

module _ (input : Input) (how : Comparison) (n : ℕ) (small : n < 2 ^ 64) where
  compared : (t : State) (a : ℕ) → Ready input t → t.registers 8 ≡ Number 1 → t.registers 0 ≡ Number a →
      Decides input (comparing_code how n) t (compares how a n)
  unfolding comparing_code
  compared t a ready truth answer =
      let puts = puts_other input t n small in
      let u = run_list input (number_code 1 n) t in
      let d = cleared input how u (puts.ready ready) a n (puts.answer refl ∙ answer) puts.number (puts.truth ∙ truth)
      (compares how a n) refl in
      then_decides input (Plain (number_code 1 n)) (Unless (test_of how) 0 (Register 1) (Plain (set 8 (pos 0) ∷ []))) t u
      (compares how a n) refl d

  abbrev comparing : Code
  comparing = Unless jumps.Equal 8 (Immediate (pos 0)) (comparing_code how n)

  compares_term : (t : State) (o : Option ℕ) → Ready input t → HasTerm o t → Decides input comparing t (compares_if how o n)
  compares_term t None ready truth =
      skip_decides input jumps.Equal 8 (Immediate (pos 0)) (comparing_code how n) t false (rw truth refl) ready truth
  compares_term t (Some a) ready has =
      enter_decides input jumps.Equal 8 (Immediate (pos 0)) (comparing_code how n) t (compares how a n) (rw has.0 refl)
      (compared (goes_to t (t.slot + 1)) a (assumption ready) has.0 has.1)

-- ---- the value's length

no_so : (b : Bool) → not b ≡ true → b ≡ false
no_so true e = absurd cc
no_so false e = refl

-- a null value's length is none, and its bytes are no bytes
plain_is : (o : Option (List ℕ)) (how : Comparison) (n : ℕ) → compares how 0 n ≡ false →
    compares how (length (unwrap_or o [])) n ≡ compares_if how (option_map length o) n
plain_is None how n e = e
plain_is (Some bytes) how n e = refl

module _ (input : Input) (how : Comparison) (n : ℕ) where
  cleared_by : (register : ℕ) (t : State) (a : ℕ) (b : Bool) → Ready input t → t.registers 8 ≡ Number 1 →
      t.registers register ≡ Number a → n < 2 ^ 31 → compares how a n ≡ b →
      Decides input (Unless (test_of how) register (Immediate (pos n)) (Plain (set 8 (pos 0) ∷ []))) t b
  unfolding state_after
  cleared_by register t a true ready truth number small is =
      let imm = small_immediate n small in
      skip_decides input (test_of how) register (Immediate (pos n)) (Plain (set 8 (pos 0) ∷ [])) t true
      (rw (number, imm) (taken_is how a n ∙ is)) ready truth
  cleared_by register t a false ready truth number small is =
      let imm = small_immediate n small in
      enter_decides input (test_of how) register (Immediate (pos n)) (Plain (set 8 (pos 0) ∷ [])) t false
      (rw (number, imm) (taken_is how a n ∙ is))
      (list_decides input (set 8 (pos 0) ∷ []) (goes_to t (t.slot + 1)) false (assumption ready) refl)

  truth_decides : n < 2 ^ 31 → (s : State) (a : ℕ) → Ready input s → s.registers 0 ≡ Number a →
      Decides input (value_truth_code how n) s (compares how a n)
  unfolding value_truth_code state_after
  truth_decides small s a ready answer =
      let t = run_list input (set 8 (pos 1) ∷ []) s in
      then_decides input (Plain (set 8 (pos 1) ∷ [])) (Unless (test_of how) 0 (Immediate (pos n)) (Plain (set 8 (pos 0) ∷ []))) s t
      (compares how a n) refl (cleared_by 0 t a (compares how a n) (assumption ready) refl answer small refl)

  length_compares : is_plain how n ≡ true → (s : State) → Ready input s →
      Decides input (value_length_code how n) s (compares_if how (option_map length input.given.value) n)
  unfolding value_length_code state_after
  length_compares plain s ready =
      let both = and_parts (not (compares how 0 n)) (nat_lt n (2 ^ 31)) plain in
      let t = run_list input (set 8 (pos 1) ∷ []) s in
      let is = plain_is input.given.value how n (no_so (compares how 0 n) both.0) in
      then_decides input (Plain (set 8 (pos 1) ∷ [])) (Unless (test_of how) 7 (Immediate (pos n)) (Plain (set 8 (pos 0) ∷ []))) s t
      (compares_if how (option_map length input.given.value) n) refl
      (cleared_by 7 t (length (unwrap_or input.given.value [])) (compares_if how (option_map length input.given.value) n)
      (assumption ready) refl ready.length_is (ltb-true n (2 ^ 31) both.1) is)

module _ (input : Input) (given : IsInput input) where
  term_compare_decides : (t : Term) (how : Comparison) (n : ℕ) → FitsTerm IsText t → n < 2 ^ 64 → (s : State) →
      Ready input s → Decides input (term_compare_code t how n) s (compares_if how (term_value t input.given input.place) n)
  unfolding term_compare_code
  term_compare_decides t how n fits small s ready =
      let v = term_values input given s ready t fits in
      let d = compares_term input how n small v.state (term_value t input.given input.place) v.ready v.has in
      then_decides input (term_code t) (Unless jumps.Equal 8 (Immediate (pos 0)) (comparing_code how n)) s v.state
      (compares_if how (term_value t input.given input.place) n) v.runs d

  near_decides : (layout : Layout) (place : ℕ) (how : Comparison) (n : ℕ) → is_at_hand layout place n ≡ true → (s : State) →
      Ready input s → Decides input (value_compare_code layout place how n) s
      (compares_if how (in_bytes (number_at layout place) input.given.value) n)
  unfolding value_compare_code
  near_decides layout place how n at s ready =
      let both = and_parts (is_near layout place) (nat_lt n (2 ^ 31)) at in
      compare_number_decides input given s ready layout place (leb-true (place + layout_size layout) REACH both.0) how n
      (value_truth_code how n) (λ u a r is. truth_decides input how n (ltb-true n (2 ^ 31) both.1) u a r is)

  compare_decides : (t : Term) (how : Comparison) (n : ℕ) → FitsTerm IsText t → n < 2 ^ 64 → (s : State) →
      Ready input s → Decides input (compare_code t how n) s (compares_if how (term_value t input.given input.place) n)
  unfolding compare_code
  compare_decides (term.Length part.Value) how n fits small s ready = cond_both (is_plain how n) (value_length_code how n)
      (term_compare_code (term.Length part.Value) how n)
      (λ code. Decides input code s (compares_if how (option_map length input.given.value) n))
      (λ plain. length_compares input how n plain s ready)
      (λ other. term_compare_decides (term.Length part.Value) how n fits small s ready)
  compare_decides (term.Number layout part.Value place) how n fits small s ready = cond_both (is_at_hand layout place n)
      (value_compare_code layout place how n) (term_compare_code (term.Number layout part.Value place) how n)
      (λ code. Decides input code s (compares_if how (in_bytes (number_at layout place) input.given.value) n))
      (λ at. near_decides layout place how n at s ready)
      (λ other. term_compare_decides (term.Number layout part.Value place) how n fits small s ready)
  compare_decides t how n fits small s ready = term_compare_decides t how n fits small s ready

  test_decides : (t : Tests) → FitsTest IsText t → (s : State) → Ready input s →
      Decides input (test_code t) s (test_holds t input.given input.place)
  unfolding test_code
  test_decides (test.Null p) fits s ready = null_decides input given s ready p fits
  test_decides (test.Absent p) fits s ready = absent_decides input given s ready p fits
  test_decides (test.Equal p text) fits s ready = equal_test input given s ready p text fits.0 fits.1
  test_decides (test.Begins p text) fits s ready = begins_test input given s ready p text fits.0 fits.1
  test_decides (test.Has p text) fits s ready = has_decides input given s ready p text fits.0 fits.1
  test_decides (test.Compare t how n) fits s ready =
      compare_decides t how n fits.0 (omega (arith, fits.1.high_is)) s ready

-- ---- conditions

module _ (input : Input) (t : State) (ready : Ready input t) where
  turned : (b : Bool) → t.registers 8 ≡ Number (bit_of b) → Decides input (Plain (change Xor 8 (pos 1) ∷ [])) t (not b)
  unfolding state_after
  turned true truth = list_decides input (change Xor 8 (pos 1) ∷ []) t false (assumption ready) (rw truth refl)
  turned false truth = list_decides input (change Xor 8 (pos 1) ∷ []) t true (assumption ready) (rw truth refl)

  -- a condition behind `and` and `or`, where the one before it does not decide
  both_decides : (other : Code) (b c : Bool) → t.registers 8 ≡ Number (bit_of b) →
      ((u : State) → Ready input u → Decides input other u c) →
      Decides input (Unless jumps.Equal 8 (Immediate (pos 0)) other) t (b && c)
  both_decides other false c truth go =
      skip_decides input jumps.Equal 8 (Immediate (pos 0)) other t false (rw truth refl) ready truth
  both_decides other true c truth go =
      enter_decides input jumps.Equal 8 (Immediate (pos 0)) other t c (rw truth refl) (go (goes_to t (t.slot + 1)) (assumption ready))

  either_decides : (other : Code) (b c : Bool) → t.registers 8 ≡ Number (bit_of b) →
      ((u : State) → Ready input u → Decides input other u c) →
      Decides input (Unless jumps.NotEqual 8 (Immediate (pos 0)) other) t (b || c)
  either_decides other true c truth go =
      skip_decides input jumps.NotEqual 8 (Immediate (pos 0)) other t true (rw truth refl) ready truth
  either_decides other false c truth go =
      enter_decides input jumps.NotEqual 8 (Immediate (pos 0)) other t c (rw truth refl) (go (goes_to t (t.slot + 1)) (assumption ready))

module _ (input : Input) (given : IsInput input) where
  pub condition_decides : (c : Formula) → HasFitting IsText c → (s : State) →
      Ready input s → Decides input (condition_code c) s (holds c input.given input.place)
  unfolding condition_code
  condition_decides (Single t) fits s ready = test_decides input given t fits s ready
  condition_decides (Negated inner) fits s ready =
      let b = holds inner input.given input.place in
      let d = condition_decides inner fits s ready in
      then_decides input (condition_code inner) (Plain (change Xor 8 (pos 1) ∷ [])) s d.state (not b) d.runs
      (turned input d.state d.ready b d.truth)
  condition_decides (Both one other) fits s ready =
      let b = holds one input.given input.place in
      let c = holds other input.given input.place in
      let d = condition_decides one fits.0 s ready in
      then_decides input (condition_code one) (Unless jumps.Equal 8 (Immediate (pos 0)) (condition_code other)) s d.state
      (b && c) d.runs (both_decides input d.state d.ready (condition_code other) b c d.truth
      (λ u clear. condition_decides other fits.1 u clear))
  condition_decides (Either one other) fits s ready =
      let b = holds one input.given input.place in
      let c = holds other input.given input.place in
      let d = condition_decides one fits.0 s ready in
      then_decides input (condition_code one) (Unless jumps.NotEqual 8 (Immediate (pos 0)) (condition_code other)) s d.state
      (b || c) d.runs (either_decides input d.state d.ready (condition_code other) b c d.truth
      (λ u clear. condition_decides other fits.1 u clear))
