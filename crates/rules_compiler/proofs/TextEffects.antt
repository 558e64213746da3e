-- What the code of tests of texts does.
use Rattle.std.proofs.Common.{◌≡◌, ℕ, ◌+◌, ◌≤◌, pos, Bool, true, false}
use Rattle.std.proofs.Common.{◌&&◌, ◌==◌, nat_le, if◌then◌else◌, List, [], ◌∷◌, ◌++◌, length, Option, Some}
use Rattle.std.proofs.Common.{None, refl, sym, ap, ◌∙◌, subst, arith}
use Rattle.std.proofs.lemmas.Bool.{cond_both, ne_eqb}
use Rattle.machine_spec.specs.declared.instruction.Source.TheVariants.{Immediate}
use Rattle.machine_spec.specs.declared.operation.{Test.Test as Jumps}
use Rattle.machine_spec.specs.declared.operation.Width.TheVariants.{Bits64}
use Rattle.machine_spec.specs.declared.operation.Test.TheVariants as jumps
use Rattle.machine_spec.specs.Values.{Number, is_taken, immediate}
use Rattle.machine_spec.specs.Machine.{Input, State, state_after, goes_to}
use Rattle.machine_spec.specs.Signatures.{helper_among}
use Rattle.machine_spec.specs.{Parts.length_answer, Parts.part_in}
use Rattle.verifier_spec.specs.StandsFor.{IsInput}
use Rattle.rules.specs.declared.{rule.Part.Part}
use Rattle.rules.specs.Meaning.{test_equals, test_begins, passes_if}
use Rattle.rules.specs.Limits.{IsText, FitsPart}
use Rattle.rules_compiler.specs.Code.{Code, Plain, Then, Unless}
use Rattle.rules_compiler.specs.Pieces.{set, word_count, text_code, part_code}
use Rattle.rules_compiler.specs.Tests.{value_test_code, is_short, equal_code, begins_code}
use Rattle.rules_compiler.proofs.ValueEffects.{equal_texts, value_equal_decides, value_begins_decides}
use Rattle.rules.specs.declared.rule.Part.TheVariants as part
use Rattle.rules_compiler.specs.Tests.{sized, stands, text_test_code}
use Rattle.rules_compiler.specs.declared.pieces.TheConstants.{NEAR}
use Rattle.rules_compiler.proofs.Ready.{Ready, small_immediate}
use Rattle.rules_compiler.proofs.Texts.{near_stands, runs_both, HoldsText, text_has, text_read, bytes_of_text}
use Rattle.rules_compiler.proofs.Parts.{found, bytes_found, part_run}
use Rattle.machine_spec.specs.{Parts.part_numbered, Places.stand_at, Values.result_of}
use Rattle.machine_spec.specs.declared.operation.Operation.TheVariants.{Add}
use Rattle.std.specs.{Str.bytes_eq, List.starts_with}
use Rattle.std.proofs.Common.{nat_eq, unwrap_or}
use Rattle.std.proofs.lemmas.Bool.{le-leb}
use Rattle.rules_compiler.proofs.Walks.{On, run_list, run}
use Rattle.rules_compiler.proofs.Courses.{Decides, bit_of}
use Rattle.rules_compiler.proofs.Courses.{bytes_of_found, enter_decides, list_decides}
use Rattle.rules_compiler.proofs.Courses.{skip_decides, then_decides}

-- r6 has the number of a part, and r8 says whether it begins with a text
pub record Asks (input : Input) (p : Part) (text : List ℕ) (s : State) : Type 0 where
  pub state : State
  pub runs : run input (Plain (part_code p ++ (text_code NEAR text ++ stands (length text)))) s ≡ On state
  pub ready : Ready input state
  pub number : ℕ
  pub is : state.registers 6 ≡ Number number
  pub names : part_in input.given (part_numbered number) ≡ found p input.given
  pub truth : state.registers 8
      ≡ Number (bit_of (starts_with nat_eq (bytes_of_found (found p input.given)) text))

bit_is : (b : Bool) → (if b then 1 else 0) ≡ bit_of b
bit_is true = refl
bit_is false = refl

begins_is : (part text : List ℕ) → (if stand_at part text 0 then 1 else 0) ≡ bit_of (starts_with nat_eq part text)
begins_is part text =
    let low = le-leb 0 (length part) (omega arith) in
    rw low (bit_is (starts_with nat_eq part text))

module _ (input : Input) (t : State) (ready : Ready input t) (text : List ℕ) (few : length text ≤ 255) (number : ℕ)
    (is : t.registers 6 ≡ Number number) (holds : HoldsText t.stack text (word_count (length text))) where
  asked_ready : Ready input (run_list input (stands (length text)) t)
  unfolding state_after helper_among
  asked_ready = assumption ready

  asked_number : (run_list input (stands (length text)) t).registers 6 ≡ Number number
  unfolding state_after helper_among
  asked_number = is

  asked_truth : (run_list input (stands (length text)) t).registers 8
      ≡ Number (if stand_at (bytes_of_found (part_in input.given (part_numbered number))) text 0 then 1 else 0)
  unfolding state_after helper_among
  asked_truth =
      let frame = ready.frame_is in
      let read = text_read 256 input t.stack text (immediate Bits64 (pos (length text)))
      (result_of Bits64 Add (t.registers 10) (Number (immediate Bits64 NEAR))) (Number (immediate Bits64 (pos (length text))))
      holds (rw frame refl) refl (small_immediate (length text) (omega arith)) in
      rw (is, read) refl

asks : (input : Input) → IsInput input → (s : State) → Ready input s → (p : Part) (text : List ℕ) → FitsPart IsText p →
    IsText text → Asks input p text s
asks input given s ready p text fits is =
    let r = part_run input given p fits s ready in
    let t = run_list input (part_code p) s in
    let has = text_has input near_stands text (bytes_of_text text is) is.few t r.ready in
    let u = run_list input (text_code NEAR text) t in
    let six = has.kept 6 ∙ r.is in
    let one = runs_both input (part_code p) (text_code NEAR text ++ stands (length text)) s in
    let two = runs_both input (text_code NEAR text) (stands (length text)) t in
    record {
      state = run_list input (stands (length text)) u;
      runs = ap On (one ∙ two);
      ready = asked_ready input u has.ready text is.few r.number six has.holds;
      number = r.number;
      is = asked_number input u has.ready text is.few r.number six has.holds;
      names = r.names;
      truth = asked_truth input u has.ready text is.few r.number six has.holds
          ∙ ap (λ (o : Option (Option (List ℕ))). Number (if stand_at (bytes_of_found o) text 0 then 1 else 0)) r.names
          ∙ ap Number (begins_is (bytes_of_found (found p input.given)) text);
    }

module _ (input : Input) (t : State) (ready : Ready input t) (how : Jumps) (n a : ℕ)
    (small : immediate Bits64 (pos n) ≡ n) (answer : t.registers 0 ≡ Number a) (truth : t.registers 8 ≡ Number 1) where
  asked_decides : (b : Bool) → is_taken Bits64 how (Number a) (Number n) ≡ b →
      Decides input (Unless how 0 (Immediate (pos n)) (Plain (set 8 (pos 0) ∷ []))) t b
  unfolding state_after
  asked_decides true is = skip_decides input how 0 (Immediate (pos n)) (Plain (set 8 (pos 0) ∷ [])) t true
      (rw (answer, small) is) ready truth
  asked_decides false is = enter_decides input how 0 (Immediate (pos n)) (Plain (set 8 (pos 0) ∷ [])) t false
      (rw (answer, small) is) (list_decides input (set 8 (pos 0) ∷ []) (goes_to t (t.slot + 1)) false (assumption ready) refl)

module _ (input : Input) (t : State) (ready : Ready input t) (number : ℕ) (is : t.registers 6 ≡ Number number) where
  sized_ready : Ready input (run_list input sized t)
  unfolding state_after helper_among
  sized_ready = assumption ready

  sized_truth : (run_list input sized t).registers 8 ≡ t.registers 8
  unfolding state_after helper_among
  sized_truth = refl

  sized_answer : (run_list input sized t).registers 0 ≡ Number (length_answer (part_in input.given (part_numbered number)))
  unfolding state_after helper_among
  sized_answer = rw is refl

and_false : (b : Bool) → (b && false) ≡ false
and_false true = refl
and_false false = refl

and_true : (b : Bool) → (b && true) ≡ b
and_true true = refl
and_true false = refl

text_decides : (input : Input) → IsInput input → (s : State) → Ready input s → (p : Part) (text : List ℕ) (how : Jumps)
    (n : ℕ) → FitsPart IsText p → IsText text → immediate Bits64 (pos n) ≡ n → Decides input (text_test_code p text how n) s
    (is_taken Bits64 how (Number (length_answer (found p input.given))) (Number n)
    && starts_with nat_eq (bytes_of_found (found p input.given)) text)
unfolding text_test_code
text_decides input given s ready p text how n fits is small =
    let a = asks input given s ready p text fits is in
    let b = is_taken Bits64 how (Number (length_answer (found p input.given))) (Number n) in
    let c = starts_with nat_eq (bytes_of_found (found p input.given)) text in
    then_decides input (Plain (part_code p ++ (text_code NEAR text ++ stands (length text))))
    (Unless jumps.Equal 8 (Immediate (pos 0)) (Then (Plain sized)
    (Unless how 0 (Immediate (pos n)) (Plain (set 8 (pos 0) ∷ []))))) s a.state (b && c) a.runs
    (begun a.state a.ready a.number a.is a.names c a.truth)
  where
    begun : (t : State) → Ready input t → (number : ℕ) → t.registers 6 ≡ Number number →
        part_in input.given (part_numbered number) ≡ found p input.given → (c : Bool) → t.registers 8 ≡ Number (bit_of c) →
        Decides input (Unless jumps.Equal 8 (Immediate (pos 0)) (Then (Plain sized)
        (Unless how 0 (Immediate (pos n)) (Plain (set 8 (pos 0) ∷ []))))) t
        (is_taken Bits64 how (Number (length_answer (found p input.given))) (Number n) && c)
    begun t clear number six names false truth =
        let rest : Code = Then (Plain sized) (Unless how 0 (Immediate (pos n)) (Plain (set 8 (pos 0) ∷ []))) in
        let b = is_taken Bits64 how (Number (length_answer (found p input.given))) (Number n) in
        subst (Decides input (Unless jumps.Equal 8 (Immediate (pos 0)) rest) t) (sym (and_false b))
        (skip_decides input jumps.Equal 8 (Immediate (pos 0)) rest t false (rw truth refl) clear truth)
    begun t clear number six names true truth =
        let rest : Code = Then (Plain sized) (Unless how 0 (Immediate (pos n)) (Plain (set 8 (pos 0) ∷ []))) in
        let b = is_taken Bits64 how (Number (length_answer (found p input.given))) (Number n) in
        let u = goes_to t (t.slot + 1) in
        let v = run_list input sized u in
        let on : Ready input u = assumption clear in
        let answer = sized_answer input u on number six
        ∙ ap (λ (o : Option (Option (List ℕ))). Number (length_answer o)) names in
        subst (Decides input (Unless jumps.Equal 8 (Immediate (pos 0)) rest) t) (sym (and_true b))
        (enter_decides input jumps.Equal 8 (Immediate (pos 0)) rest t b (rw truth refl)
        (then_decides input (Plain sized) (Unless how 0 (Immediate (pos n)) (Plain (set 8 (pos 0) ∷ []))) u v b refl
        (asked_decides input v (sized_ready input u on number six) how n (length_answer (found p input.given)) small answer
        (sized_truth input u on number six ∙ truth) b refl)))

equal_is : (o : Option (Option (List ℕ))) (text : List ℕ) →
    ((length_answer o == length text + 2) && starts_with nat_eq (bytes_of_found o) text)
    ≡ passes_if (λ bytes. bytes_eq bytes text) (unwrap_or o None)
equal_is None text = let test = ne_eqb 0 (length text + 2) (λ e. omega arith) in rw test refl
equal_is (Some None) text = let test = ne_eqb 1 (length text + 2) (λ e. omega arith) in rw test refl
equal_is (Some (Some bytes)) text = equal_texts bytes text

begin_is : (o : Option (Option (List ℕ))) (text : List ℕ) →
    (nat_le 2 (length_answer o) && starts_with nat_eq (bytes_of_found o) text)
    ≡ passes_if (λ bytes. starts_with nat_eq bytes text) (unwrap_or o None)
begin_is None text = refl
begin_is (Some None) text = refl
begin_is (Some (Some bytes)) text = let test = le-leb 2 (length bytes + 2) (omega arith) in rw test refl

module _ (input : Input) (given : IsInput input) (s : State) (ready : Ready input s) where
  equal_decides : (p : Part) (text : List ℕ) → FitsPart IsText p → IsText text →
      Decides input (text_test_code p text jumps.Equal (length text + 2)) s (test_equals p text input.given)
  equal_decides p text fits is =
      let few = is.few in
      subst (Decides input (text_test_code p text jumps.Equal (length text + 2)) s)
      (equal_is (found p input.given) text
      ∙ ap (passes_if (λ bytes. bytes_eq bytes text)) (sym (bytes_found p input.given)))
      (text_decides input given s ready p text jumps.Equal (length text + 2) fits is
      (small_immediate (length text + 2) (omega arith)))

  begin_decides : (p : Part) (text : List ℕ) → FitsPart IsText p → IsText text →
      Decides input (text_test_code p text jumps.GreaterOrEqual 2) s (test_begins p text input.given)
  begin_decides p text fits is =
      subst (Decides input (text_test_code p text jumps.GreaterOrEqual 2) s)
      (begin_is (found p input.given) text
      ∙ ap (passes_if (λ bytes. starts_with nat_eq bytes text)) (sym (bytes_found p input.given)))
      (text_decides input given s ready p text jumps.GreaterOrEqual 2 fits is refl)

-- a short text of the value is compared byte by byte
short_some : (text : List ℕ) → is_short text ≡ true → 1 ≤ length text
short_some [] short = absurd cc
short_some (byte ∷ text) short = omega arith

module _ (input : Input) (given : IsInput input) (s : State) (ready : Ready input s) where
  pub equal_test : (p : Part) (text : List ℕ) → FitsPart IsText p → IsText text →
      Decides input (equal_code p text) s (test_equals p text input.given)
  unfolding equal_code
  equal_test part.Value text fits is = cond_both (is_short text) (value_test_code text jumps.NotEqual)
      (text_test_code part.Value text jumps.Equal (length text + 2))
      (λ code. Decides input code s (test_equals part.Value text input.given))
      (λ short. value_equal_decides input given s ready text is (short_some text short))
      (λ long. equal_decides input given s ready part.Value text fits is)
  equal_test part.Key text fits is = equal_decides input given s ready part.Key text fits is
  equal_test (part.Header key) text fits is = equal_decides input given s ready (part.Header key) text fits is

  pub begins_test : (p : Part) (text : List ℕ) → FitsPart IsText p → IsText text →
      Decides input (begins_code p text) s (test_begins p text input.given)
  unfolding begins_code
  begins_test part.Value text fits is = cond_both (is_short text) (value_test_code text jumps.Less)
      (text_test_code part.Value text jumps.GreaterOrEqual 2)
      (λ code. Decides input code s (test_begins part.Value text input.given))
      (λ short. value_begins_decides input given s ready text is (short_some text short))
      (λ long. begin_decides input given s ready part.Value text fits is)
  begins_test part.Key text fits is = begin_decides input given s ready part.Key text fits is
  begins_test (part.Header key) text fits is = begin_decides input given s ready (part.Header key) text fits is
