-- What the code does of short texts that are read in the key itself, before a helper is called.
use Rattle.std.proofs.Common.{◌≡◌, ℕ, suc, ◌+◌, ◌<◌, ◌≤◌, pos, Bool, true, false, not}
use Rattle.std.proofs.Common.{◌&&◌, ◌==◌, nat_eq, nat_lt, List, [], ◌∷◌, length, drop, get_or, slice_get}
use Rattle.std.proofs.Common.{unwrap_or, refl, sym, ap, ◌∙◌, subst, arith, ⊎_elim}
use Rattle.std.specs.{List.AllByRecursion, List.starts_with}
use Rattle.std.proofs.{Math.Seq.drop-cons}
use Rattle.std.proofs.lemmas.Bool.{ne_eqb, eq-eqb, cases_eq, cases_lt, lt-ltb}
use Rattle.machine_spec.specs.declared.{instruction.Size.Size}
use Rattle.machine_spec.specs.declared.instruction.Instruction.TheVariants.{Load}
use Rattle.machine_spec.specs.declared.instruction.Extension.TheVariants.{Zero}
use Rattle.machine_spec.specs.declared.instruction.Source.TheVariants.{Immediate}
use Rattle.machine_spec.specs.declared.operation.Width.TheVariants.{Bits64}
use Rattle.machine_spec.specs.declared.operation.{Test.Test as Jumps}
use Rattle.machine_spec.specs.declared.operation.Test.TheVariants as jumps
use Rattle.machine_spec.specs.Values.{Number, is_taken}
use Rattle.machine_spec.specs.Machine.{Input, State, state_after, goes_to, bytes_of}
use Rattle.verifier_spec.specs.StandsFor.{IsInput}
use Rattle.rules.specs.declared.rule.Part.TheVariants as part
use Rattle.rules.specs.Meaning.{test_equals, test_begins}
use Rattle.rules.specs.Limits.{IsText}
use Rattle.rules_compiler.specs.Code.{Plain, Unless}
use Rattle.rules_compiler.specs.Pieces.{set}
use Rattle.rules_compiler.specs.Tests.{match_code, match_test_code}
use Rattle.rules_compiler.proofs.Ready.{small_immediate}
use Rattle.rules_compiler.proofs.Walks.{run_list}
use Rattle.std.proofs.Common.{nat_le}
use Rattle.std.proofs.lemmas.Bool.{and_parts, ltb-true}
use Rattle.machine_spec.specs.declared.{instruction.Region.Region, limits.TheConstants.STACK_SIZE}
use Rattle.machine_spec.specs.declared.instruction.Instruction.{Instruction}
use Rattle.machine_spec.specs.declared.instruction.Source.{Source}
use Rattle.machine_spec.specs.declared.operation.Operation.TheVariants.{Xor}
use Rattle.machine_spec.specs.Values.{Address, operand}
use Rattle.machine_spec.specs.Machine.{length_of}
use Rattle.rules.specs.declared.{rule.Test.Test as Tests}
use Rattle.rules.specs.declared.rule.Test.TheVariants as test
use Rattle.rules.specs.Formulas.{Formula, Single, Negated, Both, Either}
use Rattle.rules.specs.Meaning.{test_holds, holds}
use Rattle.rules.specs.Limits.{FitsTest, HasFitting}
use Rattle.rules_compiler.specs.Code.{Code, Then, instructions}
use Rattle.rules_compiler.specs.Pieces.{change}
use Rattle.rules_compiler.specs.Tests.{is_short}
use Rattle.rules_compiler.specs.declared.values.TheConstants.{SHORT}
use Rattle.rules_compiler.specs.Rules.{asks_key, asks_single, asks_alone, key_test_code, key_single_code, key_condition_code}
use Rattle.rules_compiler.proofs.Ready.{silent}
use Rattle.rules_compiler.proofs.Walks.{On, run}
use Rattle.rules_compiler.proofs.Courses.{bit_of, then_runs, skipped, entered}
use Rattle.rules_compiler.proofs.ValueEffects.{got, equal_is, begins_is}

-- ---- what holds before a helper is called

-- nothing is emitted, and r1 to r4 and r10 have what they have at entry
pub record KeyReady (input : Input) (s : State) : Type 0 where
  pub none : s.emitted ≡ silent []
  pub value_is : s.registers 1 ≡ Address Region.Value (pos 0)
  pub value_long : s.registers 2 ≡ Number (length_of input Region.Value)
  pub key_is : s.registers 3 ≡ Address Region.Key (pos 0)
  pub key_long : s.registers 4 ≡ Number (length_of input Region.Key)
  pub frame_is : s.registers 10 ≡ Address Region.Stack (pos STACK_SIZE)

-- r8 says whether something holds
pub record KeyDecides (input : Input) (code : Code) (s : State) (b : Bool) : Type 0 where
  pub state : State
  pub runs : run input code s ≡ On state
  pub ready : KeyReady input state
  pub truth : state.registers 8 ≡ Number (bit_of b)

module _ (input : Input) where
  key_skip_decides : (how : Jumps) (register : ℕ) (source : Source) (block : Code) (s : State) (b : Bool) →
      is_taken Bits64 how (s.registers register) (operand Bits64 s.registers source) ≡ true → KeyReady input s →
      s.registers 8 ≡ Number (bit_of b) → KeyDecides input (Unless how register source block) s b
  key_skip_decides how register source block s b taken ready truth = record {
    state = goes_to s (s.slot + 1 + length (instructions block));
    runs = skipped input how register source block s taken;
    ready = assumption ready;
    truth = truth;
  }

  key_enter_decides : (how : Jumps) (register : ℕ) (source : Source) (block : Code) (s : State) (b : Bool) →
      is_taken Bits64 how (s.registers register) (operand Bits64 s.registers source) ≡ false →
      KeyDecides input block (goes_to s (s.slot + 1)) b → KeyDecides input (Unless how register source block) s b
  key_enter_decides how register source block s b taken d = record {
    state = d.state;
    runs = entered input how register source block s taken ∙ d.runs;
    ready = d.ready;
    truth = d.truth;
  }

  key_list_decides : (list : List Instruction) (s : State) (b : Bool) → KeyReady input (run_list input list s) →
      (run_list input list s).registers 8 ≡ Number (bit_of b) → KeyDecides input (Plain list) s b
  key_list_decides list s b ready truth =
      record { state = run_list input list s; runs = refl; ready = ready; truth = truth }

  key_then_decides : (first next : Code) (s t : State) (b : Bool) → run input first s ≡ On t → KeyDecides input next t b →
      KeyDecides input (Then first next) s b
  key_then_decides first next s t b runs d = record {
    state = d.state;
    runs = then_runs input first next s t (On d.state) runs d.runs;
    ready = d.ready;
    truth = d.truth;
  }

-- ---- texts

module _ (input : Input) (given : IsInput input) where
  byte_read : (s : State) (place : ℕ) → KeyReady input s →
      (run_list input (Load Size.Byte Zero 0 3 (pos place) ∷ []) s).registers 0 ≡ Number (get_or (bytes_of input.given.key) place 0)
  unfolding state_after
  byte_read s place ready =
      let sum : 0 + place ≡ place = omega arith in
      let one : unwrap_or (slice_get (bytes_of input.given.key) place) 0 + 0 ≡ get_or (bytes_of input.given.key) place 0 =
      omega (arith, got (bytes_of input.given.key) place) in
      let base = ready.key_is in
      rw (base, sum) (ap Number one)

  byte_ready : (s : State) (place : ℕ) → KeyReady input s → KeyReady input (run_list input (Load Size.Byte Zero 0 3 (pos place) ∷ []) s)
  unfolding state_after
  byte_ready s place ready = assumption ready

  byte_truth : (s : State) (place : ℕ) →
      (run_list input (Load Size.Byte Zero 0 3 (pos place) ∷ []) s).registers 8 ≡ s.registers 8
  unfolding state_after
  byte_truth s place = refl

  first_is : (x byte : ℕ) (rest text bytes : List ℕ) → bytes ≡ x ∷ rest →
      starts_with nat_eq bytes (byte ∷ text) ≡ (nat_eq byte x && starts_with nat_eq rest text)
  first_is x byte rest text bytes is = rw is refl

  one_ready : (s : State) → KeyReady input s → KeyReady input (run_list input (set 8 (pos 1) ∷ []) s)
  unfolding state_after
  one_ready s ready = assumption ready

  one_truth : (s : State) → (run_list input (set 8 (pos 1) ∷ []) s).registers 8 ≡ Number 1
  unfolding state_after
  one_truth s = refl

  key_match_decides : (text : List ℕ) (place : ℕ) (s : State) → KeyReady input s → s.registers 8 ≡ Number 0 →
      place + length text ≤ length (bytes_of input.given.key) → AllByRecursion (λ byte. byte < 256) text →
      KeyDecides input (match_code 3 text place) s (starts_with nat_eq (drop place (bytes_of input.given.key)) text)
  unfolding match_code
  key_match_decides [] place s ready truth within bytes = key_list_decides input (set 8 (pos 1) ∷ []) s true (one_ready s ready) (one_truth s)
  key_match_decides (byte ∷ text) place s ready truth within bytes =
      let all = bytes_of input.given.key in
      let x = get_or (bytes_of input.given.key) place 0 in
      let t = run_list input (Load Size.Byte Zero 0 3 (pos place) ∷ []) s in
      let block = match_code 3 text (place + 1) in
      let rest = drop (suc place) (bytes_of input.given.key) in
      let parts = drop-cons (bytes_of input.given.key) place 0 (omega arith) in
      let one : place + 1 ≡ suc place = omega arith in
      let imm = small_immediate byte (omega (arith, bytes.0)) in
      let answer = byte_read s place ready in
      let clear = byte_ready s place ready in
      let zero_is = byte_truth s place ∙ truth in
      key_then_decides input (Plain (Load Size.Byte Zero 0 3 (pos place) ∷ [])) (Unless jumps.NotEqual 0 (Immediate (pos byte)) block) s t
      (starts_with nat_eq (drop place (bytes_of input.given.key)) (byte ∷ text)) refl
      (subst (KeyDecides input (Unless jumps.NotEqual 0 (Immediate (pos byte)) (match_code 3 text (place + 1))) t)
      (sym (first_is x byte rest text (drop place (bytes_of input.given.key)) parts)) (⊎_elim
      (λ same.
      let test = eq-eqb x byte same in
      let turned = eq-eqb byte x (sym same) in
      rw turned (key_enter_decides input jumps.NotEqual 0 (Immediate (pos byte)) block t (starts_with nat_eq rest text)
      (rw (answer, imm, test) refl)
      (subst (λ (n : ℕ). KeyDecides input (match_code 3 text (place + 1)) (goes_to t (t.slot + 1))
      (starts_with nat_eq (drop n (bytes_of input.given.key)) text)) one
      (key_match_decides text (place + 1) (goes_to t (t.slot + 1)) (assumption clear) zero_is (omega arith) bytes.1))))
      (λ apart.
      let test = ne_eqb x byte apart in
      let turned = ne_eqb byte x (λ e. apart (sym e)) in
      rw turned (key_skip_decides input jumps.NotEqual 0 (Immediate (pos byte)) block t false (rw (answer, imm, test) refl) clear zero_is))
      (cases_eq x byte)))

  zero_ready : (s : State) → KeyReady input s → KeyReady input (run_list input (set 8 (pos 0) ∷ []) s)
  unfolding state_after
  zero_ready s ready = assumption ready

  zero_truth : (s : State) → (run_list input (set 8 (pos 0) ∷ []) s).registers 8 ≡ Number 0
  unfolding state_after
  zero_truth s = refl

  -- a text of the key, where a test of the key's length leaves it out or not
  key_text_decides : (text : List ℕ) (how : Jumps) (b : Bool) → IsText text → (s : State) → KeyReady input s →
      is_taken Bits64 how (Number (length (bytes_of input.given.key))) (Number (length text)) ≡ b →
      (b ≡ false → length text ≤ length (bytes_of input.given.key)) →
      KeyDecides input (match_test_code 3 4 text how) s (not b && starts_with nat_eq (bytes_of input.given.key) text)
  unfolding match_test_code
  key_text_decides text how true is s ready taken within =
      let t = run_list input (set 8 (pos 0) ∷ []) s in
      let clear = zero_ready s ready in
      let few = is.few in
      let imm = small_immediate (length text) (omega arith) in
      let long = clear.key_long in
      key_then_decides input (Plain (set 8 (pos 0) ∷ [])) (Unless how 4 (Immediate (pos (length text))) (match_code 3 text 0)) s t false refl
      (key_skip_decides input how 4 (Immediate (pos (length text))) (match_code 3 text 0) t false (rw (long, imm) taken) clear (zero_truth s))
  key_text_decides text how false is s ready taken within =
      let t = run_list input (set 8 (pos 0) ∷ []) s in
      let clear = zero_ready s ready in
      let few = is.few in
      let imm = small_immediate (length text) (omega arith) in
      let long = clear.key_long in
      let enough = within refl in
      let b = starts_with nat_eq (bytes_of input.given.key) text in
      key_then_decides input (Plain (set 8 (pos 0) ∷ [])) (Unless how 4 (Immediate (pos (length text))) (match_code 3 text 0)) s t b refl
      (key_enter_decides input how 4 (Immediate (pos (length text))) (match_code 3 text 0) t b (rw (long, imm) taken)
      (key_match_decides text 0 (goes_to t (t.slot + 1)) (assumption clear) (zero_truth s) (omega arith) is.bytes))

module _ (input : Input) (given : IsInput input) (s : State) (ready : KeyReady input s) (text : List ℕ) (is : IsText text)
    (some : 1 ≤ length text) where
  pub key_equal_decides : KeyDecides input (match_test_code 3 4 text jumps.NotEqual) s (test_equals part.Key text input.given)
  key_equal_decides =
      subst (KeyDecides input (match_test_code 3 4 text jumps.NotEqual) s) (equal_is input.given.key text some)
      (key_text_decides input given text jumps.NotEqual (not (length (bytes_of input.given.key) == length text)) is s ready refl
      (same_length (length (bytes_of input.given.key)) (length text)))
    where
      same_length : (n m : ℕ) → not (n == m) ≡ false → m ≤ n
      same_length n m e = ⊎_elim (λ same. omega arith)
          (λ apart. let test = ne_eqb n m apart in absurd (cc)) (cases_eq n m)

  pub key_begins_decides : KeyDecides input (match_test_code 3 4 text jumps.Less) s (test_begins part.Key text input.given)
  key_begins_decides =
      subst (KeyDecides input (match_test_code 3 4 text jumps.Less) s) (begins_is input.given.key text some)
      (key_text_decides input given text jumps.Less (nat_lt (length (bytes_of input.given.key)) (length text)) is s ready refl
      (not_less (length (bytes_of input.given.key)) (length text)))
    where
      not_less : (n m : ℕ) → nat_lt n m ≡ false → m ≤ n
      not_less n m e = ⊎_elim
          (λ less. let test = lt-ltb n m less in absurd (cc)) (λ enough. enough) (cases_lt n m)

-- ---- conditions

some_bytes : (text : List ℕ) → is_short text ≡ true → 1 ≤ length text
some_bytes text short =
    let some = ltb-true 0 (length text) (and_parts (nat_lt 0 (length text)) (nat_le (length text) SHORT) short).0 in omega arith

module _ (input : Input) (given : IsInput input) (s : State) (ready : KeyReady input s) where
  test_decides : (t : Tests) → FitsTest IsText t → asks_key t ≡ true →
      KeyDecides input (key_test_code t) s (test_holds t input.given input.place)
  unfolding key_test_code
  test_decides (test.Equal part.Key text) fits asks =
      key_equal_decides input given s ready text fits.1 (some_bytes text asks)
  test_decides (test.Begins part.Key text) fits asks =
      key_begins_decides input given s ready text fits.1 (some_bytes text asks)
  test_decides (test.Equal part.Value text) fits asks = absurd cc
  test_decides (test.Equal (part.Header name) text) fits asks = absurd cc
  test_decides (test.Begins part.Value text) fits asks = absurd cc
  test_decides (test.Begins (part.Header name) text) fits asks = absurd cc
  test_decides (test.Null p) fits asks = absurd cc
  test_decides (test.Absent p) fits asks = absurd cc
  test_decides (test.Has p text) fits asks = absurd cc
  test_decides (test.Compare t how n) fits asks = absurd cc

  single_decides : (c : Formula) → HasFitting IsText c → asks_single c ≡ true →
      KeyDecides input (key_single_code c) s (holds c input.given input.place)
  unfolding key_single_code
  single_decides (Single t) fits asks = test_decides t fits asks
  single_decides (Negated inner) fits asks = absurd cc
  single_decides (Both one other) fits asks = absurd cc
  single_decides (Either one other) fits asks = absurd cc

turned : (input : Input) (t : State) → KeyReady input t → (b : Bool) → t.registers 8 ≡ Number (bit_of b) →
    KeyDecides input (Plain (change Xor 8 (pos 1) ∷ [])) t (not b)
unfolding state_after
turned input t ready true truth = key_list_decides input (change Xor 8 (pos 1) ∷ []) t false (assumption ready) (rw truth refl)
turned input t ready false truth = key_list_decides input (change Xor 8 (pos 1) ∷ []) t true (assumption ready) (rw truth refl)

pub key_condition_decides : (input : Input) → IsInput input → (s : State) → KeyReady input s → (c : Formula) →
    HasFitting IsText c → asks_alone c ≡ true → KeyDecides input (key_condition_code c) s (holds c input.given input.place)
unfolding key_condition_code
key_condition_decides input given s ready (Negated inner) fits asks =
    let d = single_decides input given s ready inner fits asks in
    key_then_decides input (key_single_code inner) (Plain (change Xor 8 (pos 1) ∷ [])) s d.state
    (not (holds inner input.given input.place)) d.runs
    (turned input d.state d.ready (holds inner input.given input.place) d.truth)
key_condition_decides input given s ready (Single t) fits asks = single_decides input given s ready (Single t) fits asks
key_condition_decides input given s ready (Both one other) fits asks = absurd cc
key_condition_decides input given s ready (Either one other) fits asks = absurd cc
