-- What the code does of texts that are read in the value itself.
use Rattle.std.proofs.Common.{◌≡◌, ℕ, zero, suc, ◌+◌, ◌<◌, ◌≤◌, pos, Bool, true, false, not}
use Rattle.std.proofs.Common.{◌&&◌, ◌==◌, nat_eq, nat_lt, List, [], ◌∷◌, length, drop, get_or, slice_get}
use Rattle.std.proofs.Common.{Option, Some, None, unwrap_or, refl, sym, ap, ◌∙◌, subst, arith, ⊎_elim}
use Rattle.std.specs.{List.AllByRecursion, List.starts_with, Str.bytes_eq}
use Rattle.std.proofs.{Math.Seq.drop-cons}
use Rattle.std.proofs.lemmas.Bool.{ne_eqb, eq-eqb, cases_eq, cases_lt, lt-ltb, le-ltb}
use Rattle.std.proofs.lemmas.{Slice.Eq.bytes_eq-Decides}
use Rattle.std.proofs.lemmas.List.{take_all}
use Rattle.machine_spec.specs.declared.{instruction.Size.Size}
use Rattle.machine_spec.specs.declared.instruction.Instruction.TheVariants.{Load}
use Rattle.machine_spec.specs.declared.instruction.Extension.TheVariants.{Zero}
use Rattle.machine_spec.specs.declared.instruction.Source.TheVariants.{Immediate}
use Rattle.machine_spec.specs.declared.operation.Width.TheVariants.{Bits64}
use Rattle.machine_spec.specs.declared.operation.{Test.Test as Jumps}
use Rattle.machine_spec.specs.declared.operation.Test.TheVariants as jumps
use Rattle.machine_spec.specs.Values.{Number, is_taken}
use Rattle.machine_spec.specs.Machine.{Input, State, state_after, goes_to, bytes_of}
use Rattle.verifier_spec.specs.StandsFor.{IsInput}
use Rattle.rules.specs.declared.rule.Part.TheVariants as part
use Rattle.rules.specs.declared.rule.Layout.TheVariants.{Byte}
use Rattle.rules.specs.Meaning.{passes_if, test_equals, test_begins}
use Rattle.rules.specs.Limits.{IsText}
use Rattle.rules_compiler.specs.Code.{Plain, Unless}
use Rattle.rules_compiler.specs.Pieces.{set}
use Rattle.rules_compiler.specs.Tests.{match_code, match_test_code, value_test_code}
use Rattle.rules_compiler.proofs.Ready.{Ready, small_immediate}
use Rattle.rules_compiler.proofs.Walks.{run_list}
use Rattle.rules_compiler.proofs.Courses.{Decides, skip_decides, enter_decides, list_decides, then_decides}

-- ---- texts

pub got : (l : List ℕ) (k : ℕ) → unwrap_or (slice_get l k) 0 ≡ get_or l k 0
got [] zero = refl
got [] (suc k) = refl
got (x ∷ l) zero = refl
got (x ∷ l) (suc k) = got l k

module _ (input : Input) (given : IsInput input) where
  abbrev value : List ℕ
  value = bytes_of input.given.value

  byte_read : (s : State) (place : ℕ) → Ready input s →
      (run_list input (Load Size.Byte Zero 0 9 (pos place) ∷ []) s).registers 0 ≡ Number (get_or (bytes_of input.given.value) place 0)
  unfolding state_after
  byte_read s place ready =
      let sum : 0 + place ≡ place = omega arith in
      let one : unwrap_or (slice_get (bytes_of input.given.value) place) 0 + 0 ≡ get_or (bytes_of input.given.value) place 0 =
      omega (arith, got (bytes_of input.given.value) place) in
      let base = ready.value_is in
      rw (base, sum) (ap Number one)

  byte_ready : (s : State) (place : ℕ) → Ready input s → Ready input (run_list input (Load Size.Byte Zero 0 9 (pos place) ∷ []) s)
  unfolding state_after
  byte_ready s place ready = assumption ready

  byte_truth : (s : State) (place : ℕ) →
      (run_list input (Load Size.Byte Zero 0 9 (pos place) ∷ []) s).registers 8 ≡ s.registers 8
  unfolding state_after
  byte_truth s place = refl

  first_is : (x byte : ℕ) (rest text bytes : List ℕ) → bytes ≡ x ∷ rest →
      starts_with nat_eq bytes (byte ∷ text) ≡ (nat_eq byte x && starts_with nat_eq rest text)
  first_is x byte rest text bytes is = rw is refl

  one_ready : (s : State) → Ready input s → Ready input (run_list input (set 8 (pos 1) ∷ []) s)
  unfolding state_after
  one_ready s ready = assumption ready

  one_truth : (s : State) → (run_list input (set 8 (pos 1) ∷ []) s).registers 8 ≡ Number 1
  unfolding state_after
  one_truth s = refl

  match_decides : (text : List ℕ) (place : ℕ) (s : State) → Ready input s → s.registers 8 ≡ Number 0 →
      place + length text ≤ length (bytes_of input.given.value) → AllByRecursion (λ byte. byte < 256) text →
      Decides input (match_code 9 text place) s (starts_with nat_eq (drop place (bytes_of input.given.value)) text)
  unfolding match_code
  match_decides [] place s ready truth within bytes = list_decides input (set 8 (pos 1) ∷ []) s true (one_ready s ready) (one_truth s)
  match_decides (byte ∷ text) place s ready truth within bytes =
      let all = bytes_of input.given.value in
      let x = get_or (bytes_of input.given.value) place 0 in
      let t = run_list input (Load Size.Byte Zero 0 9 (pos place) ∷ []) s in
      let block = match_code 9 text (place + 1) in
      let rest = drop (suc place) (bytes_of input.given.value) in
      let parts = drop-cons (bytes_of input.given.value) place 0 (omega arith) in
      let one : place + 1 ≡ suc place = omega arith in
      let imm = small_immediate byte (omega (arith, bytes.0)) in
      let answer = byte_read s place ready in
      let clear = byte_ready s place ready in
      let zero_is = byte_truth s place ∙ truth in
      then_decides input (Plain (Load Size.Byte Zero 0 9 (pos place) ∷ [])) (Unless jumps.NotEqual 0 (Immediate (pos byte)) block) s t
      (starts_with nat_eq (drop place (bytes_of input.given.value)) (byte ∷ text)) refl
      (subst (Decides input (Unless jumps.NotEqual 0 (Immediate (pos byte)) (match_code 9 text (place + 1))) t)
      (sym (first_is x byte rest text (drop place (bytes_of input.given.value)) parts)) (⊎_elim
      (λ same.
      let test = eq-eqb x byte same in
      let turned = eq-eqb byte x (sym same) in
      rw turned (enter_decides input jumps.NotEqual 0 (Immediate (pos byte)) block t (starts_with nat_eq rest text)
      (rw (answer, imm, test) refl)
      (subst (λ (n : ℕ). Decides input (match_code 9 text (place + 1)) (goes_to t (t.slot + 1))
      (starts_with nat_eq (drop n (bytes_of input.given.value)) text)) one
      (match_decides text (place + 1) (goes_to t (t.slot + 1)) (assumption clear) zero_is (omega arith) bytes.1))))
      (λ apart.
      let test = ne_eqb x byte apart in
      let turned = ne_eqb byte x (λ e. apart (sym e)) in
      rw turned (skip_decides input jumps.NotEqual 0 (Immediate (pos byte)) block t false (rw (answer, imm, test) refl) clear zero_is))
      (cases_eq x byte)))

  pub zero_ready : (s : State) → Ready input s → Ready input (run_list input (set 8 (pos 0) ∷ []) s)
  unfolding state_after
  zero_ready s ready = assumption ready

  pub zero_truth : (s : State) → (run_list input (set 8 (pos 0) ∷ []) s).registers 8 ≡ Number 0
  unfolding state_after
  zero_truth s = refl

  -- a text of the value, where a test of the value's length leaves it out or not
  value_decides : (text : List ℕ) (how : Jumps) (b : Bool) → IsText text → (s : State) → Ready input s →
      is_taken Bits64 how (Number (length (bytes_of input.given.value))) (Number (length text)) ≡ b →
      (b ≡ false → length text ≤ length (bytes_of input.given.value)) →
      Decides input (value_test_code text how) s (not b && starts_with nat_eq (bytes_of input.given.value) text)
  unfolding match_test_code
  value_decides text how true is s ready taken within =
      let t = run_list input (set 8 (pos 0) ∷ []) s in
      let clear = zero_ready s ready in
      let few = is.few in
      let imm = small_immediate (length text) (omega arith) in
      let long = clear.length_is in
      then_decides input (Plain (set 8 (pos 0) ∷ [])) (Unless how 7 (Immediate (pos (length text))) (match_code 9 text 0)) s t false refl
      (skip_decides input how 7 (Immediate (pos (length text))) (match_code 9 text 0) t false (rw (long, imm) taken) clear (zero_truth s))
  value_decides text how false is s ready taken within =
      let t = run_list input (set 8 (pos 0) ∷ []) s in
      let clear = zero_ready s ready in
      let few = is.few in
      let imm = small_immediate (length text) (omega arith) in
      let long = clear.length_is in
      let enough = within refl in
      let b = starts_with nat_eq (bytes_of input.given.value) text in
      then_decides input (Plain (set 8 (pos 0) ∷ [])) (Unless how 7 (Immediate (pos (length text))) (match_code 9 text 0)) s t b refl
      (enter_decides input how 7 (Immediate (pos (length text))) (match_code 9 text 0) t b (rw (long, imm) taken)
      (match_decides text 0 (goes_to t (t.slot + 1)) (assumption clear) (zero_truth s) (omega arith) is.bytes))

-- ---- what it means

same_truth : (a b : Bool) → (a ≡ true → b ≡ true) → (b ≡ true → a ≡ true) → a ≡ b
same_truth true b x y = sym (x refl)
same_truth false true x y = y refl
same_truth false false x y = refl

same_length : (bytes text : List ℕ) → length bytes ≡ length text → starts_with nat_eq bytes text ≡ bytes_eq bytes text
same_length bytes text same =
    let all = take_all (length text) bytes (omega arith) in
    rw all (same_truth (bytes_eq text bytes) (bytes_eq bytes text)
    (λ e. (bytes_eq-Decides bytes text).1 (sym ((bytes_eq-Decides text bytes).0 e)))
    (λ e. (bytes_eq-Decides text bytes).1 (sym ((bytes_eq-Decides bytes text).0 e))))

other_length : (bytes text : List ℕ) → (length bytes ≡ length text → ⊥) → bytes_eq bytes text ≡ false
other_length bytes text apart = not_true (bytes_eq bytes text) (λ e. apart (ap length ((bytes_eq-Decides bytes text).0 e)))
  where
    not_true : (b : Bool) → (b ≡ true → ⊥) → b ≡ false
    not_true true h = absurd (h refl)
    not_true false h = refl

pub equal_texts : (bytes text : List ℕ) → ((length bytes + 2 == length text + 2) && starts_with nat_eq bytes text) ≡ bytes_eq bytes text
equal_texts bytes text = ⊎_elim
    (λ same.
    let long : length bytes + 2 ≡ length text + 2 = omega arith in
    let test = eq-eqb (length bytes + 2) (length text + 2) long in
    rw test (same_length bytes text same))
    (λ apart.
    let test = ne_eqb (length bytes + 2) (length text + 2) (λ e. apart (omega arith)) in
    rw test (sym (other_length bytes text apart)))
    (cases_eq (length bytes) (length text))

no_text : (text : List ℕ) → 1 ≤ length text → starts_with nat_eq [] text ≡ false
no_text [] some = absurd (omega arith)
no_text (byte ∷ text) some = refl

shorter : (bytes text : List ℕ) → length bytes < length text → starts_with nat_eq bytes text ≡ false
shorter [] (byte ∷ text) less = refl
shorter (x ∷ bytes) (byte ∷ text) less = from (nat_eq byte x) (shorter bytes text (omega arith))
  where
    from : (b : Bool) → starts_with nat_eq bytes text ≡ false → (b && starts_with nat_eq bytes text) ≡ false
    from true e = e
    from false e = refl
shorter bytes [] less = absurd (omega arith)

pub equal_is : (o : Option (List ℕ)) (text : List ℕ) → 1 ≤ length text →
    (not (not (length (bytes_of o) == length text)) && starts_with nat_eq (bytes_of o) text)
    ≡ passes_if (λ bytes. bytes_eq bytes text) o
equal_is None text some = let apart = ne_eqb 0 (length text) (λ e. omega arith) in rw apart refl
equal_is (Some bytes) text some = ⊎_elim
    (λ same. let test = eq-eqb (length bytes) (length text) same in rw test (same_length bytes text same))
    (λ apart. let test = ne_eqb (length bytes) (length text) apart in rw test (sym (other_length bytes text apart)))
    (cases_eq (length bytes) (length text))

pub begins_is : (o : Option (List ℕ)) (text : List ℕ) → 1 ≤ length text →
    (not (nat_lt (length (bytes_of o)) (length text)) && starts_with nat_eq (bytes_of o) text)
    ≡ passes_if (λ bytes. starts_with nat_eq bytes text) o
begins_is None text some = let less = lt-ltb 0 (length text) (omega arith) in rw less refl
begins_is (Some bytes) text some = ⊎_elim
    (λ less.
    let a = lt-ltb (length bytes) (length text) less in
    let b = shorter bytes text less in
    rw (a, b) refl)
    (λ enough. let a = le-ltb (length bytes) (length text) enough in rw a refl)
    (cases_lt (length bytes) (length text))

module _ (input : Input) (given : IsInput input) (s : State) (ready : Ready input s) (text : List ℕ) (is : IsText text)
    (some : 1 ≤ length text) where
  pub value_equal_decides : Decides input (value_test_code text jumps.NotEqual) s (test_equals part.Value text input.given)
  value_equal_decides =
      subst (Decides input (value_test_code text jumps.NotEqual) s) (equal_is input.given.value text some)
      (value_decides input given text jumps.NotEqual (not (length (bytes_of input.given.value) == length text)) is s ready refl
      (same_length (length (bytes_of input.given.value)) (length text)))
    where
      same_length : (n m : ℕ) → not (n == m) ≡ false → m ≤ n
      same_length n m e = ⊎_elim (λ same. omega arith)
          (λ apart. let test = ne_eqb n m apart in absurd (cc)) (cases_eq n m)

  pub value_begins_decides : Decides input (value_test_code text jumps.Less) s (test_begins part.Value text input.given)
  value_begins_decides =
      subst (Decides input (value_test_code text jumps.Less) s) (begins_is input.given.value text some)
      (value_decides input given text jumps.Less (nat_lt (length (bytes_of input.given.value)) (length text)) is s ready refl
      (not_less (length (bytes_of input.given.value)) (length text)))
    where
      not_less : (n m : ℕ) → nat_lt n m ≡ false → m ≤ n
      not_less n m e = ⊎_elim
          (λ less. let test = lt-ltb n m less in absurd (cc)) (λ enough. enough) (cases_lt n m)
