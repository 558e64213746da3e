-- What the code of terms does.
use Rattle.std.proofs.Common.{◌≡◌, ℕ, ◌+◌, ◌-◌, ◌%◌, ◌^◌, ◌<◌, ◌≤◌, pos, Bool, true, false}
use Rattle.std.proofs.Common.{nat_lt, nat_le, if◌then◌else◌, List, [], ◌∷◌, ◌++◌, length, Option, Some}
use Rattle.std.proofs.Common.{None, option_map, refl, sym, ap, ◌∙◌, subst, arith, ⊎_elim}
use Rattle.std.proofs.lemmas.Bool.{cond_both, le-ltb, lt-ltb}
use Rattle.wire_spec.specs.declared.limits.TheConstants.{MAX_VALUE}
use Rattle.machine_spec.specs.declared.instruction.Instruction.{Instruction}
use Rattle.machine_spec.specs.declared.instruction.{Instruction.TheVariants.Call}
use Rattle.machine_spec.specs.declared.instruction.Source.TheVariants.{Immediate}
use Rattle.machine_spec.specs.declared.operation.{Operation.TheVariants.Sub}
use Rattle.machine_spec.specs.declared.operation.Width.TheVariants.{Bits64}
use Rattle.machine_spec.specs.declared.operation.Test.TheVariants as jumps
use Rattle.machine_spec.specs.Values.{Number, immediate}
use Rattle.machine_spec.specs.Machine.{Input, State, state_after, goes_to}
use Rattle.machine_spec.specs.Signatures.{helper_among}
use Rattle.machine_spec.specs.{Parts.length_answer, Parts.part_in}
use Rattle.verifier_spec.specs.StandsFor.{IsInput}
use Rattle.rules.specs.declared.{rule.Part.Part, rule.Term.Term}
use Rattle.rules.specs.declared.rule.Term.TheVariants as term
use Rattle.rules.specs.Meaning.{part_bytes, term_value}
use Rattle.rules.specs.Limits.{IsText, FitsPart, FitsTerm}
use Rattle.rules_compiler.specs.Code.{Code, Plain, Then, Unless}
use Rattle.rules_compiler.specs.Pieces.{set, copy, change, part_code, measure}
use Rattle.rules_compiler.specs.Terms.{count_code, decimal_code, answer_code, term_code}
use Rattle.rules_compiler.proofs.Ready.{Ready, small_immediate}
use Rattle.rules_compiler.proofs.Texts.{runs_both}
use Rattle.rules_compiler.proofs.Parts.{found, bytes_found, part_run}
use Rattle.machine_spec.specs.{Parts.part_numbered}
use Rattle.machine_spec.proofs.PartAnswers.{decimal_small}
use Rattle.machine_spec.specs.Numbers.{are_digits, decimal_of, decimal_answer}
use Rattle.rules.specs.{Numbers.digits_number, Meaning.decimal_at, Meaning.in_bytes}
use Rattle.std.specs.{Char.is_digit, Char.is_ascii_digit, Char.digit_value, Str.Parse.digits_value, List.list_all}
use Rattle.std.specs.Prelude.{slice_range, drop}
use Rattle.std.proofs.lemmas.List.{length-take, length-drop}
use Rattle.std.proofs.lemmas.Bool.{lt-leb, ltb-false, cases_lt, leb-true}
use Rattle.std.proofs.lemmas.{List.take_all}
use Rattle.std.proofs.Common.{unwrap_or, take}
use Rattle.std.proofs.lemmas.Bool.{le-leb}
use Rattle.rules_compiler.proofs.Walks.{On, run_list}
use Rattle.rules_compiler.proofs.LayoutEffects.{layout_values}
use Rattle.rules_compiler.proofs.NumberEffects.{number_values}
use Rattle.rules.specs.Meaning.{number_at}
use Rattle.rules.specs.Meaning.{layout_size}
use Rattle.rules_compiler.specs.Terms.{layout_code, value_number_code, is_near, part_number_code}
use Rattle.rules_compiler.specs.declared.values.TheConstants.{REACH}
use Rattle.rules.specs.declared.rule.{Layout.Layout}
use Rattle.rules.specs.declared.rule.Part.TheVariants as part
use Rattle.std.proofs.lemmas.Bool.{cond_both}
use Rattle.rules_compiler.proofs.Courses.{Values, bytes_few}
use Rattle.rules_compiler.proofs.Courses.{bytes_of_found, entered, less_two}
use Rattle.rules_compiler.proofs.Courses.{list_values, measures}
use Rattle.rules_compiler.proofs.Courses.{skipped}
use Rattle.rules_compiler.proofs.Courses.{then_values}

module _ (input : Input) (t : State) (ready : Ready input t) where
  abbrev pub counting : Code
  counting = Unless jumps.Less 0 (Immediate (pos 2)) (Plain (change Sub 0 (pos 2) ∷ set 8 (pos 1) ∷ []))

  pub counted : (o : Option (Option (List ℕ))) → ((bytes : List ℕ) → o ≡ Some (Some bytes) → length bytes ≤ MAX_VALUE) →
      t.registers 0 ≡ Number (length_answer o) → t.registers 8 ≡ Number 0 →
      Values input counting t (option_map length (unwrap_or o None))
  unfolding state_after
  counted None few answer truth = record {
    state = goes_to t (t.slot + 1 + 2);
    runs = skipped input jumps.Less 0 (Immediate (pos 2)) (Plain (change Sub 0 (pos 2) ∷ set 8 (pos 1) ∷ [])) t
        (rw answer refl);
    ready = assumption ready;
    has = truth;
  }
  counted (Some None) few answer truth = record {
    state = goes_to t (t.slot + 1 + 2);
    runs = skipped input jumps.Less 0 (Immediate (pos 2)) (Plain (change Sub 0 (pos 2) ∷ set 8 (pos 1) ∷ [])) t
        (rw answer refl);
    ready = assumption ready;
    has = truth;
  }
  counted (Some (Some bytes)) few answer truth = record {
    state = run_list input (change Sub 0 (pos 2) ∷ set 8 (pos 1) ∷ []) (goes_to t (t.slot + 1));
    runs = entered input jumps.Less 0 (Immediate (pos 2)) (Plain (change Sub 0 (pos 2) ∷ set 8 (pos 1) ∷ [])) t
        (rw answer (le-ltb (length bytes + 2) 2 (omega arith)));
    ready = assumption ready;
    has = (refl, rw answer (ap Number (less_two (length bytes) (few bytes refl))));
  }

-- ---- decimals

pub low_digit : (c : ℕ) → c < 48 → is_digit c 10 ≡ is_ascii_digit c
low_digit c low =
    let a = lt-ltb c 48 low in
    let b = lt-leb 48 c low in
    rw (a, b) refl

pub mid_digit : (c : ℕ) → 48 ≤ c → c < 58 → is_digit c 10 ≡ is_ascii_digit c
mid_digit c low high =
    let a = le-ltb c 48 low in
    let b = lt-ltb c 58 high in
    let e = lt-ltb (c - 48) 10 (omega arith) in
    let f = le-leb 48 c low in
    let g = le-leb c 57 (omega arith) in
    rw (a, b, e, f, g) refl

pub digit_high : (c : ℕ) → 58 ≤ c → 10 ≤ digit_value c
digit_high c high =
    let a = le-ltb c 48 (omega arith) in
    let b = le-ltb c 58 high in
    rw (a, b) (cond_both (nat_lt c 65) 36 _ (λ n. 10 ≤ n) (λ _. omega arith)
    (λ e. cond_both (nat_lt c 91) (c - 55) _ (λ n. 10 ≤ n) (λ _. let f = ltb-false c 65 e in omega arith)
    (λ _. cond_both (nat_lt c 97) 36 _ (λ n. 10 ≤ n) (λ _. omega arith)
    (λ g. cond_both (nat_lt c 123) (c - 87) 36 (λ n. 10 ≤ n) (λ _. let h = ltb-false c 97 g in omega arith)
    (λ _. omega arith)))))

pub high_digit : (c : ℕ) → 58 ≤ c → is_digit c 10 ≡ is_ascii_digit c
high_digit c high =
    let a = le-ltb (digit_value c) 10 (digit_high c high) in
    let b = lt-leb c 57 (omega arith) in
    let f = le-leb 48 c (omega arith) in
    a ∙ sym (rw (f, b) refl)

pub digit_is : (c : ℕ) → is_digit c 10 ≡ is_ascii_digit c
digit_is c = ⊎_elim (low_digit c) (λ from. ⊎_elim (mid_digit c from) (high_digit c) (cases_lt c 58)) (cases_lt c 48)

pub digits_are : (text : List ℕ) → list_all (λ d. is_digit d 10) text ≡ list_all is_ascii_digit text
digits_are [] = refl
digits_are (c ∷ text) = rw (digit_is c, digits_are text) refl

-- one more than a number that is there; 0 of none
abbrev pub answer_of : Option ℕ → ℕ
answer_of (Some n) = n + 1
answer_of None = 0

pub digits_small : (text : List ℕ) → are_digits text ≡ true → digits_value 10 text + 1 ≤ 10 ^ 18
digits_small text are =
    let small = decimal_small text 0 (length text) in
    let all : take (length text) (drop 0 text) ≡ text = take_all (length text) text (omega arith) in
    let fits = le-leb (0 + length text) (length text) (omega arith) in
    rw (fits, all, are) at small

pub digits_found : (text : List ℕ) → 1 ≤ length text → length text ≤ 18 → (b : Bool) → list_all is_ascii_digit text ≡ b →
    decimal_of (Some text) ≡ answer_of (digits_number 10 text)
digits_found text some few true all =
    let one = le-leb 1 (length text) some in
    let most = le-leb (length text) 18 few in
    let small = digits_small text (rw (one, most, all) refl) in
    let fits = lt-ltb (digits_value 10 text) (2 ^ 64) (omega (arith, small)) in
    simp (one, most, digits_are text, all, fits) refl
digits_found text some few false all =
    let one = le-leb 1 (length text) some in
    let most = le-leb (length text) 18 few in
    simp (one, most, digits_are text, all) refl

pub cut_digits : (bytes : List ℕ) (place count : ℕ) → 1 ≤ count → count ≤ 18 → (b : Bool) →
    nat_le (place + count) (length bytes) ≡ b →
    decimal_of (if b then Some (take count (drop place bytes)) else None)
    ≡ answer_of (if b then digits_number 10 (slice_range bytes place (place + count)) else None)
cut_digits bytes place count some few true fits =
    let size : place + count - place ≡ count = omega arith in
    let within = leb-true (place + count) (length bytes) fits in
    let long : length (take count (drop place bytes)) ≡ count =
    omega (arith, length-take count (drop place bytes), length-drop place bytes) in
    digits_found (take count (drop place bytes)) (omega arith) (omega arith) (list_all is_ascii_digit (take count (drop place bytes))) refl
    ∙ ap (λ (n : ℕ). answer_of (digits_number 10 (take n (drop place bytes)))) (sym size)
cut_digits bytes place count some few false fits = refl

pub decimal_found : (bytes : List ℕ) (place count : ℕ) → 1 ≤ count → count ≤ 18 →
    decimal_answer bytes place count ≡ answer_of (decimal_at place count bytes)
decimal_found bytes place count some few =
    cut_digits bytes place count some few (nat_le (place + count) (length bytes)) refl

pub decimal_is : (o : Option (Option (List ℕ))) (place count : ℕ) → 1 ≤ count → count ≤ 18 →
    decimal_answer (bytes_of_found o) place count ≡ answer_of (in_bytes (decimal_at place count) (unwrap_or o None))
decimal_is None place count some few = let none = lt-leb (place + count) 0 (omega arith) in rw none refl
decimal_is (Some None) place count some few = let none = lt-leb (place + count) 0 (omega arith) in rw none refl
decimal_is (Some (Some bytes)) place count some few = decimal_found bytes place count some few

pub less_one : (n : ℕ) → n < 2 ^ 63 → (n + 1 + (2 ^ 64 - 1)) % 2 ^ 64 ≡ n
less_one n few = omega arith

module _ (input : Input) (t : State) (ready : Ready input t) where
  pub decided_by : (o : Option ℕ) → answer_of o ≤ 2 ^ 63 → t.registers 0 ≡ Number (answer_of o) → t.registers 8 ≡ Number 0 →
      Values input (Unless jumps.Less 0 (Immediate (pos 1)) (Plain (change Sub 0 (pos 1) ∷ set 8 (pos 1) ∷ []))) t o
  unfolding state_after
  decided_by None few answer truth = record {
    state = goes_to t (t.slot + 1 + 2);
    runs = skipped input jumps.Less 0 (Immediate (pos 1)) (Plain (change Sub 0 (pos 1) ∷ set 8 (pos 1) ∷ [])) t
        (rw answer refl);
    ready = assumption ready;
    has = truth;
  }
  decided_by (Some n) few answer truth = record {
    state = run_list input (change Sub 0 (pos 1) ∷ set 8 (pos 1) ∷ []) (goes_to t (t.slot + 1));
    runs = entered input jumps.Less 0 (Immediate (pos 1)) (Plain (change Sub 0 (pos 1) ∷ set 8 (pos 1) ∷ [])) t
        (rw answer (le-ltb (n + 1) 1 (omega arith)));
    ready = assumption ready;
    has = (refl, rw answer (ap Number (less_one n (omega arith))));
  }

abbrev pub decimal_list : ℕ → ℕ → List Instruction
decimal_list place count = copy 1 6 ∷ set 2 (pos place) ∷ set 3 (pos count) ∷ Call (pos 17) ∷ set 8 (pos 0) ∷ []

pub decimal_answered : (input : Input) (t : State) (number place count : ℕ) → t.registers 6 ≡ Number number →
    (run_list input (decimal_list place count) t).registers 0
    ≡ Number (decimal_answer (bytes_of_found (part_in input.given (part_numbered number))) (immediate Bits64 (pos place))
    (immediate Bits64 (pos count)))
unfolding state_after helper_among
decimal_answered input t number place count is = rw is refl

pub decimal_ready : (input : Input) (t : State) (place count : ℕ) → Ready input t → Ready input (run_list input (decimal_list place count) t)
unfolding state_after helper_among
decimal_ready input t place count ready = assumption ready

pub decimal_truth : (input : Input) (t : State) (place count : ℕ) → (run_list input (decimal_list place count) t).registers 8 ≡ Number 0
unfolding state_after helper_among
decimal_truth input t place count = refl

module _ (input : Input) (given : IsInput input) (s : State) (ready : Ready input s) where
  pub count_values : (p : Part) → FitsPart IsText p →
      Values input (count_code p) s (option_map length (part_bytes p input.given))
  unfolding count_code
  count_values p fits =
      let r = part_run input given p fits s ready in
      let m = measures input given s ready p fits in
      let v = counted input m.state m.ready (found p input.given)
      (λ bytes e. bytes_few input given p r.number r.names bytes e) m.answer m.truth in
      subst (λ (o : Option (List ℕ)). Values input (Then (Plain (part_code p ++ measure))
      (Unless jumps.Less 0 (Immediate (pos 2)) (Plain (change Sub 0 (pos 2) ∷ set 8 (pos 1) ∷ [])))) s (option_map length o))
      (sym (bytes_found p input.given))
      (then_values input (Plain (part_code p ++ measure))
      (Unless jumps.Less 0 (Immediate (pos 2)) (Plain (change Sub 0 (pos 2) ∷ set 8 (pos 1) ∷ []))) s m.state
      (option_map length (unwrap_or (found p input.given) None)) m.runs v)

  pub decimal_values : (p : Part) (place count : ℕ) → FitsPart IsText p → place ≤ 1048576 → 1 ≤ count → count ≤ 18 →
      Values input (decimal_code p place count) s (in_bytes (decimal_at place count) (part_bytes p input.given))
  unfolding decimal_code
  decimal_values p place count fits low some few =
      let r = part_run input given p fits s ready in
      let t = run_list input (part_code p) s in
      let u = run_list input (decimal_list place count) t in
      let both = runs_both input (part_code p) (decimal_list place count) s in
      let o = in_bytes (decimal_at place count) (unwrap_or (found p input.given) None) in
      let answer = decimal_answered input t r.number place count r.is
      ∙ ap (λ (n : ℕ). Number (decimal_answer (bytes_of_found (part_in input.given (part_numbered r.number))) n (immediate Bits64 (pos count))))
      (small_immediate place (omega arith))
      ∙ ap (λ (n : ℕ). Number (decimal_answer (bytes_of_found (part_in input.given (part_numbered r.number))) place n))
      (small_immediate count (omega arith))
      ∙ ap (λ (x : Option (Option (List ℕ))). Number (decimal_answer (bytes_of_found x) place count)) r.names
      ∙ ap Number (decimal_is (found p input.given) place count some few) in
      let small : answer_of o ≤ 2 ^ 63 = rw (← decimal_is (found p input.given) place count some few)
      (let most = decimal_small (bytes_of_found (found p input.given)) place count in omega (arith, most)) in
      let v = decided_by input u (decimal_ready input t place count r.ready) o small answer (decimal_truth input t place count) in
      subst (λ (x : Option (List ℕ)). Values input (Then (Plain (part_code p ++ decimal_list place count))
      (Unless jumps.Less 0 (Immediate (pos 1)) (Plain (change Sub 0 (pos 1) ∷ set 8 (pos 1) ∷ [])))) s
      (in_bytes (decimal_at place count) x)) (sym (bytes_found p input.given))
      (then_values input (Plain (part_code p ++ decimal_list place count))
      (Unless jumps.Less 0 (Immediate (pos 1)) (Plain (change Sub 0 (pos 1) ∷ set 8 (pos 1) ∷ []))) s u o (ap On both) v)

  number_term : (layout : Layout) (p : Part) (place : ℕ) → FitsPart IsText p → place ≤ 1048576 →
      Values input (part_number_code layout p place) s (in_bytes (number_at layout place) (part_bytes p input.given))
  unfolding part_number_code
  number_term layout part.Value place fits low = cond_both (is_near layout place) (value_number_code layout place)
      (layout_code layout part.Value place)
      (λ code. Values input code s (in_bytes (number_at layout place) input.given.value))
      (λ near. number_values input given s ready layout place (leb-true (place + layout_size layout) REACH near))
      (λ far. layout_values input given s ready layout part.Value place fits low)
  number_term layout part.Key place fits low = layout_values input given s ready layout part.Key place fits low
  number_term layout (part.Header key) place fits low =
      layout_values input given s ready layout (part.Header key) place fits low

  pub term_values : (t : Term) → FitsTerm IsText t →
      Values input (term_code t) s (term_value t input.given input.place)
  unfolding term_code answer_code state_after helper_among
  term_values (term.Length p) fits = count_values p fits
  term_values (term.Number layout p place) fits =
      number_term layout p place fits.0 fits.1.high_is
  term_values (term.Decimal p place count) fits =
      decimal_values p place count fits.0 fits.1.0.high_is fits.1.1.low_is fits.1.1.high_is
  term_values term.Offset fits = list_values input (Call (pos 7) ∷ set 8 (pos 1) ∷ []) s _ (assumption ready) (refl, refl)
  term_values term.Timestamp fits = list_values input (Call (pos 8) ∷ set 8 (pos 1) ∷ []) s _ (assumption ready) (refl, refl)
  term_values term.Partition fits = list_values input (Call (pos 9) ∷ set 8 (pos 1) ∷ []) s _ (assumption ready) (refl, refl)
  term_values term.Headers fits = list_values input (Call (pos 10) ∷ set 8 (pos 1) ∷ []) s _ (assumption ready) (refl, refl)
