-- How a run ends that an action ends: records, hashes and cuts.
use Rattle.std.proofs.Common.{◌≡◌, ℕ, zero, suc, ◌+◌, ◌-◌, ◌%◌, ◌^◌, ◌<◌, ◌≤◌, pos, Bool, true, false}
use Rattle.std.proofs.Common.{◌==◌, if◌then◌else◌, List, [], ◌∷◌, ◌++◌, length, Option, Some}
use Rattle.std.proofs.Common.{None, refl, sym, ap, ◌∙◌, arith, ⊎_elim}
use Rattle.std.specs.Prelude.{slice_range, Ok, Err, unwrap_or}
use Rattle.std.proofs.lemmas.Bool.{ne_eqb, le-leb}
use Rattle.machine_spec.specs.declared.{outcome.Emission.Emission, outcome.Outcome.Outcome}
use Rattle.machine_spec.specs.declared.outcome.Outcome.TheVariants.{Kept, Rejected}
use Rattle.machine_spec.specs.declared.instruction.Source.TheVariants.{Immediate}
use Rattle.machine_spec.specs.declared.operation.Test.TheVariants as jumps
use Rattle.machine_spec.specs.declared.operation.Width.TheVariants.{Bits64}
use Rattle.machine_spec.specs.Values.{Number, immediate}
use Rattle.machine_spec.specs.Machine.{Input, State, state_after, goes_to, emit_code, emitted_after, Yield, no_yield, with_emission}
use Rattle.wire_spec.specs.declared.record.Header.{Header}
use Rattle.machine_spec.specs.Machine.{with_headers, whole_record, bare_record, has_part, cut_record, code_unless, emitted_unless}
use Rattle.machine_spec.specs.Signatures.{helper_among}
use Rattle.machine_spec.specs.{Meaning.outcome_of, Hashes.hash_of}
use Rattle.verifier_spec.specs.StandsFor.{IsInput}
use Rattle.rules.specs.declared.{rule.Part.Part}
use Rattle.rules.specs.declared.rule.Output.TheVariants as output
use Rattle.rules.specs.Outcomes.{unless_refused, outcome_of_emission, outcome_with_value, has_range, range_of}
use Rattle.rules.specs.Outcomes.{bytes_in, hashed_output, outcome_of_output}
use Rattle.rules.specs.Limits.{IsText, FitsPart}
use Rattle.rules_compiler.specs.Code.{Code, Plain, Ends, Then, Unless}
use Rattle.rules_compiler.specs.Pieces.{set, copy, change, part_code}
use Rattle.rules_compiler.specs.Actions.{drop_code, plain_code, hashed_code, part_cut_code, rest_cut_code}
use Rattle.rules_compiler.proofs.Walks.{On, Over, run_list, run}
use Rattle.rules_compiler.proofs.Ready.{ReadyWith, silent, small_immediate}
use Rattle.rules_compiler.proofs.Texts.{runs_both}
use Rattle.machine_spec.proofs.PartAnswers.{IsShort, part_short}
use Rattle.machine_spec.specs.{Parts.length_answer}
use Rattle.std.proofs.lemmas.Bool.{lt-leb, cases_lt}
use Rattle.rules_compiler.proofs.Parts.{found, bytes_found, part_run}
use Rattle.machine_spec.specs.{Parts.part_numbered, Parts.part_in}
use Rattle.machine_spec.specs.declared.instruction.{Instruction.Instruction, Instruction.TheVariants.Call}
use Rattle.machine_spec.specs.declared.operation.Operation.TheVariants.{Sub, Mod}
use Rattle.rules_compiler.proofs.Courses.{then_runs, skipped, entered}
use Rattle.rules_compiler.proofs.Effects.{puts_answer}

-- ---- refusals

pub rejected : (n : ℕ) (emitted : List Emission) → 1 ≤ n → outcome_of (Number n) emitted ≡ Rejected n
rejected zero emitted some = absurd (omega arith)
rejected (suc n) emitted some = refl

pub not_zero : (n : ℕ) → (suc n == 0) ≡ false
not_zero n = ne_eqb (suc n) 0 (λ e. omega arith)

module _ (added : List Header) where
  pub kept_unless : (code : ℕ) (e : Emission) →
      outcome_of (Number code) (if code == 0 then with_emission (silent added) e else silent added).emissions
      ≡ unless_refused code (Kept (with_headers added e ∷ []))
  kept_unless zero e = refl
  kept_unless (suc code) e = rw (not_zero code) refl

  pub emission_outcome : (input : Input) (before : Yield) (e : Emission) → before ≡ silent added →
      outcome_of (Number (emit_code input before e)) (emitted_after input before e).emissions
      ≡ outcome_of_emission input (with_headers added e)
  emission_outcome input before e none =
      ap (λ (b : Yield). outcome_of (Number (emit_code input b e)) (emitted_after input b e).emissions) none
      ∙ kept_unless (emit_code input (silent added) e) e

  pub cut_unless : (code : ℕ) (e : Emission) (b : Bool) →
      outcome_of (Number (if code == 0 then (if b then 0 else 4) else code))
      (if (if b then 0 else 4) == 0 then (if code == 0 then with_emission (silent added) e else silent added) else silent added).emissions
      ≡ (if b then unless_refused code (Kept (with_headers added e ∷ [])) else unless_refused code (Rejected 4))
  cut_unless zero e true = refl
  cut_unless zero e false = refl
  cut_unless (suc code) e true = rw (not_zero code) refl
  cut_unless (suc code) e false = rw (not_zero code) refl

  pub refused_unless : (code : ℕ) (e : Emission) (refusal : ℕ) →
      outcome_of (Number (if code == 0 then refusal else code))
      (if refusal == 0 then (if code == 0 then with_emission (silent added) e else silent added) else silent added).emissions
      ≡ (if refusal == 0 then unless_refused code (Kept (with_headers added e ∷ [])) else unless_refused code (Rejected refusal))
  refused_unless zero e zero = refl
  refused_unless zero e (suc n) = rw (not_zero n) refl
  refused_unless (suc code) e zero = rw (not_zero code) refl
  refused_unless (suc code) e (suc n) = rw (not_zero code, not_zero n) refl

-- ---- actions

module _ (input : Input) (given : IsInput input) (added : List Header) (s : State) (ready : ReadyWith input added s) where
  pub drop_stops : (n : ℕ) → 1 ≤ n → n < 2 ^ 64 → run input (drop_code n) s ≡ Over (Rejected n)
  unfolding drop_code
  drop_stops n some small =
      let puts = puts_answer input s n small in
      ap Over (rw puts.number (rejected n _ some))

  pub record_stops : (out : ℕ) → out ≤ 63 →
      run input (plain_code out (pos 3)) s ≡ Over (outcome_of_output (output.Record out) added input)
  unfolding plain_code state_after helper_among
  record_stops out few =
      ap Over (emission_outcome added input s.emitted (whole_record input (immediate Bits64 (pos out))) ready.none
      ∙ ap (λ (n : ℕ). outcome_of_emission input (with_headers added (whole_record input n))) (small_immediate out (omega arith)))

  pub null_stops : (out : ℕ) → out ≤ 63 →
      run input (plain_code out (pos 6)) s
      ≡ Over (outcome_of_emission input (with_headers added (bare_record out input.given.key None)))
  unfolding plain_code state_after helper_among
  null_stops out few =
      ap Over (emission_outcome added input s.emitted (bare_record (immediate Bits64 (pos out)) input.given.key None) ready.none
      ∙ ap (λ (n : ℕ). outcome_of_emission input (with_headers added (bare_record n input.given.key None)))
      (small_immediate out (omega arith)))

  pub hashed_emission : (hash count : ℕ) → count ≤ 64 →
      outcome_of (Number (emit_code input s.emitted (whole_record input (hash % immediate Bits64 (pos count)))))
      (emitted_after input s.emitted (whole_record input (hash % immediate Bits64 (pos count)))).emissions
      ≡ outcome_of_emission input (with_headers added (whole_record input (hash % count)))
  hashed_emission hash count few =
      emission_outcome added input s.emitted (whole_record input (hash % immediate Bits64 (pos count))) ready.none
      ∙ ap (λ (n : ℕ). outcome_of_emission input (with_headers added (whole_record input (hash % n))))
      (small_immediate count (omega arith))

  abbrev pub hashed_list : ℕ → List Instruction
  hashed_list count = copy 1 6 ∷ Call (pos 18) ∷ change Mod 0 (pos count) ∷ copy 1 0 ∷ Call (pos 3) ∷ []

  pub hash_found : (p : Part) (count : ℕ) → hash_of (found p input.given) % count ≡ hashed_output p count input.given
  hash_found p count =
      ap (λ (n : ℕ). n % count) (from (found p input.given))
      ∙ ap (λ (o : Option (List ℕ)). hash_of (Some o) % count) (sym (bytes_found p input.given))
    where
      from : (o : Option (Option (List ℕ))) → hash_of o ≡ hash_of (Some (unwrap_or o None))
      from None = refl
      from (Some x) = refl

  pub hashed_end : (t : State) (number count : ℕ) → t.emitted ≡ s.emitted → t.registers 6 ≡ Number number →
      outcome_of ((run_list input (hashed_list count) t).registers 0) (run_list input (hashed_list count) t).emitted.emissions
      ≡ outcome_of
      (Number (emit_code input s.emitted (whole_record input (hash_of (part_in input.given (part_numbered number)) % immediate Bits64 (pos count)))))
      (emitted_after input s.emitted (whole_record input (hash_of (part_in input.given (part_numbered number)) % immediate Bits64 (pos count)))).emissions
  unfolding state_after helper_among
  hashed_end t number count same is = rw (is, same) refl

  pub hashed_stops : (p : Part) (count : ℕ) → FitsPart IsText p → count ≤ 64 →
      run input (hashed_code p count) s ≡ Over (outcome_of_output (output.Hashed p count) added input)
  unfolding hashed_code
  hashed_stops p count fits few =
      let r = part_run input given p fits s ready in
      let t = run_list input (part_code p) s in
      let both = runs_both input (part_code p) (hashed_list count) s in
      let same = r.ready.none ∙ sym ready.none in
      ap (λ (u : State). Over (outcome_of (u.registers 0) u.emitted.emissions)) both
      ∙ ap Over (hashed_end t r.number count same r.is
      ∙ hashed_emission (hash_of (part_in input.given (part_numbered r.number))) count few
      ∙ ap (λ (o : Option (Option (List ℕ))). outcome_of_emission input (with_headers added (whole_record input (hash_of o % count)))) r.names
      ∙ ap (λ (n : ℕ). outcome_of_emission input (with_headers added (whole_record input n))) (hash_found p count))

  -- what a cut emits, or why not
  abbrev pub cut_outcome : (out : ℕ) (bytes : List ℕ) (place count : ℕ) → Outcome
  cut_outcome out bytes place count = outcome_of
      (Number (code_unless input s.emitted (if has_part bytes place count then 0 else 4) (cut_record input out bytes place count)))
      (emitted_unless input s.emitted (if has_part bytes place count then 0 else 4) (cut_record input out bytes place count)).emissions

  pub range_is : (from to : ℕ) (bytes : List ℕ) → from ≤ to → has_range from to bytes ≡ has_part bytes from (to - from)
  range_is from to bytes order =
      let first = le-leb from to order in
      let same : from + (to - from) ≡ to = omega arith in
      rw (first, same) refl

  pub chosen_range : (out from to : ℕ) (bytes : List ℕ) (b : Bool) →
      (if b then unless_refused (emit_code input no_yield (cut_record input out bytes from (to - from)))
      (Kept (with_headers added (cut_record input out bytes from (to - from)) ∷ [])) else
      unless_refused (emit_code input no_yield (cut_record input out bytes from (to - from))) (Rejected 4))
      ≡ outcome_with_value input (with_headers added (whole_record input out)) (if b then Ok (slice_range bytes from to) else
      Err 4)
  chosen_range out from to bytes true = refl
  chosen_range out from to bytes false = refl

  pub cut_is : (out from to : ℕ) (bytes : List ℕ) → from ≤ to → cut_outcome out bytes from (to - from)
      ≡ outcome_with_value input (with_headers added (whole_record input out)) (range_of from to bytes)
  cut_is out from to bytes order =
      ap (λ (b : Yield). outcome_of
      (Number (code_unless input b (if has_part bytes from (to - from) then 0 else 4) (cut_record input out bytes from (to - from))))
      (emitted_unless input b (if has_part bytes from (to - from) then 0 else 4) (cut_record input out bytes from (to - from))).emissions) ready.none
      ∙ cut_unless added (emit_code input no_yield (cut_record input out bytes from (to - from))) (cut_record input out bytes from (to - from))
      (has_part bytes from (to - from))
      ∙ chosen_range out from to bytes (has_part bytes from (to - from))
      ∙ ap (λ (b : Bool). outcome_with_value input (with_headers added (whole_record input out)) (if b then
      Ok (slice_range bytes from to) else Err 4)) (sym (range_is from to bytes order))

  pub cut_numbers : (out from to : ℕ) (bytes : List ℕ) → out ≤ 63 → from ≤ to → to ≤ 1048576 →
      cut_outcome (immediate Bits64 (pos out)) bytes (immediate Bits64 (pos from)) (immediate Bits64 (pos (to - from)))
      ≡ outcome_with_value input (with_headers added (whole_record input out)) (range_of from to bytes)
  cut_numbers out from to bytes few order small =
      rw (small_immediate out (omega arith), small_immediate from (omega arith), small_immediate (to - from) (omega arith))
      (cut_is out from to bytes order)

  abbrev pub cut_list : ℕ → ℕ → ℕ → List Instruction
  cut_list out from to = set 4 (pos (to - from)) ∷ set 1 (pos out) ∷ copy 2 6 ∷ set 3 (pos from) ∷ Call (pos 20) ∷ []

  pub cut_end : (t : State) (number out from to : ℕ) → t.emitted ≡ s.emitted → t.registers 6 ≡ Number number →
      outcome_of ((run_list input (cut_list out from to) t).registers 0) (run_list input (cut_list out from to) t).emitted.emissions
      ≡ cut_outcome (immediate Bits64 (pos out)) (unwrap_or (unwrap_or (part_in input.given (part_numbered number)) None) [])
      (immediate Bits64 (pos from)) (immediate Bits64 (pos (to - from)))
  unfolding state_after helper_among
  cut_end t number out from to same is = rw (is, same) refl

  pub part_cut_stops : (out : ℕ) (p : Part) (from to : ℕ) → FitsPart IsText p → out ≤ 63 → from ≤ to → to ≤ 1048576 →
      run input (part_cut_code out p from to) s
      ≡ Over (outcome_with_value input (with_headers added (whole_record input out)) (range_of from to (bytes_in p input.given)))
  unfolding part_cut_code
  part_cut_stops out p from to fits few order small =
      let r = part_run input given p fits s ready in
      let t = run_list input (part_code p) s in
      let both = runs_both input (part_code p) (cut_list out from to) s in
      let same = r.ready.none ∙ sym ready.none in
      let bytes = ap (λ (o : Option (Option (List ℕ))). unwrap_or (unwrap_or o None) []) r.names
      ∙ ap (λ (o : Option (List ℕ)). unwrap_or o []) (sym (bytes_found p input.given)) in
      ap (λ (u : State). Over (outcome_of (u.registers 0) u.emitted.emissions)) both
      ∙ ap Over (cut_end t r.number out from to same r.is
      ∙ cut_numbers out from to (unwrap_or (unwrap_or (part_in input.given (part_numbered r.number)) None) []) few order small
      ∙ ap (λ (l : List ℕ). outcome_with_value input (with_headers added (whole_record input out)) (range_of from to l)) bytes)

  -- ---- cuts up to a part's end

  abbrev pub rest_list : ℕ → ℕ → List Instruction
  rest_list out from = copy 4 0 ∷ change Sub 4 (pos (from + 2)) ∷ set 1 (pos out) ∷ copy 2 6 ∷ set 3 (pos from)
      ∷ Call (pos 20) ∷ []

  -- how many bytes there are from a place on; very many where the part ends before it
  abbrev pub rest_count : ℕ → ℕ → ℕ
  rest_count size from = (size + 2 + (2 ^ 64 - (from + 2))) % 2 ^ 64

  pub rest_end : (t : State) (number out from size : ℕ) → t.emitted ≡ s.emitted → t.registers 6 ≡ Number number →
      t.registers 0 ≡ Number (size + 2) →
      outcome_of ((run_list input (rest_list out from) t).registers 0) (run_list input (rest_list out from) t).emitted.emissions
      ≡ cut_outcome (immediate Bits64 (pos out)) (unwrap_or (unwrap_or (part_in input.given (part_numbered number)) None) [])
      (immediate Bits64 (pos from)) ((size + 2 + (2 ^ 64 - immediate Bits64 (pos (from + 2)))) % 2 ^ 64)
  unfolding state_after helper_among
  rest_end t number out from size same is answer = rw (is, same, answer) refl

  -- a cut that is not there
  pub no_cut : (out place count : ℕ) (bytes : List ℕ) → length bytes < place + count →
      cut_outcome out bytes place count ≡ unless_refused (emit_code input no_yield (whole_record input out)) (Rejected 4)
  no_cut out place count bytes past =
      let none = lt-leb (place + count) (length bytes) past in
      rw (ready.none, none) (cut_unless added (emit_code input no_yield (whole_record input out)) (cut_record input out bytes place count) false)

  pub rest_is : (out from : ℕ) (bytes : List ℕ) → from ≤ 1048576 → length bytes ≤ 1048576 →
      cut_outcome out bytes from (rest_count (length bytes) from)
      ≡ outcome_with_value input (with_headers added (whole_record input out)) (range_of from (length bytes) bytes)
  rest_is out from bytes low few = ⊎_elim
      (λ past.
      let none = lt-leb from (length bytes) past in
      no_cut out from (rest_count (length bytes) from) bytes (omega arith)
      ∙ rw none refl)
      (λ there.
      let count : rest_count (length bytes) from ≡ length bytes - from = omega arith in
      ap (cut_outcome out bytes from) count ∙ cut_is out from (length bytes) bytes there)
      (cases_lt (length bytes) from)

  pub rest_numbers : (out from : ℕ) (bytes : List ℕ) → out ≤ 63 → from ≤ 1048576 → length bytes ≤ 1048576 →
      cut_outcome (immediate Bits64 (pos out)) bytes (immediate Bits64 (pos from))
      ((length bytes + 2 + (2 ^ 64 - immediate Bits64 (pos (from + 2)))) % 2 ^ 64)
      ≡ outcome_with_value input (with_headers added (whole_record input out)) (range_of from (length bytes) bytes)
  rest_numbers out from bytes few low short =
      rw (small_immediate out (omega arith), small_immediate from (omega arith), small_immediate (from + 2) (omega arith))
      (rest_is out from bytes low short)

  -- r0 is at least 2 behind the jump
  pub record Sized (t : State) (size : ℕ) : Type 0 where
    state : State
    runs : run input (Unless jumps.GreaterOrEqual 0 (Immediate (pos 2)) (Plain (set 0 (pos 2) ∷ []))) t ≡ On state
    emitted : state.emitted ≡ t.emitted
    part : state.registers 6 ≡ t.registers 6
    answer : state.registers 0 ≡ Number (size + 2)

  pub sized : (t : State) (o : Option (Option (List ℕ))) → t.registers 0 ≡ Number (length_answer o) →
      Sized t (length (unwrap_or (unwrap_or o None) []))
  unfolding state_after
  sized t None answer = record {
    state = run_list input (set 0 (pos 2) ∷ []) (goes_to t (t.slot + 1));
    runs = entered input jumps.GreaterOrEqual 0 (Immediate (pos 2)) (Plain (set 0 (pos 2) ∷ [])) t (rw answer refl);
    emitted = refl;
    part = refl;
    answer = refl;
  }
  sized t (Some None) answer = record {
    state = run_list input (set 0 (pos 2) ∷ []) (goes_to t (t.slot + 1));
    runs = entered input jumps.GreaterOrEqual 0 (Immediate (pos 2)) (Plain (set 0 (pos 2) ∷ [])) t (rw answer refl);
    emitted = refl;
    part = refl;
    answer = refl;
  }
  sized t (Some (Some bytes)) answer = record {
    state = goes_to t (t.slot + 1 + 1);
    runs = skipped input jumps.GreaterOrEqual 0 (Immediate (pos 2)) (Plain (set 0 (pos 2) ∷ [])) t
        (rw answer (le-leb 2 (length bytes + 2) (omega arith)));
    emitted = refl;
    part = refl;
    answer = answer;
  }

  pub measured_run : (t : State) (number : ℕ) → t.registers 6 ≡ Number number →
      ((run_list input (copy 1 6 ∷ Call (pos 13) ∷ []) t).registers 0
      ≡ Number (length_answer (part_in input.given (part_numbered number))))
      × ((run_list input (copy 1 6 ∷ Call (pos 13) ∷ []) t).registers 6 ≡ t.registers 6)
      × ((run_list input (copy 1 6 ∷ Call (pos 13) ∷ []) t).emitted ≡ t.emitted)
  unfolding state_after helper_among
  measured_run t number is = (rw is refl, refl, refl)

  pub rest_cut_stops : (out : ℕ) (p : Part) (from : ℕ) → FitsPart IsText p → out ≤ 63 → from ≤ 1048576 →
      run input (rest_cut_code out p from) s
      ≡ Over (outcome_with_value input (with_headers added (whole_record input out))
      (range_of from (length (bytes_in p input.given)) (bytes_in p input.given)))
  unfolding rest_cut_code
  rest_cut_stops out p from fits few low =
      let r = part_run input given p fits s ready in
      let t = run_list input (part_code p) s in
      let m = measured_run t r.number r.is in
      let u = run_list input (copy 1 6 ∷ Call (pos 13) ∷ []) t in
      let z = sized u (found p input.given) (m.0 ∙ ap (λ (o : Option (Option (List ℕ))). Number (length_answer o)) r.names) in
      let both = runs_both input (part_code p) (copy 1 6 ∷ Call (pos 13) ∷ []) s in
      let same = z.emitted ∙ m.2 ∙ r.ready.none ∙ sym ready.none in
      let part = z.part ∙ m.1 ∙ r.is in
      let bytes = ap (λ (o : Option (List ℕ)). unwrap_or o []) (sym (bytes_found p input.given)) in
      let short : IsShort input.given = record { key = given.limits.key; value = given.limits.value; headers = given.limits.headers } in
      let size = ap length (ap (λ (o : Option (Option (List ℕ))). unwrap_or (unwrap_or o None) []) r.names) in
      let small = part_short input.given short (part_numbered r.number) in
      let block : Code = Unless jumps.GreaterOrEqual 0 (Immediate (pos 2)) (Plain (set 0 (pos 2) ∷ [])) in
      let last : Code = Then (Plain (rest_list out from)) Ends in
      then_runs input (Plain (part_code p ++ (copy 1 6 ∷ Call (pos 13) ∷ []))) (Then block last) s u _ (ap On both)
      (then_runs input block last u z.state _ z.runs
      (ap Over (rest_end z.state r.number out from (length (unwrap_or (unwrap_or (found p input.given) None) [])) same part z.answer
      ∙ ap (λ (o : Option (Option (List ℕ))). cut_outcome (immediate Bits64 (pos out)) (unwrap_or (unwrap_or o None) [])
      (immediate Bits64 (pos from)) ((length (unwrap_or (unwrap_or (found p input.given) None) []) + 2
      + (2 ^ 64 - immediate Bits64 (pos (from + 2)))) % 2 ^ 64)) r.names
      ∙ rest_numbers out from (unwrap_or (unwrap_or (found p input.given) None) []) few low (omega (arith, size, small))
      ∙ ap (λ (l : List ℕ). outcome_with_value input (with_headers added (whole_record input out)) (range_of from (length l) l)) bytes)))
