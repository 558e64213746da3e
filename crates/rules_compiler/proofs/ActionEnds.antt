-- How a run ends that an action ends: changed values, and each action.
use Rattle.std.proofs.Common.{◌≡◌, ℕ, zero, suc, ◌+◌, ◌-◌, ◌≤◌, pos, Bool, true, false}
use Rattle.std.proofs.Common.{◌==◌, nat_lt, nat_le, if◌then◌else◌, List, [], ◌∷◌, ◌++◌, length, Option, Some}
use Rattle.std.proofs.Common.{None, refl, sym, ap, ◌∙◌, arith, ⊎_elim}
use Rattle.std.specs.Prelude.{Ok, Err, unwrap_or}
use Rattle.std.proofs.lemmas.Bool.{le-leb}
use Rattle.machine_spec.specs.declared.{outcome.Outcome.Outcome}
use Rattle.machine_spec.specs.declared.outcome.Outcome.TheVariants.{Kept, Rejected}
use Rattle.machine_spec.specs.declared.operation.Width.TheVariants.{Bits64}
use Rattle.machine_spec.specs.Values.{Number, immediate}
use Rattle.machine_spec.specs.Machine.{Input, State, state_after, goes_to, bytes_of, emit_code, Yield, no_yield}
use Rattle.wire_spec.specs.declared.record.Header.{Header}
use Rattle.machine_spec.specs.Machine.{length_of, bytes_read, named_access, with_headers, header_of, header_refusal, header_added}
use Rattle.machine_spec.specs.Machine.{change_refusal, changed_record, changed_bytes, whole_record, has_part, code_unless, emitted_unless}
use Rattle.machine_spec.specs.Signatures.{helper_among}
use Rattle.machine_spec.specs.{Meaning.outcome_of}
use Rattle.verifier_spec.specs.StandsFor.{IsInput}
use Rattle.rules.specs.declared.{rule.Output.Output, rule.AddedHeader.AddedHeader}
use Rattle.rules.specs.declared.rule.Action.{Action}
use Rattle.rules.specs.declared.rule.Output.TheVariants as output
use Rattle.rules.specs.declared.rule.Action.TheVariants as action
use Rattle.rules.specs.Meaning.{holds}
use Rattle.rules.specs.Outcomes.{unless_refused, outcome_with_value, has_range, range_of}
use Rattle.rules.specs.Outcomes.{replaced, changed_of, bytes_in, outcome_of_output, outcome_of_added, outcome_of_action}
use Rattle.rules.specs.Limits.{IsText, FitsOutput, FitsAdded, FitsAction, FitsEnd}
use Rattle.rules_compiler.specs.Pieces.{word_count, text_code}
use Rattle.rules_compiler.specs.Actions.{cut_code, output_code}
use Rattle.rules_compiler.specs.Actions.{change_call, changed_code, name_header, added_code, with_added, action_code}
use Rattle.rules_compiler.specs.Code.{Code, Ends, Then, Unless}
use Rattle.machine_spec.specs.declared.instruction.Source.TheVariants.{Immediate}
use Rattle.machine_spec.specs.declared.operation.Test.TheVariants as jumps
use Rattle.machine_spec.specs.declared.summary.Direction.{Direction}
use Rattle.rules_compiler.proofs.Walks.{Course, Over, then_on, run_list, run}
use Rattle.rules_compiler.proofs.Courses.{skipped, entered}
use Rattle.rules_compiler.proofs.Ready.{Ready, ReadyWith, silent, small_immediate}
use Rattle.rules_compiler.proofs.Texts.{near_stands, far_stands, runs_both, HoldsFrom, HoldsText, text_has, text_read, bytes_of_text}
use Rattle.rules_compiler.specs.declared.pieces.TheConstants.{NEAR, FAR}
use Rattle.wire_spec.specs.declared.limits.TheConstants.{MAX_VALUE}
use Rattle.machine_spec.specs.declared.{instruction.Region.Region, limits.TheConstants.STACK_SIZE}
use Rattle.machine_spec.specs.{Values.Address, Values.result_of}
use Rattle.std.proofs.Common.{not, append_assoc, take, drop}
use Rattle.std.proofs.lemmas.Bool.{lt-leb, lt-ltb, le-ltb, cases_lt}
use Rattle.machine_spec.specs.declared.instruction.{Instruction.Instruction, Instruction.TheVariants.Call}
use Rattle.machine_spec.specs.declared.operation.Operation.TheVariants.{Add}
use Rattle.rules_compiler.proofs.Emissions.{not_zero, refused_unless, range_is, drop_stops, record_stops, null_stops, hashed_stops}
use Rattle.rules_compiler.proofs.Emissions.{part_cut_stops, rest_cut_stops}

module _ (input : Input) (given : IsInput input) (added : List Header) (s : State) (ready : ReadyWith input added s) where
  -- ---- changed values

  abbrev pub change_list : (out from to size : ℕ) → List Instruction
  change_list out from to size = change_call out from to size ++ Call (pos 21) ∷ []

  abbrev pub change_outcome : (out place count : ℕ) → List ℕ → Outcome
  change_outcome out place count text = outcome_of
      (Number (code_unless input s.emitted (change_refusal (bytes_of input.given.value) place count text)
      (changed_record input out place count text)))
      (emitted_unless input s.emitted (change_refusal (bytes_of input.given.value) place count text)
      (changed_record input out place count text)).emissions

  pub change_end : (t : State) (out from to : ℕ) (text : List ℕ) → t.emitted ≡ s.emitted →
      t.registers 10 ≡ Address Region.Stack (pos STACK_SIZE) → HoldsText t.stack text (word_count (length text)) →
      length text ≤ 255 →
      outcome_of ((run_list input (change_list out from to (length text)) t).registers 0)
      (run_list input (change_list out from to (length text)) t).emitted.emissions
      ≡ change_outcome (immediate Bits64 (pos out)) (immediate Bits64 (pos from)) (immediate Bits64 (pos (to - from))) text
  unfolding state_after helper_among
  change_end t out from to text same frame holds few =
      let read = text_read 256 input t.stack text (immediate Bits64 (pos (length text)))
      (result_of Bits64 Add (t.registers 10) (Number (immediate Bits64 NEAR))) (Number (immediate Bits64 (pos (length text))))
      holds (rw frame refl) refl (small_immediate (length text) (omega arith)) in
      rw (same, read) refl

  pub changed_value_is : (out from to : ℕ) (text : List ℕ) (b c : Bool) →
      has_part (bytes_of input.given.value) from (to - from) ≡ b →
      nat_lt MAX_VALUE (length (changed_bytes (bytes_of input.given.value) from (to - from) text)) ≡ c → from ≤ to →
      (if (if b then (if c then 5 else 0) else 4) == 0 then
      unless_refused (emit_code input no_yield (whole_record input out)) (Kept (with_headers added (changed_record input out from (to - from) text) ∷ []))
      else unless_refused (emit_code input no_yield (whole_record input out)) (Rejected (if b then (if c then 5 else 0) else 4)))
      ≡ outcome_with_value input (with_headers added (whole_record input out)) (if b then (if not c then
      Ok (replaced from to text (bytes_of input.given.value)) else Err 5) else Err 4)
  changed_value_is out from to text true true has long order = refl
  changed_value_is out from to text true false has long order =
      let sum : from + (to - from) ≡ to = omega arith in
      rw (sum, append_assoc (take from (bytes_of input.given.value)) text (drop to (bytes_of input.given.value))) refl
  changed_value_is out from to text false c has long order = refl

  pub changed_is : (out from to : ℕ) (text : List ℕ) → from ≤ to → change_outcome out from (to - from) text
      ≡ outcome_with_value input (with_headers added (whole_record input out))
      (changed_of from to text (bytes_of input.given.value))
  changed_is out from to text order =
      let value = bytes_of input.given.value in
      let refusal = change_refusal value from (to - from) text in
      let sum : from + (to - from) ≡ to = omega arith in
      ap (λ (b : Yield). outcome_of (Number (code_unless input b refusal (changed_record input out from (to - from) text)))
      (emitted_unless input b refusal (changed_record input out from (to - from) text)).emissions) ready.none
      ∙ refused_unless added (emit_code input no_yield (whole_record input out)) (changed_record input out from (to - from) text) refusal
      ∙ changed_value_is out from to text (has_part value from (to - from))
      (nat_lt MAX_VALUE (length (changed_bytes value from (to - from) text))) refl refl order
      ∙ ap (λ (b : Bool). outcome_with_value input (with_headers added (whole_record input out)) (if b then
      (if not (nat_lt MAX_VALUE (length (changed_bytes value from (to - from) text))) then Ok (replaced from to text value) else Err 5)
      else Err 4)) (sym (range_is input given added s ready from to value order))
      ∙ ap (λ (b : Bool). outcome_with_value input (with_headers added (whole_record input out)) (if has_range from to value then
      (if b then Ok (replaced from to text value) else Err 5) else Err 4)) (within_is from to value sum)
    where
      within_is : (from to : ℕ) (value : List ℕ) → from + (to - from) ≡ to →
          not (nat_lt MAX_VALUE (length (changed_bytes value from (to - from) text)))
          ≡ nat_le (length (replaced from to text value)) MAX_VALUE
      within_is from to value sum = rw (sum, append_assoc (take from value) text (drop to value)) (⊎_elim
          (λ long. let a = lt-ltb MAX_VALUE (length (replaced from to text value)) long in
          let b = lt-leb (length (replaced from to text value)) MAX_VALUE long in rw (a, b) refl)
          (λ short. let a = le-ltb MAX_VALUE (length (replaced from to text value)) short in
          let b = le-leb (length (replaced from to text value)) MAX_VALUE short in rw (a, b) refl)
          (cases_lt MAX_VALUE (length (replaced from to text value))))

  pub changed_stops : (out from to : ℕ) (text : List ℕ) → IsText text → out ≤ 63 → from ≤ to → to ≤ 1048576 →
      run input (changed_code out from to text) s ≡ Over (outcome_of_output (output.Changed out from to text) added input)
  unfolding changed_code
  changed_stops out from to text is few order small =
      let has = text_has input near_stands text (bytes_of_text text is) is.few s ready in
      let t = run_list input (text_code NEAR text) s in
      let both = runs_both input (text_code NEAR text) (change_list out from to (length text)) s in
      let same = has.ready.none ∙ sym ready.none in
      ap (λ (u : State). Over (outcome_of (u.registers 0) u.emitted.emissions)) both
      ∙ ap Over (change_end t out from to text same has.ready.frame_is has.holds is.few
      ∙ rw (small_immediate out (omega arith), small_immediate from (omega arith), small_immediate (to - from) (omega arith))
      (changed_is out from to text order))

  pub output_stops : (what : Output) → FitsOutput IsText what → run input (output_code what) s ≡ Over (outcome_of_output what added input)
  unfolding output_code
  output_stops (output.Record out) fits = record_stops input given added s ready out fits.high_is
  output_stops (output.Hashed p count) fits = hashed_stops input given added s ready p count fits.0 fits.1.high_is
  output_stops (output.Cut out p cut) fits = from cut.to fits.1.1.to
    where
      from : (to : Option ℕ) → FitsEnd cut.from to →
          run input (cut_code out p cut.from to) s ≡ Over (outcome_with_value input (with_headers added (whole_record input out))
          (range_of cut.from (unwrap_or to (length (bytes_in p input.given))) (bytes_in p input.given)))
      from None ends = rest_cut_stops input given added s ready out p cut.from fits.1.0 fits.0.high_is fits.1.1.from.high_is
      from (Some to) ends = part_cut_stops input given added s ready out p cut.from to fits.1.0 fits.0.high_is ends.low_is ends.high_is
  output_stops (output.Changed out from to text) fits =
      changed_stops out from to text fits.1.1.1 fits.0.high_is fits.1.1.0.low_is fits.1.1.0.high_is

-- ---- added headers

module _ (input : Input) (s : State) (ready : Ready input s) (key value : List ℕ) (key_is : IsText key) (value_is : IsText value) where
  -- both texts stand in the stack
  pub record HasBoth (t : State) : Type 0 where
    clear : Ready input t
    keys : HoldsFrom 0 t.stack key (word_count (length key))
    values : HoldsFrom 256 t.stack value (word_count (length value))

  both_stand : HasBoth (run_list input (text_code NEAR value) (run_list input (text_code FAR key) s))
  both_stand =
      let one = text_has input far_stands key (bytes_of_text key key_is) key_is.few s ready in
      let t = run_list input (text_code FAR key) s in
      let other = text_has input near_stands value (bytes_of_text value value_is) value_is.few t one.ready in
      let few = key_is.few in
      record {
        clear = other.ready;
        keys = λ p low. other.below (0 + p) (omega arith) ∙ one.holds p low;
        values = other.holds;
      }

  abbrev adding : List Instruction
  adding = name_header (length key) (length value) ++ Call (pos 22) ∷ []

  module _ (t : State) (has : HasBoth t) where
    key_read : bytes_read input t.stack (named_access Direction.Read
        (result_of Bits64 Add (t.registers 10) (Number (immediate Bits64 FAR))) (Number (immediate Bits64 (pos (length key))))) ≡ key
    key_read =
        let frame = has.clear.frame_is in
        let few = key_is.few in
        text_read 0 input t.stack key (immediate Bits64 (pos (length key)))
        (result_of Bits64 Add (t.registers 10) (Number (immediate Bits64 FAR))) (Number (immediate Bits64 (pos (length key))))
        has.keys (rw frame refl) refl (small_immediate (length key) (omega arith))

    value_read : bytes_read input t.stack (named_access Direction.Read
        (result_of Bits64 Add (t.registers 10) (Number (immediate Bits64 NEAR))) (Number (immediate Bits64 (pos (length value)))))
        ≡ value
    value_read =
        let frame = has.clear.frame_is in
        let few = value_is.few in
        text_read 256 input t.stack value (immediate Bits64 (pos (length value)))
        (result_of Bits64 Add (t.registers 10) (Number (immediate Bits64 NEAR))) (Number (immediate Bits64 (pos (length value))))
        has.values (rw frame refl) refl (small_immediate (length value) (omega arith))

    added_answer : (run_list input (name_header (length key) (length value) ++ Call (pos 22) ∷ []) t).registers 0
        ≡ Number (header_refusal input.given no_yield key value)
    unfolding state_after helper_among
    added_answer = rw (key_read, value_read, has.clear.none) refl

    added_yield : (run_list input (name_header (length key) (length value) ++ Call (pos 22) ∷ []) t).emitted
        ≡ header_added input.given no_yield key value
    unfolding state_after helper_among
    added_yield = rw (key_read, value_read, has.clear.none) refl

  -- behind the call the run ends with its answer, or goes on with the header
  goes_on : (block : Code) (o : Outcome) →
      ((u : State) → ReadyWith input (header_of key value ∷ []) u → run input block u ≡ Over o) → (t : State) (code : ℕ) →
      t.registers 0 ≡ Number code → t.emitted ≡ (if code == 0 then silent (header_of key value ∷ []) else no_yield) →
      t.registers 7 ≡ Number (length_of input Region.Value) → t.registers 9 ≡ Address Region.Value (pos 0) →
      t.registers 10 ≡ Address Region.Stack (pos STACK_SIZE) →
      then_on (run input (Unless jumps.Equal 0 (Immediate (pos 0)) Ends) t) (λ u. run input block u)
      ≡ Over (unless_refused code o)
  goes_on block o stops t zero answer emitted seven nine ten =
      ap (λ (c : Course). then_on c (λ u. run input block u))
      (skipped input jumps.Equal 0 (Immediate (pos 0)) Ends t (rw answer refl))
      ∙ stops (goes_to t (t.slot + 1 + 1)) (record {
        none = emitted;
        length_is = seven;
        value_is = nine;
        frame_is = ten;
      })
  goes_on block o stops t (suc code) answer emitted seven nine ten =
      ap (λ (c : Course). then_on c (λ u. run input block u))
      (entered input jumps.Equal 0 (Immediate (pos 0)) Ends t (rw (answer, not_zero code) refl))
      ∙ rw (answer, not_zero code) refl

  call_runs : (block : Code) (o : Outcome) →
      ((u : State) → ReadyWith input (header_of key value ∷ []) u → run input block u ≡ Over o) → (t : State) → HasBoth t →
      then_on (run input (Unless jumps.Equal 0 (Immediate (pos 0)) Ends)
      (run_list input (name_header (length key) (length value) ++ Call (pos 22) ∷ []) t)) (λ u. run input block u)
      ≡ Over (unless_refused (header_refusal input.given no_yield key value) o)
  unfolding state_after helper_among
  call_runs block o stops t has =
      goes_on block o stops (run_list input adding t) (header_refusal input.given no_yield key value) (added_answer t has)
      (added_yield t has) has.clear.length_is has.clear.value_is has.clear.frame_is

  -- code that ends so where the header is added
  pub added_ends : (block : Code) (o : Outcome) →
      ((u : State) → ReadyWith input (header_of key value ∷ []) u → run input block u ≡ Over o) →
      run input (Then (added_code key value) block) s
      ≡ Over (unless_refused (header_refusal input.given no_yield key value) o)
  unfolding added_code
  added_ends block o stops =
      let t = run_list input (text_code FAR key) s in
      ap (λ (u : State). then_on (run input (Unless jumps.Equal 0 (Immediate (pos 0)) Ends) u) (λ v. run input block v))
      (runs_both input (text_code FAR key) (text_code NEAR value ++ adding) s ∙ runs_both input (text_code NEAR value) adding t)
      ∙ call_runs block o stops (run_list input (text_code NEAR value) t) both_stand

-- ---- actions

module _ (input : Input) (given : IsInput input) (s : State) (ready : Ready input s) where
  added_stops : (what : Output) (added : Option AddedHeader) → FitsOutput IsText what → FitsAdded IsText added →
      run input (with_added added (output_code what)) s ≡ Over (outcome_of_added what added input)
  added_stops what None fits none = output_stops input given [] s ready what fits
  added_stops what (Some h) fits texts =
      added_ends input s ready h.key h.value texts.0 texts.1 (output_code what)
      (outcome_of_output what (header_of h.key h.value ∷ []) input)
      (λ u clear. output_stops input given (header_of h.key h.value ∷ []) u clear what fits)

  pub action_stops : (a : Action) → FitsAction IsText a → run input (action_code a) s ≡ Over (outcome_of_action a input)
  unfolding action_code
  action_stops (action.Drop n) fits = drop_stops input given [] s ready n fits.low_is (omega (arith, fits.high_is))
  action_stops (action.Tombstone out) fits = null_stops input given [] s ready out fits.high_is
  action_stops (action.Output what added) fits = added_stops what added fits.0 fits.1
