-- How a run of rules ends.
use Rattle.std.proofs.Common.{◌≡◌, ◌+◌, pos, Bool, true, false}
use Rattle.std.proofs.Common.{if◌then◌else◌, List, [], ◌∷◌, length, Option, Some}
use Rattle.std.proofs.Common.{None, refl, sym, ap, ◌∙◌, subst}
use Rattle.std.specs.List.{AllByRecursion}
use Rattle.machine_spec.specs.declared.{outcome.Outcome.Outcome}
use Rattle.machine_spec.specs.declared.outcome.Outcome.TheVariants.{Kept}
use Rattle.machine_spec.specs.declared.instruction.Source.TheVariants.{Immediate}
use Rattle.machine_spec.specs.declared.operation.Test.TheVariants as jumps
use Rattle.machine_spec.specs.Values.{Number}
use Rattle.machine_spec.specs.Machine.{Input, State, state_after, goes_to, entry, Yield}
use Rattle.verifier_spec.specs.StandsFor.{IsInput}
use Rattle.rules.specs.Formulas.{Formula}
use Rattle.rules.specs.Lines.{Line}
use Rattle.rules.specs.Meaning.{holds, holds_if, takes, chosen}
use Rattle.rules.specs.Outcomes.{outcome_of_action}
use Rattle.rules.specs.Outcomes.{outcome_of_chosen, outcome_of_rules}
use Rattle.rules.specs.Limits.{IsText, FitsWhen, FitsLine}
use Rattle.rules_compiler.specs.Code.{Code, Ends, Then, Unless, instructions}
use Rattle.rules_compiler.specs.Pieces.{copy}
use Rattle.rules_compiler.specs.Actions.{action_code}
use Rattle.rules_compiler.specs.Rules.{condition_code, guarded_code, line_code, lines_code, rest_code, body_of}
use Rattle.rules_compiler.specs.Rules.{code_of, first_code, asks_first, key_condition_code, key_line_code}
use Rattle.rules_compiler.specs.Rules.{opening_code, opening_of, rules_code}
use Rattle.rules_compiler.proofs.KeyEffects.{KeyReady, key_condition_decides}
use Rattle.std.proofs.{lemmas.Bool.cond_both}
use Rattle.rules_compiler.proofs.Walks.{Course, On, Over, then_on, run_list, run}
use Rattle.rules_compiler.proofs.Ready.{Ready}
use Rattle.rules_compiler.proofs.Courses.{bit_of, then_runs, skipped, entered}
use Rattle.rules_compiler.proofs.Effects.{condition_decides}
use Rattle.rules_compiler.proofs.ActionEnds.{action_stops}

-- ---- rules

-- the run ends, where a rule takes the record; else it goes on
abbrev pub EndsIf : Input → Outcome → Bool → Course → Type 0
EndsIf input o true c = c ≡ Over o
EndsIf input o false c = (t : State) × (c ≡ On t) × Ready input t

module _ (input : Input) (given : IsInput input) where
  block_ends : (block : Code) (o : Outcome) (t : State) → ((u : State) → Ready input u → run input block u ≡ Over o) →
      Ready input t → (b : Bool) → t.registers 8 ≡ Number (bit_of b) →
      EndsIf input o b (run input (Unless jumps.Equal 8 (Immediate (pos 0)) block) t)
  block_ends block o t stops ready true truth =
      entered input jumps.Equal 8 (Immediate (pos 0)) block t (rw truth refl) ∙ stops (goes_to t (t.slot + 1)) (assumption ready)
  block_ends block o t stops ready false truth = (
    goes_to t (t.slot + 1 + length (instructions block)),
    skipped input jumps.Equal 8 (Immediate (pos 0)) block t (rw truth refl),
    assumption ready,
  )

  guarded_ends : (c : Option Formula) (block : Code) (o : Outcome) → FitsWhen IsText c →
      ((u : State) → Ready input u → run input block u ≡ Over o) → (s : State) → Ready input s →
      EndsIf input o (holds_if c input.given input.place) (run input (guarded_code c block) s)
  guarded_ends None block o fits stops s ready = stops s ready
  guarded_ends (Some c) block o fits stops s ready =
      let d = condition_decides input given c fits.tests s ready in
      let guard : Code = Unless jumps.Equal 8 (Immediate (pos 0)) block in
      subst (EndsIf input o (holds c input.given input.place))
      (sym (then_runs input (condition_code c) guard s d.state (run input guard d.state) d.runs refl))
      (block_ends block o d.state stops d.ready (holds c input.given input.place) d.truth)

  line_ends : (line : Line) → FitsLine IsText line → (s : State) → Ready input s →
      EndsIf input (outcome_of_action line.action input) (takes line input.given input.place) (run input (line_code line) s)
  unfolding line_code
  line_ends line fits s ready =
      guarded_ends line.condition (action_code line.action) (outcome_of_action line.action input) fits.condition
      (λ u clear. action_stops input given u clear line.action fits.action) s ready

  -- the run ends as a rule does that is chosen, if one is
  abbrev EndsAs : Option Line → Course → Type 0
  EndsAs (Some line) c = c ≡ Over (outcome_of_action line.action input)
  EndsAs None c = (t : State) × (c ≡ On t) × Ready input t

  first_or : (line : Line) (rest : Option Line) (b : Bool) (c : Course) (go : State → Course) →
      EndsIf input (outcome_of_action line.action input) b c → ((t : State) → Ready input t → EndsAs rest (go t)) →
      EndsAs (if b then Some line else rest) (then_on c go)
  first_or line rest true c go e next = ap (λ (d : Course). then_on d go) e
  first_or line rest false c go e next =
      subst (λ (d : Course). EndsAs rest (then_on d go)) (sym e.1) (next e.0 e.2)

  lines_end : (lines : List Line) → AllByRecursion (FitsLine IsText) lines →
      (s : State) → Ready input s → EndsAs (chosen lines input.given input.place) (run input (lines_code lines) s)
  unfolding lines_code
  lines_end [] fits s ready = (s, refl, ready)
  lines_end (line ∷ lines) fits s ready =
      first_or line (chosen lines input.given input.place) (takes line input.given input.place) (run input (line_code line) s)
      (λ t. run input (lines_code lines) t) (line_ends line fits.0 s ready)
      (λ t clear. lines_end lines fits.1 t clear)

  -- what is behind the rules keeps the record
  rest_or : (found : Option Line) (c : Course) → EndsAs found c →
      then_on (then_on c (λ t. run input rest_code t)) (λ t. run input Ends t) ≡ Over (outcome_of_chosen found input)
  unfolding state_after
  rest_or (Some line) c e = rw e refl
  rest_or None c e = rw e.1 (ap (λ (l : Yield). Over (Kept l.emissions)) e.2.none)

  -- the state behind the first instructions
  abbrev first_state : State
  first_state = run_list input (copy 7 2 ∷ copy 9 1 ∷ []) (entry input)

  first_ready : Ready input first_state
  unfolding state_after
  first_ready = record { none = refl; length_is = refl; value_is = refl; frame_is = refl }

  entry_ready : KeyReady input (entry input)
  entry_ready =
      record { none = refl; value_is = refl; value_long = refl; key_is = refl; key_long = refl; frame_is = refl }

  -- what is kept of the value from the first rule's condition on
  keeps_ready : (s : State) → KeyReady input s → Ready input (run_list input (copy 7 2 ∷ copy 9 1 ∷ []) s)
  unfolding state_after
  keeps_ready s ready = record {
    none = ready.none;
    length_is = ready.value_long;
    value_is = ready.value_is;
    frame_is = ready.frame_is;
  }

  keeps_truth : (s : State) → (run_list input (copy 7 2 ∷ copy 9 1 ∷ []) s).registers 8 ≡ s.registers 8
  unfolding state_after
  keeps_truth s = refl

  key_ends : (c : Option Formula) (block : Code) (o : Outcome) → FitsWhen IsText c → asks_first c ≡ true →
      ((u : State) → Ready input u → run input block u ≡ Over o) → (s : State) → KeyReady input s →
      EndsIf input o (holds_if c input.given input.place) (run input (key_line_code c block) s)
  unfolding key_line_code
  key_ends None block o fits asks stops s ready = absurd cc
  key_ends (Some c) block o fits asks stops s ready =
      let d = key_condition_decides input given s ready c fits.tests asks in
      let guard : Code = Unless jumps.Equal 8 (Immediate (pos 0)) block in
      let u = run_list input (copy 7 2 ∷ copy 9 1 ∷ []) d.state in
      subst (EndsIf input o (holds c input.given input.place))
      (sym (then_runs input (key_condition_code c) (Then first_code guard) s d.state (run input guard u) d.runs
      (then_runs input first_code guard d.state u (run input guard u) refl refl)))
      (block_ends block o u stops (keeps_ready d.state d.ready) (holds c input.given input.place) (keeps_truth d.state ∙ d.truth))

  plain_ends : (line : Line) → FitsLine IsText line →
      EndsIf input (outcome_of_action line.action input) (takes line input.given input.place)
      (run input (Then first_code (line_code line)) (entry input))
  plain_ends line fits =
      subst (EndsIf input (outcome_of_action line.action input) (takes line input.given input.place))
      (sym (then_runs input first_code (line_code line) (entry input) first_state (run input (line_code line) first_state) refl refl))
      (line_ends line fits first_state first_ready)

  opening_ends : (line : Line) → FitsLine IsText line →
      EndsIf input (outcome_of_action line.action input) (takes line input.given input.place)
      (run input (opening_code line) (entry input))
  unfolding opening_code
  opening_ends line fits = cond_both (asks_first line.condition)
      (key_line_code line.condition (action_code line.action)) (Then first_code (line_code line))
      (λ code. EndsIf input (outcome_of_action line.action input) (takes line input.given input.place)
      (run input code (entry input)))
      (λ asks. key_ends line.condition (action_code line.action) (outcome_of_action line.action input) fits.condition asks
      (λ u clear. action_stops input given u clear line.action fits.action) (entry input) entry_ready)
      (λ other. plain_ends line fits)

  all_end : (lines : List Line) → AllByRecursion (FitsLine IsText) lines →
      EndsAs (chosen lines input.given input.place) (run input (rules_code lines) (entry input))
  unfolding rules_code opening_of lines_code
  all_end [] fits = (first_state, refl, first_ready)
  all_end (line ∷ lines) fits =
      first_or line (chosen lines input.given input.place) (takes line input.given input.place)
      (run input (opening_code line) (entry input)) (λ t. run input (lines_code lines) t) (opening_ends line fits.0)
      (λ t clear. lines_end lines fits.1 t clear)

  pub rules_end : (lines : List Line) → AllByRecursion (FitsLine IsText) lines →
      run input (code_of lines) (entry input) ≡ Over (outcome_of_rules lines input)
  unfolding code_of body_of
  rules_end lines fits =
      rest_or (chosen lines input.given input.place) (run input (rules_code lines) (entry input)) (all_end lines fits)
