-- The image of rules: a load accepts it, and it means what the rules say.
use Rattle.std.proofs.Common.{◌≡◌, ◌≢◌, ℕ, zero, suc, ◌+◌, ◌<◌, ◌≤◌, get_or, List, [], ◌∷◌, ◌++◌, length, Some, None, refl, sym, subst, arith}
use Rattle.std.proofs.Common.{length-append, ◌∙◌}
use Rattle.std.specs.List.{AllByRecursion}
use Rattle.machine_spec.specs.declared.{instruction.Instruction.Instruction, limits.TheConstants.MAX_SLOTS}
use Rattle.machine_spec.specs.declared.{helper.TheConstants.HELPERS, helper.Table.TheVariants.Three}
use Rattle.machine_spec.specs.declared.instruction.Instruction.TheVariants.{Exit}
use Rattle.machine_spec.specs.{Image.Program, Image.program_of, Image.form_at, Image.IsCodeOf, Machine.Input, Machine.State}
use Rattle.machine_spec.specs.{Traps.trap_at, Machine.state_after}
use Rattle.machine_spec.specs.{Machine.entry, Meaning.Reaches, Meaning.Means, Meaning.outcome_of}
use Rattle.verifier_spec.specs.{declared.state.Abstract.Abstract, StandsFor.IsInput, Loading.IsAccepted}
use Rattle.verifier_spec.specs.{Annotation.IsAnnotation, States.entry_state}
use Rattle.verifier_spec.proofs.{Joins.within_refl}
use Rattle.verifier_spec.proofs.Steps as steps
use Rattle.bpf_isa.{specs.Spelling.HasRegisters, proofs.Reading.code_read}
use Rattle.rules.specs.{Lines.Line, Outcomes.outcome_of_rules, Limits.IsText, Limits.FitsLine}
use Rattle.rules_compiler.specs.Code.{Ends, Then, instructions}
use Rattle.rules_compiler.specs.{Rules.body_of, Rules.code_of, Programs.IsProgramOf}
use Rattle.rules_compiler.proofs.Images.{AreSpelt, spelt_both, image_of, placed_from, code_is, form_there}
use Rattle.rules_compiler.proofs.Flows.{Flow, states_of, Closed, Begins, closed_both, end_holds, flow_closed, flow_begins}
use Rattle.rules_compiler.proofs.Flows.{flow_length}
use Rattle.rules_compiler.proofs.Annotations.{claims_of, annotation}
use Rattle.rules_compiler.proofs.Walks.{Course, Over, run, flow_leads, Comes, comes}
use Rattle.rules_compiler.proofs.RuleFlows.{ended, body_flow, ended_proper, entry_proper, ended_exits}
use Rattle.rules_compiler.proofs.{Outcomes.rules_end, SpeltRules.body_spells, Spelt.spelt_exit}

module _ (lines : List Line)
    (fits : AllByRecursion (FitsLine IsText) lines) (few : length (instructions (code_of lines)) ≤ MAX_SLOTS) where
  abbrev code : List Instruction
  code = instructions (body_of lines) ++ Exit ∷ []

  code_is_list : instructions (code_of lines) ≡ instructions (body_of lines) ++ Exit ∷ []
  unfolding code_of
  code_is_list = refl

  short : length (instructions (body_of lines) ++ Exit ∷ []) ≤ MAX_SLOTS
  short = subst (λ (l : List Instruction). length l ≤ MAX_SLOTS) code_is_list few

  spelt : AreSpelt (instructions (body_of lines) ++ Exit ∷ [])
  spelt =
      let long = length-append (instructions (body_of lines)) (Exit ∷ []) in
      spelt_both (instructions (body_of lines)) (Exit ∷ []) ((body_spells lines fits).spelt (omega (arith, short, long))) (spelt_exit, tt)

  is_code : IsCodeOf (image_of (instructions (body_of lines) ++ Exit ∷ [])) (placed_from 0 (instructions (body_of lines) ++ Exit ∷ []))
  is_code =
      let long = length-append (instructions (body_of lines)) (Exit ∷ []) in
      code_is (instructions (body_of lines) ++ Exit ∷ []) spelt (omega (arith, long)) short

  flow : Flow (body_of lines) entry_state ended
  flow = body_flow lines fits

  abbrev states : List Abstract
  states = states_of (body_of lines) entry_state ended (body_flow lines fits) ++ ended ∷ []

  last : Begins (ended ∷ []) ended
  last = record { first = ended; is = refl; within = within_refl ended }

  closed : Closed (instructions (body_of lines) ++ Exit ∷ []) states []
  closed = closed_both (instructions (body_of lines)) (Exit ∷ [])
      (states_of (body_of lines) entry_state ended (body_flow lines fits)) (ended ∷ []) []
      (flow_closed (body_of lines) entry_state ended (body_flow lines fits) (ended ∷ []) entry_proper last)
      (end_holds ended [] ended_exits ended_proper, tt)

  annotated : IsAnnotation HELPERS (placed_from 0 (instructions (body_of lines) ++ Exit ∷ [])) (claims_of states)
  annotated =
      let long = length-append (instructions (body_of lines)) (Exit ∷ []) in
      let states_long = length-append (states_of (body_of lines) entry_state ended (body_flow lines fits)) (ended ∷ []) in
      annotation (instructions (body_of lines) ++ Exit ∷ []) states
      (image_of (instructions (body_of lines) ++ Exit ∷ []))
      (omega (arith, long, states_long, flow_length (body_of lines) entry_state ended (body_flow lines fits)))
      closed is_code (flow_begins (body_of lines) entry_state ended (body_flow lines fits) (ended ∷ []) last)

  abbrev program : Program
  program = program_of (image_of (instructions (body_of lines) ++ Exit ∷ [])) Three

  accepted : IsAccepted (program_of (image_of (instructions (body_of lines) ++ Exit ∷ [])) Three)
  accepted = record {
    code = placed_from 0 (instructions (body_of lines) ++ Exit ∷ []);
    read = code_read _ _ is_code;
    claims = claims_of states;
    annotation = annotated;
  }

  module _ (input : Input) (given : IsInput input) where
    no_trap : (n : ℕ) (s : State) → Reaches program input n s → trap_at program input s ≡ None
    no_trap = steps.no_trap program input (placed_from 0 (instructions (body_of lines) ++ Exit ∷ [])) (claims_of states)
        is_code annotated given

    step_on : (n : ℕ) (s : State) (i : Instruction) → Reaches program input n s → form_at program.image s.slot ≡ Some i →
        i ≢ Exit → Reaches program input (n + 1) (state_after i input s)
    step_on = steps.step_at program input (placed_from 0 (instructions (body_of lines) ++ Exit ∷ [])) (claims_of states)
        is_code annotated given

    stops : (n : ℕ) (s : State) → Reaches program input n s → form_at program.image s.slot ≡ Some Exit →
        Means program input (outcome_of (s.registers 0) s.emitted.emissions) (n + 1)
    stops n s chain form = record {
      steps = n;
      last = s;
      count = refl;
      chain = chain;
      end = record { form = form; no_trap = no_trap n s chain; outcome_is = refl };
    }

    whole_run : run input (Then (body_of lines) Ends) (entry input) ≡ Over (outcome_of_rules lines input)
    unfolding code_of
    whole_run = rules_end input given lines fits

    means : (n : ℕ) × Means program input (outcome_of_rules lines input) n
    means =
        subst (λ (c : Course). Comes program input step_on stops (0 + length (instructions (body_of lines) ++ Exit ∷ [])) c) whole_run
        (comes program input step_on stops (Then (body_of lines) Ends) 0 (entry input)
        (flow_leads (body_of lines) entry_state ended (body_flow lines fits), tt) refl
        (λ k i at. subst (λ (slot : ℕ). form_at program.image slot ≡ Some i) (omega arith)
        (form_there (instructions (body_of lines) ++ Exit ∷ []) spelt k i at)))

  pub is_program : IsProgramOf lines (image_of (instructions (code_of lines)))
  is_program = subst (λ (l : List Instruction). IsProgramOf lines (image_of l)) (sym code_is_list) (record {
    accepted = accepted;
    means = means;
  })

  pub registers : (list : List Instruction) → list ≡ instructions (code_of lines) → (k : ℕ) (d : Instruction) →
      k < length list → HasRegisters (get_or list k d)
  registers list same k d low =
      spelt_registers list (subst AreSpelt (sym (same ∙ code_is_list)) spelt) k d low
    where
      spelt_registers : (list : List Instruction) → AreSpelt list → (k : ℕ) (d : Instruction) → k < length list →
          HasRegisters (get_or list k d)
      spelt_registers [] are k d low = absurd (omega arith)
      spelt_registers (i ∷ list) are zero d low = are.0.names
      spelt_registers (i ∷ list) are (suc k) d low = spelt_registers list are.1 k d (omega arith)
