-- The flow of each term.
use Rattle.std.proofs.Common.{ℕ, ◌+◌, ◌^◌, pos, List, [], ◌∷◌, ◌++◌}
use Rattle.std.proofs.Common.{refl}
use Rattle.std.proofs.lemmas.Bool.{cond_both, leb-true}
use Rattle.wire_spec.specs.declared.limits.TheConstants.{MAX_VALUE}
use Rattle.machine_spec.specs.declared.instruction.Instruction.{Instruction}
use Rattle.machine_spec.specs.declared.instruction.Instruction.TheVariants.{Call}
use Rattle.verifier_spec.specs.declared.{state.Abs.Abs, state.StackSet.StackSet}
use Rattle.verifier_spec.specs.States.{is_proper, each_below}
use Rattle.verifier_spec.specs.{Checks.failed_check}
use Rattle.machine_spec.specs.Signatures.{helper_among}
use Rattle.verifier_spec.specs.{Transfer.falls_to, Transfer.jumps_to}
use Rattle.verifier_spec.proofs.{Joins.within_refl}
use Rattle.rules.specs.declared.{rule.Part.Part, rule.Term.Term}
use Rattle.rules.specs.declared.rule.Term.TheVariants as term
use Rattle.rules_compiler.specs.Pieces.{set, copy, part_code}
use Rattle.rules_compiler.specs.Terms.{count_code, decimal_code, answer_code, term_code}
use Rattle.rules.specs.Limits.{IsText, FitsPart, FitsTerm}
use Rattle.rules_compiler.proofs.Parts.{part_flow}
use Rattle.rules_compiler.proofs.Texts.{LeadsTo, leads_both}
use Rattle.rules_compiler.proofs.Flows.{Flow}
use Rattle.rules_compiler.proofs.Layouts.{layout_flow}
use Rattle.rules_compiler.proofs.NumberFlows.{number_flow}
use Rattle.rules_compiler.specs.Terms.{layout_code, value_number_code, is_near, part_number_code}
use Rattle.rules.specs.Meaning.{layout_size}
use Rattle.rules_compiler.specs.declared.values.TheConstants.{REACH}
use Rattle.rules.specs.declared.rule.{Layout.Layout}
use Rattle.rules.specs.declared.rule.Part.TheVariants as part
use Rattle.rules_compiler.proofs.States.{known, length_flow}
use Rattle.rules_compiler.proofs.States.{loosely, measured, numbered, passing_from}
use Rattle.rules_compiler.proofs.States.{settled, valued}

pub count_flow : (p : Part) → FitsPart IsText p → Flow (count_code p) settled valued
unfolding count_code failed_check falls_to jumps_to each_below is_proper helper_among
count_flow p fits = (
  measured,
  refl,
  length_flow p fits,
  (
    known (Abs.Num 2 (MAX_VALUE + 2)) (Abs.Num 0 0),
    record {
      checked = refl;
      proper = refl;
      falls = within_refl (known (Abs.Num 2 (MAX_VALUE + 2)) (Abs.Num 0 0));
      jumps = loosely _ valued refl refl refl refl;
    },
    record { passed = refl; within = loosely _ valued refl refl refl refl },
  ),
)

abbrev pub decimal_list : ℕ → ℕ → List Instruction
decimal_list place count = copy 1 6 ∷ set 2 (pos place) ∷ set 3 (pos count) ∷ Call (pos 17) ∷ set 8 (pos 0) ∷ []

pub decimal_leads : (answer : Abs) (low high : ℕ) (places : StackSet) (place count : ℕ) →
    LeadsTo (decimal_list place count) (numbered answer low high Abs.None places)
    (numbered (Abs.Num 0 (10 ^ 18)) low high (Abs.Num 0 0) places)
unfolding failed_check falls_to helper_among
decimal_leads answer low high places place count = record { passed = refl; is = refl }

pub decimal_flow : (p : Part) (place count : ℕ) → FitsPart IsText p → Flow (decimal_code p place count) settled valued
unfolding decimal_code failed_check falls_to jumps_to each_below is_proper helper_among
decimal_flow p place count fits =
    let f = part_flow p fits in (
      known (Abs.Num 0 (10 ^ 18)) (Abs.Num 0 0),
      refl,
      passing_from (part_code p ++ decimal_list place count) settled
          (numbered (Abs.Num 0 (10 ^ 18)) f.low f.high (Abs.Num 0 0) f.places) (known (Abs.Num 0 (10 ^ 18)) (Abs.Num 0 0))
          (leads_both (part_code p) (decimal_list place count) settled (numbered f.answer f.low f.high Abs.None f.places)
          (numbered (Abs.Num 0 (10 ^ 18)) f.low f.high (Abs.Num 0 0) f.places) f.leads
          (decimal_leads f.answer f.low f.high f.places place count))
          (loosely (numbered (Abs.Num 0 (10 ^ 18)) f.low f.high (Abs.Num 0 0) f.places) (known (Abs.Num 0 (10 ^ 18)) (Abs.Num 0 0))
          refl refl refl refl),
      (
        known (Abs.Num 1 (10 ^ 18)) (Abs.Num 0 0),
        record {
          checked = refl;
          proper = refl;
          falls = within_refl (known (Abs.Num 1 (10 ^ 18)) (Abs.Num 0 0));
          jumps = loosely _ valued refl refl refl refl;
        },
        record { passed = refl; within = loosely _ valued refl refl refl refl },
      ),
    )

number_term_flow : (layout : Layout) (p : Part) (place : ℕ) → FitsPart IsText p → Flow (part_number_code layout p place) settled valued
unfolding part_number_code
number_term_flow layout part.Value place fits = cond_both (is_near layout place) (value_number_code layout place)
    (layout_code layout part.Value place) (λ code. Flow code settled valued)
    (λ near. number_flow layout place (leb-true (place + layout_size layout) REACH near)) (λ far. layout_flow layout part.Value place fits)
number_term_flow layout part.Key place fits = layout_flow layout part.Key place fits
number_term_flow layout (part.Header key) place fits = layout_flow layout (part.Header key) place fits

pub term_flow : (t : Term) → FitsTerm IsText t → Flow (term_code t) settled valued
unfolding term_code answer_code failed_check falls_to each_below helper_among
term_flow (term.Length p) fits = count_flow p fits
term_flow (term.Number layout p place) fits = number_term_flow layout p place fits.0
term_flow (term.Decimal p place count) fits = decimal_flow p place count fits.0
term_flow term.Offset fits = record { passed = refl; within = loosely _ valued refl refl refl refl }
term_flow term.Timestamp fits = record { passed = refl; within = loosely _ valued refl refl refl refl }
term_flow term.Partition fits = record { passed = refl; within = loosely _ valued refl refl refl refl }
term_flow term.Headers fits = record { passed = refl; within = loosely _ valued refl refl refl refl }
