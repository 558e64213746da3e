-- The flow of comparisons.
use Rattle.std.proofs.Common.{◌≡◌, ℕ, ◌^◌, pos, true, false, List, [], ◌∷◌}
use Rattle.std.proofs.Common.{Option, Some, None, refl, arith, nat_lt}
use Rattle.std.proofs.lemmas.Bool.{cond_both}
use Rattle.wire_spec.specs.declared.limits.TheConstants.{MAX_VALUE}
use Rattle.machine_spec.specs.declared.{helper.TheConstants.HELPERS, instruction.Region.Region}
use Rattle.machine_spec.specs.declared.instruction.Instruction.{Instruction}
use Rattle.machine_spec.specs.declared.instruction.Instruction.TheVariants.{Move, Compute, JumpIf}
use Rattle.machine_spec.specs.declared.operation.Width.TheVariants.{Bits32, Bits64}
use Rattle.machine_spec.specs.declared.instruction.Source.TheVariants.{Register, Immediate}
use Rattle.machine_spec.specs.declared.operation.{Test.Test as Jumps, Operation.TheVariants.Add}
use Rattle.machine_spec.specs.declared.operation.Operation.TheVariants.{LeftShift}
use Rattle.verifier_spec.specs.declared.{state.Abs.Abs}
use Rattle.machine_spec.specs.Values.{immediate}
use Rattle.verifier_spec.specs.declared.interval.Interval.{Interval}
use Rattle.verifier_spec.specs.{Intervals.from_to, Annotation.is_edge_covered}
use Rattle.verifier_spec.specs.Transfer.{with_range}
use Rattle.verifier_spec.specs.States.{is_within, is_proper, each_below}
use Rattle.verifier_spec.specs.{Checks.failed_check}
use Rattle.machine_spec.specs.Signatures.{helper_among}
use Rattle.verifier_spec.specs.{Transfer.falls_to, Transfer.jumps_to}
use Rattle.verifier_spec.proofs.{Joins.within_refl}
use Rattle.rules.specs.declared.{rule.Term.Term, rule.Comparison.Comparison}
use Rattle.rules.specs.declared.rule.Term.TheVariants as term
use Rattle.rules_compiler.specs.Code.{Code, Plain, Then, Unless}
use Rattle.rules_compiler.specs.Pieces.{set, change, high_half, low_half}
use Rattle.rules_compiler.specs.Tests.{test_of, comparing_code, compare_code}
use Rattle.rules.specs.Limits.{IsText, FitsTerm}
use Rattle.rules_compiler.proofs.Flows.{Flow, Passing, Skips, pass, after, after_proper}
use Rattle.rules_compiler.proofs.TermFlows.{term_flow}
use Rattle.rules_compiler.specs.Tests.{is_plain, value_length_code, term_compare_code}
use Rattle.rules.specs.declared.rule.Part.TheVariants as part
use Rattle.rules_compiler.proofs.States.{bit, decided, known}
use Rattle.rules_compiler.proofs.States.{loosely}
use Rattle.rules_compiler.proofs.States.{settled, straight, valued}
use Rattle.std.proofs.Common.{nat_le}
use Rattle.verifier_spec.proofs.Narrowing.{is_edge_within, narrowed_inside}
use Rattle.verifier_spec.specs.{Intervals.narrowed_interval}
use Rattle.std.proofs.lemmas.Bool.{and_parts, leb-true}
use Rattle.rules_compiler.proofs.ValueFlows.{ranged_within}
use Rattle.rules_compiler.proofs.NumberFlows.{number_compare_flow}
use Rattle.rules_compiler.specs.Tests.{value_compare_code, is_at_hand}
use Rattle.rules_compiler.specs.Terms.{is_near}
use Rattle.rules_compiler.specs.declared.values.TheConstants.{REACH}
use Rattle.rules.specs.Meaning.{layout_size}
use Rattle.std.proofs.Common.{◌+◌}

-- ---- numbers

-- r0 is compared with a number in r1, where a list of instructions puts one there
abbrev pub comparison_of : Jumps → List Instruction → Code
comparison_of how list = Then (Plain list) (Unless how 0 (Register 1) (Plain (set 8 (pos 0) ∷ [])))

abbrev pub comparing_jump : Jumps → Instruction
comparing_jump how = JumpIf Bits64 how 0 (Register 1) (pos 1)

pub listed_flow : (how : Jumps) (list : List Instruction) → pass list valued ≡ true →
    failed_check HELPERS (comparing_jump how) (after list valued) ≡ None →
    is_within (after list valued) decided ≡ true → Passing (set 8 (pos 0) ∷ []) (after list valued) decided →
    Flow (comparison_of how list) valued decided
unfolding falls_to jumps_to is_proper
listed_flow how list passed checked within block =
    let skips : Skips (comparing_jump how) (after list valued) (after list valued) decided = record {
      checked = checked;
      proper = after_proper list valued passed refl;
      falls = within_refl (after list valued);
      jumps = within;
    } in
    straight list (Unless how 0 (Register 1) (Plain (set 8 (pos 0) ∷ []))) valued decided passed refl
    (after list valued, skips, block)

abbrev pub small_list : ℕ → List Instruction
small_list n = set 1 (pos n) ∷ []

abbrev pub great_list : ℕ → List Instruction
great_list n = Move Bits32 1 (Immediate (high_half n)) ∷ change LeftShift 1 (pos 32)
    ∷ Move Bits32 2 (Immediate (low_half n)) ∷ Compute Bits64 Add 1 (Register 2) ∷ []

pub comparing_flow : (how : Comparison) (n : ℕ) → Flow (comparing_code how n) valued decided
unfolding comparing_code failed_check falls_to jumps_to each_below is_proper helper_among
comparing_flow how n = cond_both (nat_lt n (2 ^ 31)) (small_list n) (great_list n)
    (λ list. Flow (comparison_of (test_of how) list) valued decided)
    (λ small. listed_flow (test_of how) (small_list n) refl refl
    (loosely (after (small_list n) valued) decided refl refl refl refl)
    (record {
      passed = refl;
      within = loosely (after (set 8 (pos 0) ∷ []) (after (small_list n) valued)) decided refl refl refl refl;
    }))
    (λ great. listed_flow (test_of how) (great_list n) refl refl
    (loosely (after (great_list n) valued) decided refl refl refl refl)
    (record {
      passed = refl;
      within = loosely (after (set 8 (pos 0) ∷ []) (after (great_list n) valued)) decided refl refl refl refl;
    }))

pub term_compare_flow : (t : Term) (how : Comparison) (n : ℕ) → FitsTerm IsText t →
    Flow (term_compare_code t how n) settled decided
unfolding term_compare_code failed_check falls_to jumps_to each_below is_proper helper_among
term_compare_flow t how n fits = (
  valued,
  refl,
  term_flow t fits,
  (
    valued,
    record {
      checked = refl;
      proper = refl;
      falls = loosely _ valued refl refl refl refl;
      jumps = loosely _ decided refl refl refl refl;
    },
    comparing_flow how n,
  ),
)

-- ---- lengths

length_edge : (o : Option Interval) → is_edge_within o (Some (from_to 0 MAX_VALUE)) ≡ true →
    is_edge_covered (with_range (known Abs.None (Abs.Num 1 1)) 7 (Abs.Len Region.Value) o) (Some decided) ≡ true
unfolding each_below
length_edge None inside = refl
length_edge (Some range) inside =
    ranged_within range.low range.high 0 MAX_VALUE Abs.None (Abs.Num 1 1) Abs.None bit refl (omega arith)
    (leb-true range.high MAX_VALUE (and_parts (nat_le 0 range.low) (nat_le range.high MAX_VALUE) inside).1)

decided_is_proper : is_proper decided ≡ true
unfolding is_proper
decided_is_proper = refl

ones_proper : is_proper (known Abs.None (Abs.Num 1 1)) ≡ true
unfolding is_proper
ones_proper = refl

pub length_flow_of : (how : Jumps) (n : ℕ) →
    Flow (Then (Plain (set 8 (pos 1) ∷ [])) (Unless how 7 (Immediate (pos n)) (Plain (set 8 (pos 0) ∷ [])))) settled decided
unfolding failed_check falls_to jumps_to each_below
length_flow_of how n = (
  known Abs.None (Abs.Num 1 1),
  ones_proper,
  record { passed = refl; within = within_refl (known Abs.None (Abs.Num 1 1)) },
  (
    decided,
    record {
      checked = refl;
      proper = decided_is_proper;
      falls = length_edge (narrowed_interval Bits64 how false (from_to 0 MAX_VALUE) (immediate Bits64 (pos n)))
          (narrowed_inside Bits64 how false (from_to 0 MAX_VALUE) (immediate Bits64 (pos n)));
      jumps = length_edge (narrowed_interval Bits64 how true (from_to 0 MAX_VALUE) (immediate Bits64 (pos n)))
          (narrowed_inside Bits64 how true (from_to 0 MAX_VALUE) (immediate Bits64 (pos n)));
    },
    record {
      passed = refl;
      within = ranged_within 0 MAX_VALUE 0 MAX_VALUE Abs.None (Abs.Num 0 0) Abs.None bit refl (omega arith) (omega arith);
    },
  ),
)

-- ---- terms

pub compare_flow : (t : Term) (how : Comparison) (n : ℕ) → FitsTerm IsText t → Flow (compare_code t how n) settled decided
unfolding compare_code value_length_code
compare_flow (term.Length part.Value) how n fits = cond_both (is_plain how n) (value_length_code how n)
    (term_compare_code (term.Length part.Value) how n) (λ code. Flow code settled decided)
    (λ plain. length_flow_of (test_of how) n) (λ other. term_compare_flow (term.Length part.Value) how n fits)
compare_flow (term.Number layout part.Value place) how n fits = cond_both (is_at_hand layout place n)
    (value_compare_code layout place how n) (term_compare_code (term.Number layout part.Value place) how n)
    (λ code. Flow code settled decided)
    (λ at. number_compare_flow layout place how n
    (leb-true (place + layout_size layout) REACH (and_parts (is_near layout place) (nat_lt n (2 ^ 31)) at).0))
    (λ other. term_compare_flow (term.Number layout part.Value place) how n fits)
compare_flow t how n fits = term_compare_flow t how n fits
