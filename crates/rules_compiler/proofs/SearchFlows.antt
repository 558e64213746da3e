-- The flow of searches for a text in a part.
use Rattle.std.proofs.Common.{◌≡◌, ℕ, zero, suc, ◌+◌, ◌-◌, ◌<◌, ◌≤◌, pos, length, true, false, List, [], ◌∷◌, ◌++◌}
use Rattle.std.proofs.Common.{Option, Some, None, refl, subst, arith}
use Rattle.wire_spec.specs.declared.limits.TheConstants.{MAX_VALUE}
use Rattle.machine_spec.specs.declared.{helper.TheConstants.HELPERS, instruction.Region.Region}
use Rattle.machine_spec.specs.declared.instruction.Instruction.{Instruction}
use Rattle.machine_spec.specs.declared.instruction.Instruction.TheVariants.{Call}
use Rattle.machine_spec.specs.declared.operation.Width.TheVariants.{Bits64}
use Rattle.machine_spec.specs.declared.instruction.Source.TheVariants.{Immediate}
use Rattle.machine_spec.specs.declared.operation.{Operation.TheVariants.Add}
use Rattle.machine_spec.specs.declared.operation.Test.TheVariants as jumps
use Rattle.verifier_spec.specs.declared.{state.Abs.Abs, state.Abstract.Abstract, state.StackSet.StackSet}
use Rattle.machine_spec.specs.Values.{immediate}
use Rattle.verifier_spec.specs.declared.interval.Interval.{Interval}
use Rattle.verifier_spec.specs.{Intervals.from_to, Annotation.is_edge_covered}
use Rattle.verifier_spec.specs.Transfer.{with_range, narrowed_range}
use Rattle.verifier_spec.proofs.Safety.{failed_from}
use Rattle.verifier_spec.specs.States.{is_within, is_proper, each_below}
use Rattle.verifier_spec.specs.{StackSets.is_set}
use Rattle.verifier_spec.specs.{Kinds.is_proper_kind, Kinds.is_kind_within, Checks.failed_check}
use Rattle.machine_spec.specs.Signatures.{helper_among}
use Rattle.verifier_spec.specs.{Transfer.falls_to, Transfer.jumps_to}
use Rattle.verifier_spec.proofs.{Joins.within_refl, Joins.kind_within_refl, Proper.with_kind_proper}
use Rattle.rules.specs.declared.{rule.Part.Part}
use Rattle.rules_compiler.specs.Code.{Code, Plain, Then, Unless}
use Rattle.rules_compiler.specs.Pieces.{set, copy, change, word_count, text_code, part_code}
use Rattle.rules.specs.Limits.{IsText, FitsPart}
use Rattle.rules_compiler.proofs.Ready.{small_immediate}
use Rattle.rules_compiler.proofs.Parts.{part_flow}
use Rattle.rules_compiler.proofs.Texts.{near_stands, LeadsTo, leads_both, shape, words_of, named_rightly, text_leads, text_set}
use Rattle.rules_compiler.specs.declared.pieces.TheConstants.{NEAR}
use Rattle.rules_compiler.proofs.Flows.{Flow, Passing, after_proper}
use Rattle.verifier_spec.proofs.Proper.{with_kind_proper}
use Rattle.rules_compiler.specs.declared.searches.TheConstants.{LOOKED_AT, OTHERS, PLACES}
use Rattle.rules_compiler.specs.Tests.{look, sized, mark, last_mark, searches_code, has_code}
use Rattle.rules_compiler.proofs.States.{settled, decided, bit, loosely, loosely_same, numbered, passing_from}

module _ (low high : ℕ) (held : StackSet) (size : ℕ) (few : size ≤ 255)
    (all : (q : ℕ) → 256 ≤ q → q < 256 + size → is_set held q ≡ true)
    (base : is_proper (numbered Abs.None low high (Abs.Num 0 0) held) ≡ true) where
  abbrev at : Abs → Abs → Abstract
  at answer truth = numbered answer low high truth held

  abbrev none : Abs
  none = Abs.Num 0 0

  at_proper : (answer truth : Abs) → is_proper_kind answer ≡ true → is_proper_kind truth ≡ true → is_proper (at answer truth) ≡ true
  at_proper answer truth x y =
      with_kind_proper (at answer none) 8 truth (with_kind_proper (at Abs.None none) 0 answer base x) y

  within_at : (j k t u : Abs) → is_kind_within (at j t) j k ≡ true → is_kind_within (at j t) t u ≡ true →
      is_within (at j t) (at k u) ≡ true
  within_at j k t u x y = loosely_same (at j t) (at k u)
      (x, (refl, (refl, (refl, (refl, (refl, (kind_within_refl (at j t) (Abs.Num low high), (refl, (y, (refl, (refl, tt)))))))))))
      refl refl refl

  edge_at : (lo hi : ℕ) (o : Option Interval) →
      is_edge_covered (with_range (at (Abs.Num lo hi) none) 0 (Abs.Num lo hi) o) (Some (at Abs.None none)) ≡ true
  edge_at lo hi None = refl
  edge_at lo hi (Some r) = within_at (Abs.Num r.low r.high) Abs.None none none refl refl

  edge_out : (lo hi : ℕ) (o : Option Interval) →
      is_edge_covered (with_range (at (Abs.Num lo hi) none) 0 (Abs.Num lo hi) o) (Some decided) ≡ true
  unfolding each_below
  edge_out lo hi None = refl
  edge_out lo hi (Some r) = loosely (at (Abs.Num r.low r.high) none) decided refl refl refl refl

  sized_leads : LeadsTo sized (at Abs.None none) (at (Abs.Num 0 (MAX_VALUE + 2)) none)
  unfolding failed_check falls_to helper_among
  sized_leads = record { passed = refl; is = refl }

  abbrev beside : ℕ → Abstract
  beside place = shape Abs.None (Abs.Num low high) (Abs.Num (immediate Bits64 (pos place)) (immediate Bits64 (pos place)))
      (Abs.Addr Region.Stack (pos 256) (pos 256)) (Abs.Num (immediate Bits64 (pos size)) (immediate Bits64 (pos size)))
      Abs.None (Abs.Num low high) none held

  find_check : (place : ℕ) → failed_check HELPERS (Call (pos 15)) (beside place) ≡ None
  unfolding helper_among
  find_check place = failed_from HELPERS (Call (pos 15)) (beside place) (record {
    frame = refl;
    helper = refl;
    unset = refl;
    operands = refl;
    base = refl;
    condition = refl;
    record_write = refl;
    record_bounds = refl;
    stack_bounds = refl;
    stack_unset = refl;
    argument = rw (named_rightly 256 (beside place) (immediate Bits64 (pos size)) size (small_immediate size (omega arith))
        (omega arith) all) refl;
    exit = refl;
  })

  abbrev look_list : ℕ → List Instruction
  look_list place = copy 1 6 ∷ set 2 (pos place) ∷ copy 3 10 ∷ change Add 3 NEAR ∷ set 4 (pos size) ∷ []

  call_leads : (place : ℕ) → LeadsTo (Call (pos 15) ∷ []) (beside place) (at (Abs.Num 0 (MAX_VALUE + 1)) none)
  unfolding falls_to helper_among
  call_leads place = record { passed = rw (find_check place) refl; is = refl }

  list_leads : (place : ℕ) → LeadsTo (look_list place) (at Abs.None none) (beside place)
  unfolding failed_check falls_to helper_among
  list_leads place = record { passed = refl; is = refl }

  look_leads : (place : ℕ) → LeadsTo (look size place) (at Abs.None none) (at (Abs.Num 0 (MAX_VALUE + 1)) none)
  look_leads place = leads_both (look_list place) (Call (pos 15) ∷ []) (at Abs.None none) (beside place)
      (at (Abs.Num 0 (MAX_VALUE + 1)) none) (list_leads place) (call_leads place)

  marks : Passing (set 8 (pos 1) ∷ []) (at Abs.None none) decided
  unfolding failed_check falls_to each_below
  marks = record { passed = refl; within = loosely (at Abs.None (Abs.Num 1 1)) decided refl refl refl refl }

  last_flow : Flow (last_mark size) (at (Abs.Num 0 (MAX_VALUE + 1)) none) decided
  unfolding failed_check falls_to jumps_to each_below
  last_flow = (
    at (Abs.Num 1 (MAX_VALUE + 1)) none,
    record {
      checked = refl;
      proper = at_proper (Abs.Num 1 (MAX_VALUE + 1)) none refl refl;
      falls = within_refl (at (Abs.Num 1 (MAX_VALUE + 1)) none);
      jumps = loosely (at (Abs.Num 0 0) none) decided refl refl refl refl;
    },
    (
      at Abs.None none,
      record {
        checked = refl;
        proper = base;
        falls = edge_at 1 (MAX_VALUE + 1) (narrowed_range Bits64 jumps.Greater false (Some (from_to 1 (MAX_VALUE + 1)))
            (immediate Bits64 (pos (LOOKED_AT - size + 1))));
        jumps = edge_out 1 (MAX_VALUE + 1) (narrowed_range Bits64 jumps.Greater true (Some (from_to 1 (MAX_VALUE + 1)))
            (immediate Bits64 (pos (LOOKED_AT - size + 1))));
      },
      marks,
    ),
  )

  found_flow : Flow (Unless jumps.Equal 0 (Immediate (pos 0)) mark) (at (Abs.Num 0 (MAX_VALUE + 1)) none) (at Abs.None bit)
  unfolding failed_check falls_to jumps_to
  found_flow = (
    at (Abs.Num 1 (MAX_VALUE + 1)) none,
    record {
      checked = refl;
      proper = at_proper (Abs.Num 1 (MAX_VALUE + 1)) none refl refl;
      falls = within_refl (at (Abs.Num 1 (MAX_VALUE + 1)) none);
      jumps = within_at (Abs.Num 0 0) Abs.None none bit refl refl;
    },
    record {
      passed = refl;
      within = within_at (Abs.Num 1 (MAX_VALUE + 1)) Abs.None (Abs.Num 1 1) bit refl refl;
    },
  )

  more_flow : (block : Code) → Flow block (at Abs.None none) decided →
      Flow (Unless jumps.NotEqual 8 (Immediate (pos 0)) block) (at Abs.None bit) decided
  unfolding failed_check falls_to jumps_to each_below
  more_flow block f = (
    at Abs.None none,
    record {
      checked = refl;
      proper = base;
      falls = within_refl (at Abs.None none);
      jumps = loosely (at Abs.None (Abs.Num 1 1)) decided refl refl refl refl;
    },
    f,
  )

  guard_flow : (number : ℕ) (block : Code) → Flow block (at Abs.None none) decided →
      Flow (Then (Plain sized) (Unless jumps.Less 0 (Immediate (pos number)) block)) (at Abs.None none) decided
  unfolding failed_check falls_to jumps_to
  guard_flow number block f = (
    at (Abs.Num 0 (MAX_VALUE + 2)) none,
    at_proper (Abs.Num 0 (MAX_VALUE + 2)) none refl refl,
    passing_from sized (at Abs.None none) (at (Abs.Num 0 (MAX_VALUE + 2)) none) (at (Abs.Num 0 (MAX_VALUE + 2)) none)
        sized_leads (within_refl (at (Abs.Num 0 (MAX_VALUE + 2)) none)),
    (
      at Abs.None none,
      record {
        checked = refl;
        proper = base;
        falls = edge_at 0 (MAX_VALUE + 2) (narrowed_range Bits64 jumps.Less false (Some (from_to 0 (MAX_VALUE + 2)))
            (immediate Bits64 (pos number)));
        jumps = edge_out 0 (MAX_VALUE + 2) (narrowed_range Bits64 jumps.Less true (Some (from_to 0 (MAX_VALUE + 2)))
            (immediate Bits64 (pos number)));
      },
      f,
    ),
  )

  look_flow : (place : ℕ) (rest : Code) → Flow rest (at (Abs.Num 0 (MAX_VALUE + 1)) none) decided →
      Flow (Then (Plain (look size place)) rest) (at Abs.None none) decided
  look_flow place rest f = (
    at (Abs.Num 0 (MAX_VALUE + 1)) none,
    at_proper (Abs.Num 0 (MAX_VALUE + 1)) none refl refl,
    passing_from (look size place) (at Abs.None none) (at (Abs.Num 0 (MAX_VALUE + 1)) none) (at (Abs.Num 0 (MAX_VALUE + 1)) none)
        (look_leads place) (within_refl (at (Abs.Num 0 (MAX_VALUE + 1)) none)),
    f,
  )

  searches_flow : (place left : ℕ) → Flow (searches_code size place left) (at Abs.None none) decided
  unfolding searches_code
  searches_flow place zero = guard_flow (place + size + 2) (Then (Plain (look size place)) (last_mark size))
      (look_flow place (last_mark size) last_flow)
  searches_flow place (suc left) = guard_flow (place + size + 2) (Then (Plain (look size place))
      (Then (Unless jumps.Equal 0 (Immediate (pos 0)) mark)
      (Unless jumps.NotEqual 8 (Immediate (pos 0)) (searches_code size (place + PLACES) left))))
      (look_flow place (Then (Unless jumps.Equal 0 (Immediate (pos 0)) mark)
      (Unless jumps.NotEqual 8 (Immediate (pos 0)) (searches_code size (place + PLACES) left))) (
        at Abs.None bit,
        at_proper Abs.None bit refl refl,
        found_flow,
        more_flow (searches_code size (place + PLACES) left) (searches_flow (place + PLACES) left),
      ))

clear_leads : (answer : Abs) (low high : ℕ) (places : StackSet) → LeadsTo (set 8 (pos 0) ∷ [])
    (numbered answer low high Abs.None places) (numbered answer low high (Abs.Num 0 0) places)
unfolding failed_check falls_to
clear_leads answer low high places = record { passed = refl; is = refl }

pub has_flow : (p : Part) (text : List ℕ) → FitsPart IsText p → IsText text → Flow (has_code p text) settled decided
unfolding has_code is_proper
has_flow p text fits is =
    let f = part_flow p fits in
    let held = words_of f.places (word_count (length text)) in
    let before = numbered f.answer f.low f.high Abs.None f.places in
    let texted = numbered f.answer f.low f.high Abs.None held in
    let cleared = numbered f.answer f.low f.high (Abs.Num 0 0) held in
    let list = part_code p ++ (text_code NEAR text ++ set 8 (pos 0) ∷ []) in
    let leads = leads_both (part_code p) (text_code NEAR text ++ set 8 (pos 0) ∷ []) settled before cleared f.leads
    (leads_both (text_code NEAR text) (set 8 (pos 0) ∷ []) before texted cleared
    (text_leads near_stands f.answer Abs.None Abs.None Abs.None Abs.None Abs.None (Abs.Num f.low f.high) Abs.None text is.few f.places)
    (clear_leads f.answer f.low f.high held)) in
    let proper = subst (λ (d : Abstract). is_proper d ≡ true) leads.is (after_proper list settled leads.passed refl) in
    let base = with_kind_proper cleared 0 Abs.None proper refl in
    let all = λ (q : ℕ) (low : 256 ≤ q) (high : q < 256 + length text). text_set 256 f.places (length text) q (omega arith) is.few low high in (
      numbered Abs.None f.low f.high (Abs.Num 0 0) held,
      base,
      passing_from list settled cleared (numbered Abs.None f.low f.high (Abs.Num 0 0) held) leads
          (within_at f.low f.high held (length text) is.few all base f.answer Abs.None (Abs.Num 0 0) (Abs.Num 0 0) refl refl),
      searches_flow f.low f.high held (length text) is.few all base 0 OTHERS,
    )
