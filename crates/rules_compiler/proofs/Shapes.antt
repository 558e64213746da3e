-- The flow of each test and condition.
use Rattle.std.proofs.Common.{subst}
use Rattle.std.proofs.Common.{◌≡◌, ℕ, ◌+◌, ◌≤◌, pos, length, true, false, List, [], ◌∷◌, ◌++◌}
use Rattle.std.proofs.Common.{Option, Some, None, refl, arith, ℤ, ◌⊎◌, ⊎_elim, inl, inr}
use Rattle.std.proofs.lemmas.Bool.{cond_both}
use Rattle.wire_spec.specs.declared.limits.TheConstants.{MAX_VALUE}
use Rattle.machine_spec.specs.declared.{helper.TheConstants.HELPERS, instruction.Region.Region}
use Rattle.machine_spec.specs.declared.instruction.Instruction.TheVariants.{Call}
use Rattle.machine_spec.specs.declared.operation.Width.TheVariants.{Bits64}
use Rattle.std.specs.Int.Count.{count_leading_zeros}
use Rattle.machine_spec.specs.declared.instruction.Source.TheVariants.{Immediate}
use Rattle.machine_spec.specs.declared.operation.{Test.Test as Jumps, Operation.TheVariants.Xor}
use Rattle.machine_spec.specs.declared.operation.Test.TheVariants as jumps
use Rattle.verifier_spec.specs.declared.{state.Abs.Abs, state.Abstract.Abstract, state.StackSet.StackSet}
use Rattle.machine_spec.specs.Values.{immediate}
use Rattle.verifier_spec.specs.declared.interval.Interval.{Interval}
use Rattle.verifier_spec.specs.{Intervals.from_to, Annotation.is_edge_covered}
use Rattle.verifier_spec.specs.Transfer.{with_range, with_kind, narrowed_range}
use Rattle.verifier_spec.proofs.Safety.{failed_from}
use Rattle.verifier_spec.specs.States.{is_within, is_proper, each_below}
use Rattle.verifier_spec.specs.{Checks.failed_check}
use Rattle.machine_spec.specs.Signatures.{helper_among}
use Rattle.verifier_spec.specs.{Transfer.falls_to, Transfer.jumps_to}
use Rattle.verifier_spec.proofs.{Joins.within_refl}
use Rattle.rules.specs.declared.{rule.Part.Part}
use Rattle.rules.specs.declared.{rule.Test.Test as Tests}
use Rattle.rules.specs.declared.rule.Test.TheVariants as test
use Rattle.rules.specs.Formulas.{Formula, Single, Negated, Both, Either}
use Rattle.rules_compiler.specs.Code.{Code, Plain, Then, Unless}
use Rattle.rules_compiler.specs.Pieces.{set, copy, change, word_count, text_code, part_code}
use Rattle.rules_compiler.specs.Tests.{sized, name_text, stands, text_test_code, length_test_code, test_code}
use Rattle.rules_compiler.specs.Rules.{condition_code}
use Rattle.rules.specs.Limits.{IsText, FitsPart, FitsTest, HasFitting}
use Rattle.rules_compiler.proofs.Ready.{small_immediate}
use Rattle.verifier_spec.proofs.Proper.{with_kind_proper}
use Rattle.rules_compiler.proofs.Parts.{PartFlow, part_flow}
use Rattle.rules_compiler.proofs.Texts.{near_stands, LeadsTo, leads_both, shape, words_of, named_rightly, text_leads, text_set}
use Rattle.rules_compiler.specs.declared.pieces.TheConstants.{NEAR}
use Rattle.rules_compiler.proofs.Flows.{Flow, Passing, after, after_proper}
use Rattle.rules_compiler.proofs.SearchFlows.{has_flow}
use Rattle.rules_compiler.proofs.ValueFlows.{equal_flow, begins_flow}
use Rattle.rules_compiler.proofs.CompareFlows.{compare_flow}
use Rattle.rules_compiler.specs.Tests.{value_test_code, is_short, equal_code, begins_code}
use Rattle.rules.specs.declared.rule.Part.TheVariants as part
use Rattle.rules_compiler.proofs.States.{bit, decided, known, length_flow}
use Rattle.rules_compiler.proofs.States.{loosely, measured, numbered, passing_from}
use Rattle.rules_compiler.proofs.States.{settled}

-- ---- tests

pub length_test_flow : (p : Part) (number : ℤ) → FitsPart IsText p → (number ≡ pos 0) ⊎ (number ≡ pos 1) → Flow (length_test_code p number) settled decided
unfolding length_test_code failed_check falls_to jumps_to each_below is_proper helper_among
length_test_flow p number fits is = ⊎_elim
    (λ none. rw none (
      measured,
      refl,
      length_flow p fits,
      (
        known (Abs.Num 0 0) (Abs.Num 0 0),
        record {
          checked = refl;
          proper = refl;
          falls = within_refl (known (Abs.Num 0 0) (Abs.Num 0 0));
          jumps = loosely _ decided refl refl refl refl;
        },
        record { passed = refl; within = loosely _ decided refl refl refl refl },
      ),
    ))
    (λ one. rw one (
      measured,
      refl,
      length_flow p fits,
      (
        known (Abs.Num 1 1) (Abs.Num 0 0),
        record {
          checked = refl;
          proper = refl;
          falls = within_refl (known (Abs.Num 1 1) (Abs.Num 0 0));
          jumps = loosely _ decided refl refl refl refl;
        },
        record { passed = refl; within = loosely _ decided refl refl refl refl },
      ),
    ))
    is

-- ---- texts

-- a text that r3 and r4 name in the stack, beside a part that r1 and r6 have
module _ (answer : Abs) (low high : ℕ) (places : StackSet) (size : ℕ) (few : size ≤ 255) where
  abbrev pub beside : Abstract
  beside = shape answer (Abs.Num low high) (Abs.Num 0 0) (Abs.Addr Region.Stack (pos 256) (pos 256))
      (Abs.Num (immediate Bits64 (pos size)) (immediate Bits64 (pos size))) Abs.None (Abs.Num low high) Abs.None
      (words_of places (word_count size))

  pub equals_check : failed_check HELPERS (Call (pos 16)) beside ≡ None
  unfolding helper_among
  equals_check = failed_from HELPERS (Call (pos 16)) beside (record {
    frame = refl;
    helper = refl;
    unset = refl;
    operands = refl;
    base = refl;
    condition = refl;
    record_write = refl;
    record_bounds = refl;
    stack_bounds = refl;
    stack_unset = refl;
    argument = rw (named_rightly 256 beside (immediate Bits64 (pos size)) size (small_immediate size (omega arith))
        (omega arith) (λ q from to. text_set 256 places size q (omega arith) few from to)) refl;
    exit = refl;
  })

  pub names_lead : LeadsTo (name_text size) (numbered answer low high Abs.None (words_of places (word_count size))) beside
  unfolding failed_check falls_to helper_among
  names_lead = record { passed = refl; is = refl }

  pub equals_lead : LeadsTo (Call (pos 16) ∷ []) beside
      (numbered (Abs.Num 0 1) low high Abs.None (words_of places (word_count size)))
  unfolding falls_to helper_among
  equals_lead = record { passed = rw equals_check refl; is = refl }

  pub rest_lead : LeadsTo (copy 8 0 ∷ [])
      (numbered (Abs.Num 0 1) low high Abs.None (words_of places (word_count size)))
      (numbered (Abs.Num 0 1) low high bit (words_of places (word_count size)))
  unfolding failed_check falls_to helper_among
  rest_lead = record { passed = refl; is = refl }

  pub stands_lead : LeadsTo (stands size) (numbered answer low high Abs.None (words_of places (word_count size)))
      (numbered (Abs.Num 0 1) low high bit (words_of places (word_count size)))
  stands_lead = leads_both (name_text size) (Call (pos 16) ∷ copy 8 0 ∷ [])
      (numbered answer low high Abs.None (words_of places (word_count size))) beside
      (numbered (Abs.Num 0 1) low high bit (words_of places (word_count size))) names_lead
      (leads_both (Call (pos 16) ∷ []) (copy 8 0 ∷ []) beside
      (numbered (Abs.Num 0 1) low high Abs.None (words_of places (word_count size)))
      (numbered (Abs.Num 0 1) low high bit (words_of places (word_count size))) equals_lead rest_lead)

-- r0 has what the helper says of a length, and r8 whether the part begins with a text
abbrev pub asked : Abstract
asked = known (Abs.Num 0 (MAX_VALUE + 2)) bit

-- a jump by r0 leaves r8
pub edge_decided : (o : Option Interval) → is_edge_covered (with_range asked 0 (Abs.Num 0 (MAX_VALUE + 2)) o) (Some decided) ≡ true
unfolding each_below
edge_decided None = refl
edge_decided (Some range) =
    loosely (with_kind asked 0 (Abs.Num range.low range.high)) decided refl refl refl refl

pub asking_flow : (how : Jumps) (number : ℕ) → Flow (Unless how 0 (Immediate (pos number)) (Plain (set 8 (pos 0) ∷ []))) asked decided
unfolding failed_check falls_to jumps_to each_below is_proper
asking_flow how number = (
  decided,
  record {
    checked = refl;
    proper = refl;
    falls = edge_decided (narrowed_range Bits64 how false (Some (from_to 0 (MAX_VALUE + 2))) (immediate Bits64 (pos number)));
    jumps = edge_decided (narrowed_range Bits64 how true (Some (from_to 0 (MAX_VALUE + 2))) (immediate Bits64 (pos number)));
  },
  record { passed = refl; within = loosely _ decided refl refl refl refl },
)

-- a part's number in r6, and in r8 whether the part begins with a text
stands_leads : (p : Part) (text : List ℕ) (is : IsText text) (f : PartFlow p) →
    LeadsTo (part_code p ++ (text_code NEAR text ++ stands (length text))) settled
    (numbered (Abs.Num 0 1) f.low f.high bit (words_of f.places (word_count (length text))))
stands_leads p text is f =
    let before = numbered f.answer f.low f.high Abs.None f.places in
    let held = numbered f.answer f.low f.high Abs.None (words_of f.places (word_count (length text))) in
    let behind = numbered (Abs.Num 0 1) f.low f.high bit (words_of f.places (word_count (length text))) in
    leads_both (part_code p) (text_code NEAR text ++ stands (length text)) settled before behind f.leads
    (leads_both (text_code NEAR text) (stands (length text)) before held behind
    (text_leads near_stands f.answer Abs.None Abs.None Abs.None Abs.None Abs.None (Abs.Num f.low f.high) Abs.None text is.few f.places)
    (stands_lead f.answer f.low f.high f.places (length text) is.few))

sized_lead : (low high : ℕ) (places : StackSet) → LeadsTo sized (numbered (Abs.Num 0 1) low high (Abs.Num 1 1) places)
    (numbered (Abs.Num 0 (MAX_VALUE + 2)) low high (Abs.Num 1 1) places)
unfolding failed_check falls_to helper_among
sized_lead low high places = record { passed = refl; is = refl }

sized_passing : (low high : ℕ) (places : StackSet) → Passing sized (numbered (Abs.Num 0 1) low high (Abs.Num 1 1) places) asked
unfolding each_below
sized_passing low high places =
    let behind = numbered (Abs.Num 0 (MAX_VALUE + 2)) low high (Abs.Num 1 1) places in
    passing_from sized (numbered (Abs.Num 0 1) low high (Abs.Num 1 1) places) behind asked (sized_lead low high places)
    (loosely behind asked refl refl refl refl)

asked_proper : is_proper asked ≡ true
unfolding is_proper
asked_proper = refl

settled_is_proper : is_proper settled ≡ true
unfolding is_proper
settled_is_proper = refl

begun_flow : (low high : ℕ) (places : StackSet) (rest : Code) →
    is_proper (numbered (Abs.Num 0 1) low high bit places) ≡ true →
    Flow rest (numbered (Abs.Num 0 1) low high (Abs.Num 1 1) places) decided →
    Flow (Unless jumps.Equal 8 (Immediate (pos 0)) rest) (numbered (Abs.Num 0 1) low high bit places) decided
unfolding failed_check falls_to jumps_to each_below
begun_flow low high places rest proper f = (
  numbered (Abs.Num 0 1) low high (Abs.Num 1 1) places,
  record {
    checked = refl;
    proper = with_kind_proper (numbered (Abs.Num 0 1) low high bit places) 8 (Abs.Num 1 1) proper refl;
    falls = within_refl (numbered (Abs.Num 0 1) low high (Abs.Num 1 1) places);
    jumps = loosely (numbered (Abs.Num 0 1) low high (Abs.Num 0 0) places) decided refl refl refl refl;
  },
  f,
)

pub text_test_flow : (p : Part) (text : List ℕ) (how : Jumps) (number : ℕ) → FitsPart IsText p → IsText text →
    Flow (text_test_code p text how number) settled decided
unfolding text_test_code
text_test_flow p text how number fits is =
    let f = part_flow p fits in
    let places = words_of f.places (word_count (length text)) in
    let behind = numbered (Abs.Num 0 1) f.low f.high bit (words_of f.places (word_count (length text))) in
    let list = part_code p ++ (text_code NEAR text ++ stands (length text)) in
    let leads = stands_leads p text is f in
    let proper = subst (λ (d : Abstract). is_proper d ≡ true) leads.is (after_proper list settled leads.passed settled_is_proper) in (
      behind,
      proper,
      passing_from list settled behind behind leads (within_refl behind),
      begun_flow f.low f.high places
          (Then (Plain sized) (Unless how 0 (Immediate (pos number)) (Plain (set 8 (pos 0) ∷ [])))) proper
          (asked, asked_proper, sized_passing f.low f.high places, asking_flow how number),
    )

-- a short text of the value
short_flow : (text : List ℕ) (how : Jumps) → ((byte : ℕ) (rest : List ℕ) → length rest ≤ 255 →
    Flow (value_test_code (byte ∷ rest) how) settled decided) → IsText text → is_short text ≡ true →
    Flow (value_test_code text how) settled decided
short_flow [] how flow is short = absurd cc
short_flow (byte ∷ text) how flow is short = let few = is.few in flow byte text (omega arith)

equal_test_flow : (p : Part) (text : List ℕ) → FitsPart IsText p → IsText text → Flow (equal_code p text) settled decided
unfolding equal_code
equal_test_flow part.Value text fits is = cond_both (is_short text) (value_test_code text jumps.NotEqual)
    (text_test_code part.Value text jumps.Equal (length text + 2)) (λ code. Flow code settled decided)
    (short_flow text jumps.NotEqual equal_flow is)
    (λ long. text_test_flow part.Value text jumps.Equal (length text + 2) fits is)
equal_test_flow part.Key text fits is = text_test_flow part.Key text jumps.Equal (length text + 2) fits is
equal_test_flow (part.Header key) text fits is = text_test_flow (part.Header key) text jumps.Equal (length text + 2) fits is

begins_test_flow : (p : Part) (text : List ℕ) → FitsPart IsText p → IsText text → Flow (begins_code p text) settled decided
unfolding begins_code
begins_test_flow part.Value text fits is = cond_both (is_short text) (value_test_code text jumps.Less)
    (text_test_code part.Value text jumps.GreaterOrEqual 2) (λ code. Flow code settled decided)
    (short_flow text jumps.Less begins_flow is)
    (λ long. text_test_flow part.Value text jumps.GreaterOrEqual 2 fits is)
begins_test_flow part.Key text fits is = text_test_flow part.Key text jumps.GreaterOrEqual 2 fits is
begins_test_flow (part.Header key) text fits is = text_test_flow (part.Header key) text jumps.GreaterOrEqual 2 fits is

pub test_flow : (t : Tests) → FitsTest IsText t → Flow (test_code t) settled decided
unfolding test_code
test_flow (test.Null p) fits = length_test_flow p (pos 1) fits (inr refl)
test_flow (test.Absent p) fits = length_test_flow p (pos 0) fits (inl refl)
test_flow (test.Equal p text) fits = equal_test_flow p text fits.0 fits.1
test_flow (test.Begins p text) fits = begins_test_flow p text fits.0 fits.1
test_flow (test.Has p text) fits = has_flow p text fits.0 fits.1
test_flow (test.Compare t how number) fits = compare_flow t how number fits.0

-- ---- conditions

-- a block that is left out where r8 is 0, or where it is not
pub skip_flow : (block : Code) (b : Abstract) → is_within (known Abs.None (Abs.Num 0 0)) b ≡ true → Flow block settled b →
    Flow (Unless jumps.Equal 8 (Immediate (pos 0)) block) decided b
unfolding failed_check falls_to jumps_to each_below is_proper helper_among
skip_flow block b within f = (
  settled,
  record {
    checked = refl;
    proper = refl;
    falls = loosely _ settled refl refl refl refl;
    jumps = within;
  },
  f,
)

pub skip_not_flow : (block : Code) → Flow block settled decided →
    Flow (Unless jumps.NotEqual 8 (Immediate (pos 0)) block) decided decided
unfolding failed_check falls_to jumps_to each_below is_proper helper_among
skip_not_flow block f = (
  settled,
  record {
    checked = refl;
    proper = refl;
    falls = loosely _ settled refl refl refl refl;
    jumps = loosely _ decided refl refl refl refl;
  },
  f,
)

pub zero_decided : is_within (known Abs.None (Abs.Num 0 0)) decided ≡ true
unfolding each_below
zero_decided = loosely _ decided refl refl refl refl

pub zero_settled : is_within (known Abs.None (Abs.Num 0 0)) settled ≡ true
unfolding each_below
zero_settled = loosely _ settled refl refl refl refl

pub decided_proper : is_proper decided ≡ true
unfolding is_proper
decided_proper = refl

pub settled_proper : is_proper settled ≡ true
unfolding is_proper
settled_proper = refl

pub negated_flow : Passing (change Xor 8 (pos 1) ∷ []) decided decided
unfolding failed_check falls_to each_below helper_among count_leading_zeros
negated_flow = record {
  passed = refl;
  within = loosely (after (change Xor 8 (pos 1) ∷ []) decided) decided refl refl refl refl;
}

pub condition_flow : (c : Formula) → HasFitting IsText c → Flow (condition_code c) settled decided
unfolding condition_code
condition_flow (Single t) fits = test_flow t fits
condition_flow (Negated inner) fits = (decided, decided_proper, condition_flow inner fits, negated_flow)
condition_flow (Both one other) fits = (
  decided,
  decided_proper,
  condition_flow one fits.0,
  skip_flow (condition_code other) decided zero_decided (condition_flow other fits.1),
)
condition_flow (Either one other) fits = (
  decided,
  decided_proper,
  condition_flow one fits.0,
  skip_not_flow (condition_code other) (condition_flow other fits.1),
)
