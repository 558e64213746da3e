-- The flow of each action, and of rules.
use Rattle.std.proofs.Common.{◌≡◌, ℕ, ◌+◌, ◌-◌, ◌^◌, ◌≤◌, pos, length, true, List, [], ◌∷◌, ◌++◌}
use Rattle.std.proofs.Common.{Option, Some, None, refl, subst, arith, nat_lt}
use Rattle.std.specs.List.{AllByRecursion}
use Rattle.std.proofs.lemmas.Bool.{cond_both}
use Rattle.wire_spec.specs.declared.limits.TheConstants.{MAX_VALUE}
use Rattle.machine_spec.specs.declared.{helper.TheConstants.HELPERS, instruction.Region.Region}
use Rattle.machine_spec.specs.declared.instruction.Instruction.{Instruction}
use Rattle.machine_spec.specs.declared.instruction.Instruction.TheVariants.{Move, Compute, Call, Exit}
use Rattle.machine_spec.specs.declared.operation.Width.TheVariants.{Bits32, Bits64}
use Rattle.machine_spec.specs.declared.instruction.Source.TheVariants.{Register, Immediate}
use Rattle.machine_spec.specs.declared.operation.{Operation.TheVariants.Add}
use Rattle.machine_spec.specs.declared.operation.Operation.TheVariants.{LeftShift, Mod, Sub}
use Rattle.verifier_spec.specs.declared.{state.Abs.Abs, state.Abstract.Abstract, state.StackSet.StackSet}
use Rattle.machine_spec.specs.Values.{immediate}
use Rattle.verifier_spec.proofs.Safety.{failed_from}
use Rattle.verifier_spec.specs.States.{is_within, is_proper, each_below, entry_state}
use Rattle.verifier_spec.specs.{StackSets.no_places}
use Rattle.verifier_spec.specs.{Kinds.is_proper_kind, Kinds.is_kind_within, Checks.failed_check}
use Rattle.machine_spec.specs.Signatures.{helper_among}
use Rattle.verifier_spec.specs.{Transfer.falls_to, Transfer.jumps_to}
use Rattle.verifier_spec.proofs.{Joins.within_refl, Joins.kind_within_refl, Proper.with_kind_proper, Proper.with_set_proper}
use Rattle.rules.specs.declared.{rule.Part.Part}
use Rattle.rules.specs.declared.{rule.Output.Output, rule.Action.Action}
use Rattle.rules.specs.declared.rule.Output.TheVariants as output
use Rattle.rules.specs.declared.rule.Action.TheVariants as action
use Rattle.rules.specs.Formulas.{Formula}
use Rattle.rules.specs.Lines.{Line}
use Rattle.rules_compiler.specs.Code.{Code, Plain, Ends, Then}
use Rattle.rules_compiler.specs.Pieces.{set, copy, change, high_half, low_half, word_count, text_code, part_code}
use Rattle.rules_compiler.specs.Actions.{drop_code, plain_code, hashed_code, part_cut_code, rest_cut_code, cut_code}
use Rattle.rules_compiler.specs.Actions.{change_call, changed_code}
use Rattle.rules_compiler.specs.Actions.{output_code, action_code}
use Rattle.rules_compiler.specs.Rules.{guarded_code, line_code, lines_code, first_code, rest_code, body_of}
use Rattle.rules_compiler.specs.Rules.{asks_first, key_line_code, opening_code, opening_of, rules_code}
use Rattle.rules_compiler.proofs.KeyFlows.{key_decided, key_decided_proper, key_condition_flow, first_decided}
use Rattle.std.proofs.Common.{drop}
use Rattle.std.proofs.{lemmas.Bool.cond_both}
use Rattle.rules.specs.Limits.{IsText, FitsPart, FitsOutput, FitsAction, FitsWhen, FitsLine}
use Rattle.rules_compiler.proofs.Ready.{small_immediate}
use Rattle.rules_compiler.proofs.Parts.{PartFlow, part_flow}
use Rattle.rules_compiler.proofs.Texts.{near_stands, LeadsTo, leads_both, shape, words_of, named_rightly, text_leads, text_set}
use Rattle.rules_compiler.specs.declared.pieces.TheConstants.{NEAR}
use Rattle.rules_compiler.proofs.Flows.{Flow, after_proper}
use Rattle.rules_compiler.proofs.States.{decided, ends_flow, known}
use Rattle.rules_compiler.proofs.States.{loosely, loosely_by, numbered, passing_from}
use Rattle.rules_compiler.proofs.States.{settled, straight}
use Rattle.rules_compiler.proofs.AddedFlows.{with_added_flow}
use Rattle.rules_compiler.proofs.Shapes.{condition_flow, decided_proper, settled_proper, skip_flow, zero_settled}

-- ---- actions

drop_flow : (n : ℕ) (b : Abstract) → Flow (drop_code n) settled b
unfolding drop_code failed_check falls_to is_proper helper_among
drop_flow n b = cond_both (nat_lt n (2 ^ 31)) (set 0 (pos n) ∷ [])
    (Move Bits32 0 (Immediate (high_half n)) ∷ change LeftShift 0 (pos 32)
    ∷ Move Bits32 2 (Immediate (low_half n)) ∷ Compute Bits64 Add 0 (Register 2) ∷ [])
    (λ list. Flow (Then (Plain list) Ends) settled b)
    (λ small. straight _ Ends settled b refl refl refl) (λ great. straight _ Ends settled b refl refl refl)

record_flow : (out : ℕ) (b : Abstract) → Flow (plain_code out (pos 3)) settled b
unfolding plain_code failed_check falls_to is_proper helper_among
record_flow out b = straight _ Ends settled b refl refl refl

null_flow : (out : ℕ) (b : Abstract) → Flow (plain_code out (pos 6)) settled b
unfolding plain_code failed_check falls_to is_proper helper_among
null_flow out b = straight _ Ends settled b refl refl refl

abbrev hashed_list : ℕ → List Instruction
hashed_list count = copy 1 6 ∷ Call (pos 18) ∷ change Mod 0 (pos count) ∷ copy 1 0 ∷ Call (pos 3) ∷ []

hashed_leads : (answer : Abs) (low high : ℕ) (places : StackSet) (count : ℕ) →
    LeadsTo (hashed_list count) (numbered answer low high Abs.None places) (numbered (Abs.Num 0 3) low high Abs.None places)
unfolding failed_check falls_to helper_among
hashed_leads answer low high places count = record { passed = refl; is = refl }

hashed_flow : (p : Part) (count : ℕ) (b : Abstract) → FitsPart IsText p → Flow (hashed_code p count) settled b
unfolding hashed_code failed_check is_proper
hashed_flow p count b fits =
    let f = part_flow p fits in
    ends_flow (part_code p ++ hashed_list count) settled b (numbered (Abs.Num 0 3) f.low f.high Abs.None f.places)
    (leads_both (part_code p) (hashed_list count) settled (numbered f.answer f.low f.high Abs.None f.places)
    (numbered (Abs.Num 0 3) f.low f.high Abs.None f.places) f.leads (hashed_leads f.answer f.low f.high f.places count))
    refl refl

abbrev cut_list : ℕ → ℕ → ℕ → List Instruction
cut_list out from to = set 4 (pos (to - from)) ∷ set 1 (pos out) ∷ copy 2 6 ∷ set 3 (pos from) ∷ Call (pos 20) ∷ []

cut_leads : (answer : Abs) (low high : ℕ) (places : StackSet) (out from to : ℕ) →
    LeadsTo (cut_list out from to) (numbered answer low high Abs.None places) (numbered (Abs.Num 0 4) low high Abs.None places)
unfolding failed_check falls_to helper_among
cut_leads answer low high places out from to = record { passed = refl; is = refl }

part_cut_flow : (out : ℕ) (p : Part) (from to : ℕ) (b : Abstract) → FitsPart IsText p →
    Flow (part_cut_code out p from to) settled b
unfolding part_cut_code failed_check is_proper
part_cut_flow out p from to b fits =
    let f = part_flow p fits in
    ends_flow (part_code p ++ cut_list out from to) settled b (numbered (Abs.Num 0 4) f.low f.high Abs.None f.places)
    (leads_both (part_code p) (cut_list out from to) settled (numbered f.answer f.low f.high Abs.None f.places)
    (numbered (Abs.Num 0 4) f.low f.high Abs.None f.places) f.leads (cut_leads f.answer f.low f.high f.places out from to))
    refl refl

-- ---- cuts up to a part's end

-- a state with the number of a part is within one with fewer bytes set and a wider answer
wider_number : (j k : Abs) (low high : ℕ) (places : StackSet) →
    is_kind_within (numbered j low high Abs.None places) j k ≡ true →
    is_within (numbered j low high Abs.None places) (numbered k low high Abs.None no_places) ≡ true
wider_number j k low high places answer =
    loosely_by (numbered j low high Abs.None places) (numbered k low high Abs.None no_places) (
      answer,
      (
        refl,
        (
          refl,
          (
            refl,
            (
              refl,
              (
                refl,
                (kind_within_refl (numbered j low high Abs.None places) (Abs.Num low high), (refl, (refl, (refl, (refl, tt))))),
              ),
            ),
          ),
        ),
      ),
    )
    refl refl refl

abbrev most : ℕ
most = MAX_VALUE + 2

sized_leads : (answer : Abs) (low high : ℕ) (places : StackSet) → LeadsTo (copy 1 6 ∷ Call (pos 13) ∷ [])
    (numbered answer low high Abs.None places) (numbered (Abs.Num 0 (MAX_VALUE + 2)) low high Abs.None places)
unfolding failed_check falls_to helper_among
sized_leads answer low high places = record { passed = refl; is = refl }

abbrev rest_list : ℕ → ℕ → List Instruction
rest_list out from = copy 4 0 ∷ change Sub 4 (pos (from + 2)) ∷ set 1 (pos out) ∷ copy 2 6 ∷ set 3 (pos from)
    ∷ Call (pos 20) ∷ []

rest_leads : (low high : ℕ) (out from : ℕ) → LeadsTo (rest_list out from)
    (numbered (Abs.Num 2 (MAX_VALUE + 2)) low high Abs.None no_places) (numbered (Abs.Num 0 4) low high Abs.None no_places)
unfolding failed_check falls_to helper_among
rest_leads low high out from = record { passed = refl; is = refl }

numbered_proper : (p : Part) → (f : PartFlow p) → (j : Abs) → (list : List Instruction) →
    LeadsTo list settled (numbered j f.low f.high Abs.None f.places) →
    is_proper (numbered j f.low f.high Abs.None f.places) ≡ true
unfolding is_proper
numbered_proper p f j list leads =
    subst (λ (d : Abstract). is_proper d ≡ true) leads.is (after_proper list settled leads.passed refl)

-- the ranges of such a state are those of the part's number
number_proper : (j k : Abs) (low high : ℕ) (places others : StackSet) →
    is_proper (numbered j low high Abs.None places) ≡ true → is_proper_kind k ≡ true →
    is_proper (numbered k low high Abs.None others) ≡ true
number_proper j k low high places others p kind =
    let with = with_kind_proper (numbered j low high Abs.None places) 0 k p kind in
    with_set_proper (numbered k low high Abs.None places) others with

rest_cut_flow : (out : ℕ) (p : Part) (from : ℕ) (b : Abstract) → FitsPart IsText p → Flow (rest_cut_code out p from) settled b
unfolding rest_cut_code failed_check falls_to jumps_to is_proper
rest_cut_flow out p from b fits =
    let f = part_flow p fits in
    let first = leads_both (part_code p) (copy 1 6 ∷ Call (pos 13) ∷ []) settled (numbered f.answer f.low f.high Abs.None f.places)
    (numbered (Abs.Num 0 (MAX_VALUE + 2)) f.low f.high Abs.None f.places) f.leads
    (sized_leads f.answer f.low f.high f.places) in
    let proper = numbered_proper p f (Abs.Num 0 (MAX_VALUE + 2)) (part_code p ++ (copy 1 6 ∷ Call (pos 13) ∷ [])) first in (
      numbered (Abs.Num 0 (MAX_VALUE + 2)) f.low f.high Abs.None f.places,
      proper,
      passing_from (part_code p ++ (copy 1 6 ∷ Call (pos 13) ∷ [])) settled
          (numbered (Abs.Num 0 (MAX_VALUE + 2)) f.low f.high Abs.None f.places)
          (numbered (Abs.Num 0 (MAX_VALUE + 2)) f.low f.high Abs.None f.places) first (within_refl _),
      (
        numbered (Abs.Num 2 (MAX_VALUE + 2)) f.low f.high Abs.None no_places,
        number_proper (Abs.Num 0 (MAX_VALUE + 2)) (Abs.Num 2 (MAX_VALUE + 2)) f.low f.high f.places no_places proper refl,
        (
          numbered (Abs.Num 0 1) f.low f.high Abs.None f.places,
          record {
            checked = refl;
            proper = number_proper (Abs.Num 0 (MAX_VALUE + 2)) (Abs.Num 0 1) f.low f.high f.places f.places proper refl;
            falls = within_refl (numbered (Abs.Num 0 1) f.low f.high Abs.None f.places);
            jumps = wider_number (Abs.Num 2 (MAX_VALUE + 2)) (Abs.Num 2 (MAX_VALUE + 2)) f.low f.high f.places refl;
          },
          record {
            passed = refl;
            within = wider_number (Abs.Num 2 2) (Abs.Num 2 (MAX_VALUE + 2)) f.low f.high f.places refl;
          },
        ),
        ends_flow (rest_list out from) (numbered (Abs.Num 2 (MAX_VALUE + 2)) f.low f.high Abs.None no_places) b
            (numbered (Abs.Num 0 4) f.low f.high Abs.None no_places) (rest_leads f.low f.high out from)
            (number_proper (Abs.Num 0 (MAX_VALUE + 2)) (Abs.Num 2 (MAX_VALUE + 2)) f.low f.high f.places no_places proper refl)
            refl,
      ),
    )

cut_flow : (out : ℕ) (p : Part) (from : ℕ) (to : Option ℕ) (b : Abstract) → FitsPart IsText p →
    Flow (cut_code out p from to) settled b
cut_flow out p from None b fits = rest_cut_flow out p from b fits
cut_flow out p from (Some to) b fits = part_cut_flow out p from to b fits

-- ---- changed values

module _ (out from to size : ℕ) (few : size ≤ 255) where
  abbrev changing : Abstract
  changing = shape Abs.None (Abs.Num (immediate Bits64 (pos out)) (immediate Bits64 (pos out)))
      (Abs.Num (immediate Bits64 (pos from)) (immediate Bits64 (pos from)))
      (Abs.Num (immediate Bits64 (pos (to - from))) (immediate Bits64 (pos (to - from))))
      (Abs.Addr Region.Stack (pos 256) (pos 256)) (Abs.Num (immediate Bits64 (pos size)) (immediate Bits64 (pos size)))
      Abs.None Abs.None (words_of no_places (word_count size))

  change_check : failed_check HELPERS (Call (pos 21)) changing ≡ None
  unfolding helper_among
  change_check = failed_from HELPERS (Call (pos 21)) changing (record {
    frame = refl;
    helper = refl;
    unset = refl;
    operands = refl;
    base = refl;
    condition = refl;
    record_write = refl;
    record_bounds = refl;
    stack_bounds = refl;
    stack_unset = refl;
    argument = rw (named_rightly 256 changing (immediate Bits64 (pos size)) size (small_immediate size (omega arith))
        (omega arith) (λ q low high. text_set 256 no_places size q (omega arith) few low high)) refl;
    exit = refl;
  })

  abbrev plain_words : Abs → Abstract
  plain_words answer = shape answer Abs.None Abs.None Abs.None Abs.None Abs.None Abs.None Abs.None
      (words_of no_places (word_count size))

  change_leads : LeadsTo (change_call out from to size) (plain_words Abs.None) changing
  unfolding failed_check falls_to helper_among
  change_leads = record { passed = refl; is = refl }

  emitted_leads : LeadsTo (Call (pos 21) ∷ []) changing (plain_words (Abs.Num 0 5))
  unfolding falls_to helper_among
  emitted_leads = record { passed = rw change_check refl; is = refl }

changed_flow : (out from to : ℕ) (text : List ℕ) (b : Abstract) → IsText text → Flow (changed_code out from to text) settled b
unfolding changed_code failed_check is_proper
changed_flow out from to text b is =
    ends_flow (text_code NEAR text ++ (change_call out from to (length text) ++ Call (pos 21) ∷ [])) settled b
    (plain_words out from to (length text) is.few (Abs.Num 0 5))
    (leads_both (text_code NEAR text) (change_call out from to (length text) ++ Call (pos 21) ∷ []) settled
    (plain_words out from to (length text) is.few Abs.None) (plain_words out from to (length text) is.few (Abs.Num 0 5))
    (text_leads near_stands Abs.None Abs.None Abs.None Abs.None Abs.None Abs.None Abs.None Abs.None text is.few no_places)
    (leads_both (change_call out from to (length text)) (Call (pos 21) ∷ []) (plain_words out from to (length text) is.few Abs.None)
    (changing out from to (length text) is.few) (plain_words out from to (length text) is.few (Abs.Num 0 5))
    (change_leads out from to (length text) is.few) (emitted_leads out from to (length text) is.few)))
    refl refl

-- ---- outputs and actions

output_flow : (what : Output) (b : Abstract) → FitsOutput IsText what → Flow (output_code what) settled b
unfolding output_code
output_flow (output.Record out) b fits = record_flow out b
output_flow (output.Hashed p count) b fits = hashed_flow p count b fits.0
output_flow (output.Cut out p cut) b fits = cut_flow out p cut.from cut.to b fits.1.0
output_flow (output.Changed out from to text) b fits = changed_flow out from to text b fits.1.1.1

action_flow : (a : Action) (b : Abstract) → FitsAction IsText a → Flow (action_code a) settled b
unfolding action_code
action_flow (action.Drop number) b fits = drop_flow number b
action_flow (action.Tombstone out) b fits = null_flow out b
action_flow (action.Output what added) b fits =
    with_added_flow added (output_code what) b fits.1 (output_flow what b fits.0)

-- ---- rules

guarded_flow : (c : Option Formula) (block : Code) → FitsWhen IsText c → Flow block settled settled →
    Flow (guarded_code c block) settled settled
guarded_flow None block fits f = f
guarded_flow (Some c) block fits f =
    (decided, decided_proper, condition_flow c fits.tests, skip_flow block settled zero_settled f)

line_flow : (line : Line) → FitsLine IsText line → Flow (line_code line) settled settled
unfolding line_code
line_flow line fits =
    guarded_flow line.condition (action_code line.action) fits.condition
    (action_flow line.action settled fits.action)

lines_flow : (lines : List Line) → AllByRecursion (FitsLine IsText) lines →
    Flow (lines_code lines) settled settled
unfolding lines_code
lines_flow [] fits = record { passed = refl; within = within_refl settled }
lines_flow (line ∷ lines) fits =
    (settled, settled_proper, line_flow line fits.0, lines_flow lines fits.1)

first_flow : Flow first_code entry_state settled
unfolding failed_check falls_to each_below helper_among
first_flow = record { passed = refl; within = loosely _ settled refl refl refl refl }

-- r0 is 0 at the end
abbrev pub ended : Abstract
ended = known (Abs.Num 0 0) Abs.None

rest_flow : Flow rest_code settled ended
unfolding failed_check falls_to helper_among
rest_flow = record { passed = refl; within = within_refl ended }

key_line_flow : (c : Option Formula) (block : Code) → FitsWhen IsText c → asks_first c ≡ true → Flow block settled settled →
    Flow (key_line_code c block) entry_state settled
unfolding key_line_code
key_line_flow None block fits asks f = absurd cc
key_line_flow (Some c) block fits asks f = (
  key_decided,
  key_decided_proper,
  key_condition_flow c fits.tests asks,
  (decided, decided_proper, first_decided, skip_flow block settled zero_settled f),
)

opening_flow : (lines : List Line) → AllByRecursion (FitsLine IsText) lines → Flow (opening_of lines) entry_state settled
unfolding opening_of opening_code
opening_flow [] fits = first_flow
opening_flow (line ∷ lines) fits = cond_both (asks_first line.condition)
    (key_line_code line.condition (action_code line.action)) (Then first_code (line_code line))
    (λ code. Flow code entry_state settled)
    (λ asks. key_line_flow line.condition (action_code line.action) fits.0.condition asks
    (action_flow line.action settled fits.0.action))
    (λ other. (settled, settled_proper, first_flow, line_flow line fits.0))

behind_fits : (lines : List Line) → AllByRecursion (FitsLine IsText) lines → AllByRecursion (FitsLine IsText) (drop 1 lines)
behind_fits [] fits = tt
behind_fits (line ∷ lines) fits = fits.1

rules_flow : (lines : List Line) → AllByRecursion (FitsLine IsText) lines → Flow (rules_code lines) entry_state settled
unfolding rules_code
rules_flow lines fits =
    (settled, settled_proper, opening_flow lines fits, lines_flow (drop 1 lines) (behind_fits lines fits))

pub body_flow : (lines : List Line) → AllByRecursion (FitsLine IsText) lines → Flow (body_of lines) entry_state ended
unfolding body_of
body_flow lines fits = (settled, settled_proper, rules_flow lines fits, rest_flow)

pub ended_proper : is_proper ended ≡ true
unfolding is_proper
ended_proper = refl

pub entry_proper : is_proper entry_state ≡ true
unfolding is_proper
entry_proper = refl

pub ended_exits : failed_check HELPERS Exit ended ≡ None
unfolding failed_check helper_among
ended_exits = refl
