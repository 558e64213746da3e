-- The flow of a header that is added.
use Rattle.std.proofs.Common.{◌≡◌, ℕ, ◌≤◌, pos, length, false, List, [], ◌∷◌, ◌++◌}
use Rattle.std.proofs.Common.{Option, Some, None, refl, arith}
use Rattle.machine_spec.specs.declared.{helper.TheConstants.HELPERS, instruction.Region.Region}
use Rattle.machine_spec.specs.declared.instruction.Instruction.TheVariants.{Call}
use Rattle.machine_spec.specs.declared.operation.Width.TheVariants.{Bits64}
use Rattle.verifier_spec.specs.declared.{state.Abs.Abs, state.Abstract.Abstract, state.StackSet.StackSet}
use Rattle.machine_spec.specs.Values.{immediate}
use Rattle.verifier_spec.proofs.Safety.{failed_from}
use Rattle.verifier_spec.specs.States.{is_proper, each_below}
use Rattle.verifier_spec.specs.{StackSets.no_places}
use Rattle.verifier_spec.specs.{Checks.failed_check}
use Rattle.verifier_spec.specs.{Checks.may_name_wrongly, Checks.named_reach, Intervals.from_to}
use Rattle.machine_spec.specs.declared.summary.Direction.{Direction}
use Rattle.machine_spec.specs.Signatures.{helper_among}
use Rattle.verifier_spec.specs.{Transfer.falls_to, Transfer.jumps_to}
use Rattle.verifier_spec.proofs.{Joins.within_refl}
use Rattle.rules.specs.declared.{rule.AddedHeader.AddedHeader}
use Rattle.rules_compiler.specs.Code.{Code}
use Rattle.rules_compiler.specs.Pieces.{word_count, text_code}
use Rattle.rules_compiler.specs.Actions.{name_header, added_code, with_added}
use Rattle.rules.specs.Limits.{IsText, FitsAdded}
use Rattle.rules_compiler.proofs.Ready.{small_immediate}
use Rattle.rules_compiler.proofs.Texts.{near_stands, far_stands, words_from, words_keep, LeadsTo, leads_both, shape, words_of, named_rightly, text_leads, text_set}
use Rattle.rules_compiler.specs.declared.pieces.TheConstants.{NEAR, FAR}
use Rattle.rules_compiler.proofs.Flows.{Flow, Passing}
use Rattle.rules_compiler.proofs.States.{known}
use Rattle.rules_compiler.proofs.States.{loosely, passing_from}
use Rattle.rules_compiler.proofs.States.{settled}
use Rattle.rules_compiler.proofs.Shapes.{settled_proper}

module _ (key_size value_size : ℕ) (key_few : key_size ≤ 255) (value_few : value_size ≤ 255) where
  -- the places of both texts
  abbrev both_texts : StackSet
  both_texts = words_of (words_from 0 no_places (word_count key_size)) (word_count value_size)

  abbrev naming : Abstract
  naming = shape Abs.None (Abs.Addr Region.Stack (pos 0) (pos 0))
      (Abs.Num (immediate Bits64 (pos key_size)) (immediate Bits64 (pos key_size)))
      (Abs.Addr Region.Stack (pos 256) (pos 256))
      (Abs.Num (immediate Bits64 (pos value_size)) (immediate Bits64 (pos value_size))) Abs.None Abs.None Abs.None
      (words_of (words_from 0 no_places (word_count key_size)) (word_count value_size))

  key_named : may_name_wrongly naming (named_reach Direction.Read (Abs.Addr Region.Stack (pos 0) (pos 0))
      (Some (from_to (immediate Bits64 (pos key_size)) (immediate Bits64 (pos key_size))))) ≡ false
  key_named = named_rightly 0 naming (immediate Bits64 (pos key_size)) key_size (small_immediate key_size (omega arith))
      (omega arith) (λ q low high. words_keep 256 (words_from 0 no_places (word_count key_size)) (word_count value_size) q
      (omega arith) (text_set 0 no_places key_size q (omega arith) key_few low high))

  value_named : may_name_wrongly naming (named_reach Direction.Read (Abs.Addr Region.Stack (pos 256) (pos 256))
      (Some (from_to (immediate Bits64 (pos value_size)) (immediate Bits64 (pos value_size))))) ≡ false
  value_named = named_rightly 256 naming (immediate Bits64 (pos value_size)) value_size
      (small_immediate value_size (omega arith)) (omega arith)
      (λ q low high. text_set 256 (words_from 0 no_places (word_count key_size)) value_size q (omega arith) value_few low high)

  add_check : failed_check HELPERS (Call (pos 22)) naming ≡ None
  unfolding helper_among
  add_check = failed_from HELPERS (Call (pos 22)) naming (record {
    frame = refl;
    helper = refl;
    unset = refl;
    operands = refl;
    base = refl;
    condition = refl;
    record_write = refl;
    record_bounds = refl;
    stack_bounds = refl;
    stack_unset = refl;
    argument = rw (key_named, value_named) refl;
    exit = refl;
  })

  abbrev both_plain : Abs → Abstract
  both_plain answer = shape answer Abs.None Abs.None Abs.None Abs.None Abs.None Abs.None Abs.None
      (words_of (words_from 0 no_places (word_count key_size)) (word_count value_size))

  name_leads : LeadsTo (name_header key_size value_size) (both_plain Abs.None) naming
  unfolding failed_check falls_to helper_among
  name_leads = record { passed = refl; is = refl }

  call_leads : LeadsTo (Call (pos 22) ∷ []) naming (both_plain (Abs.Num 0 3))
  unfolding falls_to helper_among
  call_leads = record { passed = rw add_check refl; is = refl }

  adding_leads : LeadsTo (name_header key_size value_size ++ Call (pos 22) ∷ []) (both_plain Abs.None) (both_plain (Abs.Num 0 3))
  adding_leads = leads_both (name_header key_size value_size) (Call (pos 22) ∷ []) (both_plain Abs.None) naming
      (both_plain (Abs.Num 0 3)) name_leads call_leads

-- r0 has the answer of the helper that adds a header
abbrev added_answer : Abstract
added_answer = known (Abs.Num 0 3) Abs.None

added_leads : (key value : List ℕ) → IsText key → IsText value →
    Passing (text_code FAR key ++ (text_code NEAR value ++ (name_header (length key) (length value) ++ Call (pos 22) ∷ [])))
    settled added_answer
unfolding each_below
added_leads key value key_is value_is =
    let rest = name_header (length key) (length value) ++ Call (pos 22) ∷ [] in
    let one = shape Abs.None Abs.None Abs.None Abs.None Abs.None Abs.None Abs.None Abs.None
    (words_from 0 no_places (word_count (length key))) in
    let behind = both_plain (length key) (length value) key_is.few value_is.few (Abs.Num 0 3) in
    passing_from (text_code FAR key ++ (text_code NEAR value ++ rest)) settled behind added_answer
    (leads_both (text_code FAR key) (text_code NEAR value ++ rest) settled one behind
    (text_leads far_stands Abs.None Abs.None Abs.None Abs.None Abs.None Abs.None Abs.None Abs.None key key_is.few no_places)
    (leads_both (text_code NEAR value) rest one (both_plain (length key) (length value) key_is.few value_is.few Abs.None) behind
    (text_leads near_stands Abs.None Abs.None Abs.None Abs.None Abs.None Abs.None Abs.None Abs.None value value_is.few
    (words_from 0 no_places (word_count (length key))))
    (adding_leads (length key) (length value) key_is.few value_is.few)))
    (loosely behind added_answer refl refl refl refl)

added_flow : (key value : List ℕ) → IsText key → IsText value → Flow (added_code key value) settled settled
unfolding added_code failed_check falls_to jumps_to each_below is_proper helper_among
added_flow key value key_is value_is = (
  added_answer,
  refl,
  added_leads key value key_is value_is,
  (
    known (Abs.Num 1 3) Abs.None,
    record {
      checked = refl;
      proper = refl;
      falls = within_refl (known (Abs.Num 1 3) Abs.None);
      jumps = loosely _ settled refl refl refl refl;
    },
    refl,
  ),
)

pub with_added_flow : (added : Option AddedHeader) (block : Code) (b : Abstract) → FitsAdded IsText added → Flow block settled b →
    Flow (with_added added block) settled b
with_added_flow None block b fits f = f
with_added_flow (Some h) block b fits f =
    (settled, settled_proper, added_flow h.key h.value fits.0 fits.1, f)
