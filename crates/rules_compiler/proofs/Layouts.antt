-- The flow of numbers that bytes of a part are.
use Rattle.std.proofs.Common.{◌≡◌, ℕ, ◌+◌, ◌≤◌, pos, true, List, [], ◌∷◌, ◌++◌}
use Rattle.std.proofs.Common.{None, refl, subst, arith}
use Rattle.machine_spec.specs.declared.{helper.TheConstants.HELPERS}
use Rattle.machine_spec.specs.declared.instruction.Instruction.{Instruction}
use Rattle.verifier_spec.specs.declared.{state.Abs.Abs, state.Abstract.Abstract, state.StackSet.StackSet}
use Rattle.verifier_spec.proofs.Safety.{failed_from}
use Rattle.verifier_spec.specs.States.{is_within, is_proper, each_below}
use Rattle.verifier_spec.specs.{Checks.failed_check}
use Rattle.machine_spec.specs.Signatures.{helper_among}
use Rattle.verifier_spec.specs.{Transfer.falls_to, Transfer.jumps_to}
use Rattle.verifier_spec.proofs.{Joins.within_refl, Proper.with_kind_proper}
use Rattle.rules.specs.declared.{rule.Part.Part, rule.Layout.Layout}
use Rattle.rules_compiler.specs.Pieces.{set, part_code}
use Rattle.rules.specs.Limits.{IsText, FitsPart}
use Rattle.rules_compiler.proofs.Parts.{part_flow}
use Rattle.rules_compiler.proofs.Texts.{LeadsTo, leads_both}
use Rattle.rules_compiler.specs.declared.pieces.TheConstants.{NEAR}
use Rattle.rules_compiler.proofs.Flows.{Flow, Passing, pass, after, after_proper}
use Rattle.machine_spec.specs.declared.instruction.Instruction.TheVariants.{Load}
use Rattle.machine_spec.specs.declared.instruction.Extension.TheVariants.{Zero}
use Rattle.rules.specs.declared.rule.Layout.TheVariants.{Byte, U16Be, U32Be, U64Be, U16Le, U32Le, U64Le}
use Rattle.rules.specs.Meaning.{layout_size}
use Rattle.verifier_spec.specs.{StackSets.with_places, Checks.are_set, Transfer.loaded_kind}
use Rattle.verifier_spec.proofs.StackSets.{places_set}
use Rattle.verifier_spec.proofs.Proper.{with_kind_proper}
use Rattle.rules_compiler.specs.Terms.{size_of, ordered, room_call, load_list, layout_code}
use Rattle.rules_compiler.proofs.Texts.{all_set}
use Rattle.rules_compiler.proofs.States.{settled, valued, loosely, numbered, passing_from}

-- the stack bytes that are set behind the copy
abbrev copied : Layout → StackSet → StackSet
copied layout places = with_places places 256 (layout_size layout)

room_leads : (layout : Layout) (answer : Abs) (low high : ℕ) (places : StackSet) (place : ℕ) →
    LeadsTo (room_call (layout_size layout) place) (numbered answer low high Abs.None places)
    (numbered (Abs.Num 0 1) low high (Abs.Num 0 0) (copied layout places))
unfolding failed_check falls_to helper_among
room_leads Byte answer low high places place = record { passed = refl; is = refl }
room_leads U16Be answer low high places place = record { passed = refl; is = refl }
room_leads U32Be answer low high places place = record { passed = refl; is = refl }
room_leads U64Be answer low high places place = record { passed = refl; is = refl }
room_leads U16Le answer low high places place = record { passed = refl; is = refl }
room_leads U32Le answer low high places place = record { passed = refl; is = refl }
room_leads U64Le answer low high places place = record { passed = refl; is = refl }

module _ (low high : ℕ) (places : StackSet) where
  abbrev filled : Layout → Abstract
  filled layout = numbered (Abs.Num 0 0) low high (Abs.Num 0 0) (copied layout places)

  are_copied : (layout : Layout) (size : ℕ) → size ≡ layout_size layout → layout_size layout ≤ 8 →
      are_set (copied layout places) 256 (0 + size) ≡ true
  are_copied layout size same few =
      all_set (copied layout places) 256 (0 + size)
      (λ q from to. places_set places 256 (layout_size layout) q (omega arith) from (omega arith))

  load_check : (layout : Layout) → failed_check HELPERS (Load (size_of layout) Zero 0 10 NEAR) (filled layout) ≡ None
  load_check Byte = failed_from HELPERS (Load (size_of Byte) Zero 0 10 NEAR) (filled Byte) (record {
    frame = refl;
    helper = refl;
    unset = refl;
    operands = refl;
    base = refl;
    condition = refl;
    record_write = refl;
    record_bounds = refl;
    stack_bounds = refl;
    stack_unset = rw (are_copied Byte 1 refl (omega arith)) refl;
    argument = refl;
    exit = refl;
  })
  load_check U16Be = failed_from HELPERS (Load (size_of U16Be) Zero 0 10 NEAR) (filled U16Be) (record {
    frame = refl;
    helper = refl;
    unset = refl;
    operands = refl;
    base = refl;
    condition = refl;
    record_write = refl;
    record_bounds = refl;
    stack_bounds = refl;
    stack_unset = rw (are_copied U16Be 2 refl (omega arith)) refl;
    argument = refl;
    exit = refl;
  })
  load_check U32Be = failed_from HELPERS (Load (size_of U32Be) Zero 0 10 NEAR) (filled U32Be) (record {
    frame = refl;
    helper = refl;
    unset = refl;
    operands = refl;
    base = refl;
    condition = refl;
    record_write = refl;
    record_bounds = refl;
    stack_bounds = refl;
    stack_unset = rw (are_copied U32Be 4 refl (omega arith)) refl;
    argument = refl;
    exit = refl;
  })
  load_check U64Be = failed_from HELPERS (Load (size_of U64Be) Zero 0 10 NEAR) (filled U64Be) (record {
    frame = refl;
    helper = refl;
    unset = refl;
    operands = refl;
    base = refl;
    condition = refl;
    record_write = refl;
    record_bounds = refl;
    stack_bounds = refl;
    stack_unset = rw (are_copied U64Be 8 refl (omega arith)) refl;
    argument = refl;
    exit = refl;
  })
  load_check U16Le = failed_from HELPERS (Load (size_of U16Le) Zero 0 10 NEAR) (filled U16Le) (record {
    frame = refl;
    helper = refl;
    unset = refl;
    operands = refl;
    base = refl;
    condition = refl;
    record_write = refl;
    record_bounds = refl;
    stack_bounds = refl;
    stack_unset = rw (are_copied U16Le 2 refl (omega arith)) refl;
    argument = refl;
    exit = refl;
  })
  load_check U32Le = failed_from HELPERS (Load (size_of U32Le) Zero 0 10 NEAR) (filled U32Le) (record {
    frame = refl;
    helper = refl;
    unset = refl;
    operands = refl;
    base = refl;
    condition = refl;
    record_write = refl;
    record_bounds = refl;
    stack_bounds = refl;
    stack_unset = rw (are_copied U32Le 4 refl (omega arith)) refl;
    argument = refl;
    exit = refl;
  })
  load_check U64Le = failed_from HELPERS (Load (size_of U64Le) Zero 0 10 NEAR) (filled U64Le) (record {
    frame = refl;
    helper = refl;
    unset = refl;
    operands = refl;
    base = refl;
    condition = refl;
    record_write = refl;
    record_bounds = refl;
    stack_bounds = refl;
    stack_unset = rw (are_copied U64Le 8 refl (omega arith)) refl;
    argument = refl;
    exit = refl;
  })

  abbrev loaded : Layout → Abstract
  loaded layout = numbered (loaded_kind (size_of layout) Zero) low high (Abs.Num 0 0) (copied layout places)

  load_leads : (layout : Layout) → LeadsTo (Load (size_of layout) Zero 0 10 NEAR ∷ []) (filled layout) (loaded layout)
  unfolding falls_to
  load_leads layout = record { passed = rw (load_check layout) refl; is = refl }

  abbrev rest_list : Layout → List Instruction
  rest_list layout = ordered layout ∷ set 8 (pos 1) ∷ []

  rest_passed : (layout : Layout) → pass (rest_list layout) (loaded layout) ≡ true
  unfolding failed_check falls_to
  rest_passed Byte = refl
  rest_passed U16Be = refl
  rest_passed U32Be = refl
  rest_passed U64Be = refl
  rest_passed U16Le = refl
  rest_passed U32Le = refl
  rest_passed U64Le = refl

  rest_within : (layout : Layout) → is_within (after (rest_list layout) (loaded layout)) valued ≡ true
  unfolding falls_to each_below
  rest_within Byte = loosely (after (rest_list Byte) (loaded Byte)) valued refl refl refl refl
  rest_within U16Be = loosely (after (rest_list U16Be) (loaded U16Be)) valued refl refl refl refl
  rest_within U32Be = loosely (after (rest_list U32Be) (loaded U32Be)) valued refl refl refl refl
  rest_within U64Be = loosely (after (rest_list U64Be) (loaded U64Be)) valued refl refl refl refl
  rest_within U16Le = loosely (after (rest_list U16Le) (loaded U16Le)) valued refl refl refl refl
  rest_within U32Le = loosely (after (rest_list U32Le) (loaded U32Le)) valued refl refl refl refl
  rest_within U64Le = loosely (after (rest_list U64Le) (loaded U64Le)) valued refl refl refl refl

  loaded_passing : (layout : Layout) → Passing (load_list layout) (filled layout) valued
  loaded_passing layout =
      passing_from (load_list layout) (filled layout) (after (rest_list layout) (loaded layout)) valued
      (leads_both (Load (size_of layout) Zero 0 10 NEAR ∷ []) (rest_list layout) (filled layout) (loaded layout)
      (after (rest_list layout) (loaded layout)) (load_leads layout)
      (record { passed = rest_passed layout; is = refl }))
      (rest_within layout)

-- numbers in bytes of a part
pub layout_flow : (layout : Layout) (p : Part) (place : ℕ) → FitsPart IsText p → Flow (layout_code layout p place) settled valued
unfolding layout_code failed_check falls_to jumps_to each_below is_proper
layout_flow layout p place fits =
    let f = part_flow p fits in
    let behind = numbered (Abs.Num 0 1) f.low f.high (Abs.Num 0 0) (copied layout f.places) in
    let leads = leads_both (part_code p) (room_call (layout_size layout) place) settled
    (numbered f.answer f.low f.high Abs.None f.places) behind f.leads
    (room_leads layout f.answer f.low f.high f.places place) in
    let proper = subst (λ (d : Abstract). is_proper d ≡ true) leads.is
    (after_proper (part_code p ++ room_call (layout_size layout) place) settled leads.passed refl) in (
      behind,
      proper,
      passing_from (part_code p ++ room_call (layout_size layout) place) settled behind behind leads (within_refl behind),
      (
        filled f.low f.high f.places layout,
        record {
          checked = refl;
          proper = with_kind_proper behind 0 (Abs.Num 0 0) proper refl;
          falls = within_refl (filled f.low f.high f.places layout);
          jumps = loosely (numbered (Abs.Num 1 1) f.low f.high (Abs.Num 0 0) (copied layout f.places)) valued refl refl refl refl;
        },
        loaded_passing f.low f.high f.places layout,
      ),
    )
