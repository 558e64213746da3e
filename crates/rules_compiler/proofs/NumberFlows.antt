-- The flow of numbers that are read in the value itself.
use Rattle.std.proofs.Common.{◌≡◌, ℕ, suc, ◌+◌, ◌-◌, ◌≤◌, pos, true, false}
use Rattle.std.proofs.Common.{[], ◌∷◌, length, Option, Some, None, refl, arith}
use Rattle.wire_spec.specs.declared.limits.TheConstants.{MAX_VALUE}
use Rattle.machine_spec.specs.declared.{limits.TheConstants.STACK_SIZE, instruction.Region.Region}
use Rattle.machine_spec.specs.declared.{instruction.Size.Size}
use Rattle.machine_spec.specs.declared.instruction.Instruction.TheVariants.{Load}
use Rattle.machine_spec.specs.declared.instruction.Extension.TheVariants.{Zero}
use Rattle.machine_spec.specs.declared.instruction.Source.TheVariants.{Immediate}
use Rattle.machine_spec.specs.declared.operation.Width.TheVariants.{Bits64}
use Rattle.machine_spec.specs.declared.operation.Test.TheVariants as jumps
use Rattle.machine_spec.specs.Values.{immediate, byte_count}
use Rattle.verifier_spec.specs.declared.{state.Abs.Abs, state.Abstract.Abstract, interval.Interval.Interval}
use Rattle.verifier_spec.specs.States.{is_within, is_proper, each_below}
use Rattle.verifier_spec.specs.{Intervals.from_to, Checks.failed_check}
use Rattle.verifier_spec.specs.{Annotation.is_edge_covered}
use Rattle.verifier_spec.specs.Transfer.{falls_to, jumps_to, loaded_kind, with_range, narrowed_range}
use Rattle.verifier_spec.proofs.{Joins.within_refl}
use Rattle.rules.specs.declared.rule.Layout.{Layout}
use Rattle.rules.specs.declared.rule.Layout.TheVariants.{Byte, U16Be, U32Be, U64Be, U16Le, U32Le, U64Le}
use Rattle.rules.specs.Meaning.{layout_size}
use Rattle.rules_compiler.specs.Code.{instructions}
use Rattle.rules_compiler.specs.Pieces.{set, change}
use Rattle.rules_compiler.specs.Terms.{first_size, more_of, append_byte, more_code, read_code, value_number_code}
use Rattle.rules_compiler.specs.Tests.{test_of, value_truth_code, value_compare_code}
use Rattle.rules.specs.declared.rule.{Comparison.Comparison}
use Rattle.rules_compiler.specs.Code.{Plain, Then, Unless}
use Rattle.machine_spec.specs.declared.instruction.Instruction.TheVariants.{Compute}
use Rattle.machine_spec.specs.declared.instruction.Source.TheVariants.{Register}
use Rattle.machine_spec.specs.declared.operation.Operation.TheVariants.{Add, LeftShift}
use Rattle.machine_spec.specs.Signatures.{helper_among}
use Rattle.verifier_spec.specs.Transfer.{with_kind}
use Rattle.rules_compiler.proofs.States.{loosely}
use Rattle.std.proofs.Common.{zero, ◌^◌}
use Rattle.rules_compiler.proofs.Flows.{Flow, Passing}
use Rattle.rules_compiler.proofs.Texts.{LeadsTo, leads_both}
use Rattle.rules_compiler.proofs.States.{any, bit, known, settled, decided, valued, passing_from}
use Rattle.rules_compiler.proofs.ValueFlows.{byte_check, cleared, cleared_proper, clears, less_skips, load_leads}
use Rattle.rules_compiler.proofs.ValueFlows.{none_decided, none_kept, ranged, ranged_proper, ranged_within, zero_kept, zero_valued}

-- ---- numbers

pub behind_first : (layout : Layout) → 1 + more_of layout ≤ layout_size layout
behind_first Byte = omega arith
behind_first _ = omega arith

first_fits : (layout : Layout) → byte_count (first_size layout) ≤ layout_size layout
first_fits Byte = omega arith
first_fits _ = omega arith

module _ (least : ℕ) (few : least ≤ MAX_VALUE) where
  -- r0 has some number, r8 is 0, and the value has at least so many bytes; r1 may have a byte
  abbrev read : Abstract
  read = ranged least MAX_VALUE any (Abs.Num 0 0)

  abbrev beside : Abstract
  beside = record (ranged least MAX_VALUE any (Abs.Num 0 0)) {
    registers =
        any ∷ Abs.Num 0 255 ∷ Abs.None ∷ Abs.None ∷ Abs.None ∷ Abs.None ∷ Abs.None ∷ Abs.Len Region.Value ∷ Abs.Num 0 0
        ∷ Abs.Addr Region.Value (pos 0) (pos 0) ∷ Abs.Addr Region.Stack (pos STACK_SIZE) (pos STACK_SIZE) ∷ [];
  }

  read_proper : is_proper (ranged least MAX_VALUE any (Abs.Num 0 0)) ≡ true
  read_proper = ranged_proper least MAX_VALUE any (Abs.Num 0 0) refl refl (omega arith) (omega arith)

  shift_leads : LeadsTo (change LeftShift 0 (pos 8) ∷ []) (ranged least MAX_VALUE any (Abs.Num 0 0))
      (ranged least MAX_VALUE any (Abs.Num 0 0))
  unfolding failed_check falls_to helper_among
  shift_leads = record { passed = refl; is = refl }

  byte_leads : (place : ℕ) → place + 1 ≤ least →
      LeadsTo (Load Size.Byte Zero 1 9 (pos place) ∷ []) (ranged least MAX_VALUE any (Abs.Num 0 0)) beside
  unfolding falls_to
  byte_leads place within = record { passed = rw (byte_check least place within) refl; is = refl }

  add_leads : LeadsTo (Compute Bits64 Add 0 (Register 1) ∷ []) beside beside
  unfolding failed_check falls_to helper_among
  add_leads = record { passed = refl; is = refl }

  append_passing : (place : ℕ) → place + 1 ≤ least →
      Passing (append_byte place) (ranged least MAX_VALUE any (Abs.Num 0 0)) (ranged least MAX_VALUE any (Abs.Num 0 0))
  unfolding each_below
  append_passing place within =
      passing_from (append_byte place) read beside read
      (leads_both (change LeftShift 0 (pos 8) ∷ []) (Load Size.Byte Zero 1 9 (pos place) ∷ Compute Bits64 Add 0 (Register 1) ∷ [])
      read read beside shift_leads
      (leads_both (Load Size.Byte Zero 1 9 (pos place) ∷ []) (Compute Bits64 Add 0 (Register 1) ∷ []) read beside beside
      (byte_leads place within) add_leads))
      (loosely beside read refl refl refl refl)

  more_flow : (place count : ℕ) → place + count ≤ least →
      Flow (more_code place count) (ranged least MAX_VALUE any (Abs.Num 0 0)) (ranged least MAX_VALUE any (Abs.Num 0 0))
  unfolding more_code
  more_flow place zero within = record { passed = refl; within = within_refl read }
  more_flow place (suc count) within =
      (read, read_proper, append_passing place (omega arith), more_flow (place + 1) count (omega arith))

  first_within : (layout : Layout) → is_within (ranged least MAX_VALUE (loaded_kind (first_size layout) Zero) (Abs.Num 0 0))
      (ranged least MAX_VALUE any (Abs.Num 0 0)) ≡ true
  unfolding each_below
  first_within Byte = loosely _ read refl refl refl refl
  first_within U16Be = loosely _ read refl refl refl refl
  first_within U32Be = loosely _ read refl refl refl refl
  first_within U64Be = loosely _ read refl refl refl refl
  first_within U16Le = loosely _ read refl refl refl refl
  first_within U32Le = loosely _ read refl refl refl refl
  first_within U64Le = loosely _ read refl refl refl refl

  pub read_flow : (layout : Layout) (place : ℕ) → place + layout_size layout ≤ least →
      Flow (read_code layout place) (ranged least MAX_VALUE Abs.None (Abs.Num 0 0)) (ranged least MAX_VALUE any (Abs.Num 0 0))
  unfolding read_code
  read_flow layout place within = (
    read,
    read_proper,
    passing_from (Load (first_size layout) Zero 0 9 (pos place) ∷ []) (ranged least MAX_VALUE Abs.None (Abs.Num 0 0))
        (ranged least MAX_VALUE (loaded_kind (first_size layout) Zero) (Abs.Num 0 0)) read
        (load_leads (first_size layout) least place Abs.None (Abs.Num 0 0) (omega (arith, first_fits layout)))
        (first_within layout),
    more_flow (place + 1) (more_of layout) (omega (arith, behind_first layout)),
  )

  pub read_is_proper : is_proper (ranged least MAX_VALUE any (Abs.Num 0 0)) ≡ true
  read_is_proper = read_proper

  term_passing : Passing (set 8 (pos 1) ∷ []) (ranged least MAX_VALUE any (Abs.Num 0 0)) valued
  unfolding failed_check falls_to each_below
  term_passing = record {
    passed = refl;
    within = ranged_within least MAX_VALUE 0 MAX_VALUE any (Abs.Num 1 1) any bit refl (omega arith) (omega arith);
  }

  -- r0 has some number, and r8 is 1
  truth_passing : Passing (set 8 (pos 1) ∷ []) (ranged least MAX_VALUE any (Abs.Num 0 0)) (known any (Abs.Num 1 1))
  unfolding failed_check falls_to each_below
  truth_passing = record {
    passed = refl;
    within = ranged_within least MAX_VALUE 0 MAX_VALUE any (Abs.Num 1 1) any (Abs.Num 1 1) refl (omega arith) (omega arith);
  }

zeroes : Passing (set 0 (pos 0) ∷ set 8 (pos 0) ∷ []) settled (known (Abs.Num 0 0) (Abs.Num 0 0))
unfolding failed_check falls_to
zeroes = record { passed = refl; within = within_refl (known (Abs.Num 0 0) (Abs.Num 0 0)) }

zeroes_proper : is_proper (known (Abs.Num 0 0) (Abs.Num 0 0)) ≡ true
unfolding is_proper
zeroes_proper = refl

-- the size of a layout is one more than a number
pub one_less : (layout : Layout) (place : ℕ) → place + layout_size layout ≡ suc (place + layout_size layout - 1)
one_less Byte place = omega arith
one_less _ place = omega arith

pub number_flow : (layout : Layout) (place : ℕ) → place + layout_size layout ≤ 32768 →
    Flow (value_number_code layout place) settled valued
unfolding value_number_code
number_flow layout place near =
    let n = place + layout_size layout in (
      known (Abs.Num 0 0) (Abs.Num 0 0),
      zeroes_proper,
      zeroes,
      (
        ranged (place + layout_size layout) MAX_VALUE Abs.None (Abs.Num 0 0),
        less_skips (place + layout_size layout) (place + layout_size layout - 1)
            (length (instructions (Then (read_code layout place) (Plain (set 8 (pos 1) ∷ [])))))
            (one_less layout place) (omega arith) (Abs.Num 0 0)
            (zero_kept (place + layout_size layout) (place + layout_size layout - 1)) any bit
            (zero_valued (place + layout_size layout) (place + layout_size layout - 1)),
        (
          ranged (place + layout_size layout) MAX_VALUE any (Abs.Num 0 0),
          read_is_proper (place + layout_size layout) (omega arith),
          read_flow (place + layout_size layout) (omega arith) layout place (omega arith),
          term_passing (place + layout_size layout) (omega arith),
        ),
      ),
    )

-- ---- comparisons

any_edge : (o : Option Interval) →
    is_edge_covered (with_range (known any (Abs.Num 1 1)) 0 any o) (Some decided) ≡ true
unfolding each_below
any_edge None = refl
any_edge (Some range) =
    loosely (with_kind (known any (Abs.Num 1 1)) 0 (Abs.Num range.low range.high)) decided refl refl refl refl

decided_alone : is_proper decided ≡ true
unfolding is_proper
decided_alone = refl

any_alone : is_proper (known any (Abs.Num 1 1)) ≡ true
unfolding is_proper
any_alone = refl

any_jump : (how : Comparison) (n : ℕ) →
    Flow (Unless (test_of how) 0 (Immediate (pos n)) (Plain (set 8 (pos 0) ∷ []))) (known any (Abs.Num 1 1)) decided
unfolding failed_check falls_to jumps_to each_below
any_jump how n = (
  decided,
  record {
    checked = refl;
    proper = decided_alone;
    falls = any_edge (narrowed_range Bits64 (test_of how) false (Some (from_to 0 (2 ^ 64 - 1))) (immediate Bits64 (pos n)));
    jumps = any_edge (narrowed_range Bits64 (test_of how) true (Some (from_to 0 (2 ^ 64 - 1))) (immediate Bits64 (pos n)));
  },
  record { passed = refl; within = loosely _ decided refl refl refl refl },
)

pub number_compare_flow : (layout : Layout) (place : ℕ) (how : Comparison) (n : ℕ) → place + layout_size layout ≤ 32768 →
    Flow (value_compare_code layout place how n) settled decided
unfolding value_compare_code value_truth_code
number_compare_flow layout place how n near =
    let most = place + layout_size layout in (
      cleared,
      cleared_proper,
      clears,
      (
        ranged (place + layout_size layout) MAX_VALUE Abs.None (Abs.Num 0 0),
        less_skips (place + layout_size layout) (place + layout_size layout - 1)
            (length (instructions (Then (read_code layout place) (value_truth_code how n))))
            (one_less layout place) (omega arith) Abs.None
            (none_kept (place + layout_size layout) (place + layout_size layout - 1)) Abs.None bit
            (none_decided (place + layout_size layout) (place + layout_size layout - 1)),
        (
          ranged (place + layout_size layout) MAX_VALUE any (Abs.Num 0 0),
          read_is_proper (place + layout_size layout) (omega arith),
          read_flow (place + layout_size layout) (omega arith) layout place (omega arith),
          (
            known any (Abs.Num 1 1),
            any_alone,
            truth_passing (place + layout_size layout) (omega arith),
            any_jump how n,
          ),
        ),
      ),
    )
