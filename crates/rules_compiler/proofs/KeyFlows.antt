-- The flow of short texts that are read in the key itself, before a helper is called.
use Rattle.std.proofs.Common.{◌≡◌, ℕ, suc, ◌+◌, ◌<◌, ◌≤◌, pos, ◌+ℤ◌, true, false, max, min, int_le}
use Rattle.std.proofs.Common.{List, [], ◌∷◌, length, Option, Some, None, refl, arith}
use Rattle.std.proofs.lemmas.Bool.{le-leb, ne_eqb}
use Rattle.std.proofs.lemmas.{Int.ints}
use Rattle.wire_spec.specs.declared.limits.TheConstants.{MAX_KEY, MAX_VALUE}
use Rattle.machine_spec.specs.declared.{helper.TheConstants.HELPERS, limits.TheConstants.STACK_SIZE, instruction.Region.Region}
use Rattle.machine_spec.specs.declared.{instruction.Size.Size}
use Rattle.machine_spec.specs.declared.instruction.Instruction.TheVariants.{Load, JumpIf}
use Rattle.machine_spec.specs.declared.instruction.Extension.TheVariants.{Zero}
use Rattle.machine_spec.specs.declared.instruction.Source.TheVariants.{Immediate}
use Rattle.machine_spec.specs.declared.operation.Width.TheVariants.{Bits64}
use Rattle.machine_spec.specs.declared.operation.Test.TheVariants as jumps
use Rattle.machine_spec.specs.Values.{immediate}
use Rattle.verifier_spec.specs.declared.{state.Abs.Abs, state.Abstract.Abstract, interval.Interval.Interval}
use Rattle.verifier_spec.specs.States.{is_within, is_proper, each_below}
use Rattle.verifier_spec.specs.{StackSets.no_places, Ranges.lengths_from_to, Intervals.from_to, Checks.failed_check}
use Rattle.verifier_spec.specs.Kinds.{kind_at, is_kind_within, is_proper_kind}
use Rattle.verifier_spec.specs.{Annotation.is_edge_covered}
use Rattle.verifier_spec.specs.Transfer.{falls_to, jumps_to, with_range, narrowed_range}
use Rattle.verifier_spec.proofs.{Safety.failed_from, Whole.le-le_z, StackSets.nothing_set, Proper.range_refl, Joins.within_refl}
use Rattle.verifier_spec.proofs.Order.{within_from, each_below_at, narrower_from}
use Rattle.rules_compiler.specs.Code.{instructions}
use Rattle.rules_compiler.specs.Pieces.{set}
use Rattle.rules_compiler.specs.Tests.{match_code, match_test_code}
use Rattle.rules_compiler.proofs.Flows.{Flow, Passing, Skips}
use Rattle.rules_compiler.proofs.Ready.{small_immediate}
use Rattle.rules_compiler.proofs.Texts.{LeadsTo}
use Rattle.rules_compiler.proofs.States.{bit, decided, passing_from}
use Rattle.std.proofs.lemmas.Bool.{and_parts}
use Rattle.machine_spec.specs.Signatures.{helper_among}
use Rattle.machine_spec.specs.declared.operation.{Test.Test as Jumps, Operation.TheVariants.Xor}
use Rattle.verifier_spec.specs.States.{entry_state}
use Rattle.std.specs.Int.Count.{count_leading_zeros}
use Rattle.rules.specs.declared.{rule.Test.Test as Tests}
use Rattle.rules.specs.declared.rule.Test.TheVariants as test
use Rattle.rules.specs.Formulas.{Formula, Single, Negated, Both, Either}
use Rattle.rules.specs.Limits.{IsText, FitsTest, HasFitting}
use Rattle.rules_compiler.specs.Pieces.{copy, change}
use Rattle.rules_compiler.specs.Tests.{is_short}
use Rattle.rules_compiler.specs.Rules.{is_key, asks_key, asks_single, asks_alone, key_test_code, key_single_code}
use Rattle.rules_compiler.specs.Rules.{key_condition_code}
use Rattle.rules_compiler.proofs.Flows.{after}
use Rattle.rules_compiler.proofs.States.{loosely}

-- ---- states before a helper is called

-- the key has from `low` to `high` bytes; r0 and r8 are of these kinds, and r1 to r4 have what they have at entry
abbrev pub keyed : (low high : ℕ) (answer truth : Abs) → Abstract
keyed low high answer truth = record {
  registers =
      answer ∷ Abs.Addr Region.Value (pos 0) (pos 0) ∷ Abs.Len Region.Value ∷ Abs.Addr Region.Key (pos 0) (pos 0)
      ∷ Abs.Len Region.Key ∷ Abs.None ∷ Abs.None ∷ Abs.None ∷ truth ∷ Abs.None
      ∷ Abs.Addr Region.Stack (pos STACK_SIZE) (pos STACK_SIZE) ∷ [];
  key = lengths_from_to low high;
  value = lengths_from_to 0 MAX_VALUE;
  set = no_places;
}

-- r8 is 0, or says whether a test of the key holds
abbrev pub key_cleared : Abstract
key_cleared = keyed 0 MAX_KEY Abs.None (Abs.Num 0 0)

abbrev pub key_decided : Abstract
key_decided = keyed 0 MAX_KEY Abs.None bit

keyed_within : (low high least most : ℕ) (j k l m : Abs) →
    each_below 11 (λ r. is_kind_within (keyed low high j k) (kind_at (keyed low high j k) r) (kind_at (keyed least most l m) r)) ≡ true →
    least ≤ low → high ≤ most → is_within (keyed low high j k) (keyed least most l m) ≡ true
keyed_within low high least most j k l m kinds more fewer =
    within_from (keyed low high j k) (keyed least most l m) (record {
      kinds = each_below_at 11
          (λ r. is_kind_within (keyed low high j k) (kind_at (keyed low high j k) r) (kind_at (keyed least most l m) r)) kinds;
      lengths = narrower_from (keyed low high j k) (keyed least most l m)
          (rw (le-leb least low more, le-leb high most fewer) refl) (range_refl (lengths_from_to 0 MAX_VALUE));
      set = λ place low e. absurd (nothing_set place low e);
    })

keyed_proper : (low high : ℕ) (j k : Abs) → is_proper_kind j ≡ true → is_proper_kind k ≡ true → low ≤ high →
    high ≤ MAX_KEY → is_proper (keyed low high j k) ≡ true
unfolding is_proper
keyed_proper low high j k first other order few =
    rw (first, other, le-leb low high order, le-leb high MAX_KEY few) refl

key_clears : Passing (set 8 (pos 0) ∷ []) entry_state key_cleared
unfolding failed_check falls_to each_below helper_among
key_clears = record {
  passed = refl;
  within = loosely (after (set 8 (pos 0) ∷ []) entry_state) key_cleared refl refl refl refl;
}

-- ---- jumps by the key's length

module _ (n c d : ℕ) (is : n ≡ suc c) (few : n < MAX_KEY) where
  same : immediate Bits64 (pos n) ≡ n
  same = small_immediate n (omega arith)

  low_is : max 0 n ≡ n
  low_is = omega arith

  below_is : min MAX_KEY c ≡ c
  below_is = omega arith

  enough_proper : is_proper (keyed n MAX_KEY Abs.None (Abs.Num 0 0)) ≡ true
  enough_proper = keyed_proper n MAX_KEY Abs.None (Abs.Num 0 0) refl refl (omega arith) (omega arith)

  less_falls : is_edge_covered (falls_to (JumpIf Bits64 jumps.Less 4 (Immediate (pos n)) (pos d)) key_cleared)
      (Some (keyed n MAX_KEY Abs.None (Abs.Num 0 0))) ≡ true
  unfolding falls_to each_below
  less_falls =
      rw (same, low_is, le-leb n MAX_KEY (omega arith))
      (keyed_within n MAX_KEY n MAX_KEY Abs.None (Abs.Num 0 0) Abs.None (Abs.Num 0 0) refl (omega arith) (omega arith))

  less_jumps : is_edge_covered (jumps_to (JumpIf Bits64 jumps.Less 4 (Immediate (pos n)) (pos d)) key_cleared) (Some key_decided) ≡ true
  unfolding jumps_to each_below
  less_jumps =
      rw (same, is, below_is, le-leb 0 c (omega arith))
      (keyed_within 0 c 0 MAX_KEY Abs.None (Abs.Num 0 0) Abs.None bit refl (omega arith) (omega arith))

  less_skips : Skips (JumpIf Bits64 jumps.Less 4 (Immediate (pos n)) (pos d)) key_cleared
      (keyed n MAX_KEY Abs.None (Abs.Num 0 0)) key_decided
  unfolding failed_check
  less_skips = record { checked = refl; proper = enough_proper; falls = less_falls; jumps = less_jumps }

module _ (n d : ℕ) (some : 1 ≤ n) (few : n < MAX_KEY) where
  other_falls : is_edge_covered (falls_to (JumpIf Bits64 jumps.NotEqual 4 (Immediate (pos n)) (pos d)) key_cleared)
      (Some (keyed n MAX_KEY Abs.None (Abs.Num 0 0))) ≡ true
  unfolding falls_to each_below
  other_falls =
      let imm = small_immediate n (omega arith) in
      let low : max 0 n ≡ n = omega arith in
      let high : min MAX_KEY n ≡ n = omega arith in
      rw (imm, low, high, le-leb n n (omega arith))
      (keyed_within n n n MAX_KEY Abs.None (Abs.Num 0 0) Abs.None (Abs.Num 0 0) refl (omega arith) (omega arith))

  other_jumps :
      is_edge_covered (jumps_to (JumpIf Bits64 jumps.NotEqual 4 (Immediate (pos n)) (pos d)) key_cleared) (Some key_decided) ≡ true
  unfolding jumps_to each_below
  other_jumps =
      let imm = small_immediate n (omega arith) in
      rw (imm, ne_eqb 0 n (λ e. omega arith), ne_eqb MAX_KEY n (λ e. omega arith))
      (keyed_within 0 MAX_KEY 0 MAX_KEY Abs.None (Abs.Num 0 0) Abs.None bit refl (omega arith) (omega arith))

  other_skips : Skips (JumpIf Bits64 jumps.NotEqual 4 (Immediate (pos n)) (pos d)) key_cleared
      (keyed n MAX_KEY Abs.None (Abs.Num 0 0)) key_decided
  unfolding failed_check
  other_skips = record {
    checked = refl;
    proper = keyed_proper n MAX_KEY Abs.None (Abs.Num 0 0) refl refl (omega arith) (omega arith);
    falls = other_falls;
    jumps = other_jumps;
  }

-- ---- bytes

byte_check : (least place : ℕ) (j k : Abs) → place + 1 ≤ least →
    failed_check HELPERS (Load Size.Byte Zero 0 3 (pos place)) (keyed least MAX_KEY j k) ≡ None
byte_check least place j k within =
    let at : 0 + place ≡ place = omega arith in
    let start : int_le (pos 0) (pos place) ≡ true = le-le_z (pos 0) (pos place) (omega (arith, ints)) in
    let end : int_le (pos place +ℤ pos 1) (pos least) ≡ true =
    le-le_z (pos place +ℤ pos 1) (pos least) (omega (arith, ints)) in
    failed_from HELPERS (Load Size.Byte Zero 0 3 (pos place)) (keyed least MAX_KEY j k) (record {
      frame = refl;
      helper = refl;
      unset = refl;
      operands = refl;
      base = refl;
      condition = refl;
      record_write = refl;
      record_bounds = rw (at, start, end) refl;
      stack_bounds = refl;
      stack_unset = refl;
      argument = refl;
      exit = refl;
    })

byte_leads : (least place : ℕ) → place + 1 ≤ least → LeadsTo (Load Size.Byte Zero 0 3 (pos place) ∷ [])
    (keyed least MAX_KEY Abs.None (Abs.Num 0 0)) (keyed least MAX_KEY (Abs.Num 0 255) (Abs.Num 0 0))
unfolding falls_to
byte_leads least place within = record { passed = rw (byte_check least place Abs.None (Abs.Num 0 0) within) refl; is = refl }

read_falls : (least : ℕ) (o : Option Interval) →
    is_edge_covered (with_range (keyed least MAX_KEY (Abs.Num 0 255) (Abs.Num 0 0)) 0 (Abs.Num 0 255) o)
    (Some (keyed least MAX_KEY Abs.None (Abs.Num 0 0))) ≡ true
unfolding each_below
read_falls least None = refl
read_falls least (Some range) =
    keyed_within least MAX_KEY least MAX_KEY (Abs.Num range.low range.high) (Abs.Num 0 0) Abs.None (Abs.Num 0 0) refl
    (omega arith) (omega arith)

read_jumps : (least : ℕ) (o : Option Interval) →
    is_edge_covered (with_range (keyed least MAX_KEY (Abs.Num 0 255) (Abs.Num 0 0)) 0 (Abs.Num 0 255) o) (Some key_decided) ≡ true
unfolding each_below
read_jumps least None = refl
read_jumps least (Some range) =
    keyed_within least MAX_KEY 0 MAX_KEY (Abs.Num range.low range.high) (Abs.Num 0 0) Abs.None bit refl
    (omega arith) (omega arith)

-- ---- texts

match_flow : (text : List ℕ) (place least : ℕ) → place + length text ≤ least → least ≤ MAX_KEY →
    Flow (match_code 3 text place) (keyed least MAX_KEY Abs.None (Abs.Num 0 0)) key_decided
unfolding match_code failed_check falls_to jumps_to each_below
match_flow [] place least within few = record {
  passed = refl;
  within = keyed_within least MAX_KEY 0 MAX_KEY Abs.None (Abs.Num 1 1) Abs.None bit refl (omega arith) (omega arith);
}
match_flow (byte ∷ text) place least within few =
    let mid = keyed least MAX_KEY (Abs.Num 0 255) (Abs.Num 0 0) in
    let proper = keyed_proper least MAX_KEY (Abs.Num 0 255) (Abs.Num 0 0) refl refl (omega arith) (omega arith) in (
      mid,
      proper,
      passing_from (Load Size.Byte Zero 0 3 (pos place) ∷ []) (keyed least MAX_KEY Abs.None (Abs.Num 0 0)) mid mid
          (byte_leads least place (omega arith)) (within_refl mid),
      (
        keyed least MAX_KEY Abs.None (Abs.Num 0 0),
        record {
          checked = refl;
          proper = keyed_proper least MAX_KEY Abs.None (Abs.Num 0 0) refl refl (omega arith) (omega arith);
          falls = read_falls least (narrowed_range Bits64 jumps.NotEqual false (Some (from_to 0 255)) (immediate Bits64 (pos byte)));
          jumps = read_jumps least (narrowed_range Bits64 jumps.NotEqual true (Some (from_to 0 255)) (immediate Bits64 (pos byte)));
        },
        match_flow text (place + 1) least (omega arith) few,
      ),
    )

key_cleared_proper : is_proper key_cleared ≡ true
unfolding is_proper
key_cleared_proper = refl

pub key_decided_proper : is_proper key_decided ≡ true
unfolding is_proper
key_decided_proper = refl

equal_flow : (byte : ℕ) (text : List ℕ) → length text ≤ 255 →
    Flow (match_test_code 3 4 (byte ∷ text) jumps.NotEqual) entry_state key_decided
unfolding match_test_code
equal_flow byte text few = (
  key_cleared,
  key_cleared_proper,
  key_clears,
  (
    keyed (suc (length text)) MAX_KEY Abs.None (Abs.Num 0 0),
    other_skips (suc (length text)) (length (instructions (match_code 3 (byte ∷ text) 0))) (omega arith) (omega arith),
    match_flow (byte ∷ text) 0 (suc (length text)) (omega arith) (omega arith),
  ),
)

begins_flow : (byte : ℕ) (text : List ℕ) → length text ≤ 255 →
    Flow (match_test_code 3 4 (byte ∷ text) jumps.Less) entry_state key_decided
unfolding match_test_code
begins_flow byte text few = (
  key_cleared,
  key_cleared_proper,
  key_clears,
  (
    keyed (suc (length text)) MAX_KEY Abs.None (Abs.Num 0 0),
    less_skips (suc (length text)) (length text) (length (instructions (match_code 3 (byte ∷ text) 0))) refl (omega arith),
    match_flow (byte ∷ text) 0 (suc (length text)) (omega arith) (omega arith),
  ),
)

short_flow : (text : List ℕ) (how : Jumps) → ((byte : ℕ) (rest : List ℕ) → length rest ≤ 255 →
    Flow (match_test_code 3 4 (byte ∷ rest) how) entry_state key_decided) → IsText text → is_short text ≡ true →
    Flow (match_test_code 3 4 text how) entry_state key_decided
short_flow [] how flow is short = absurd cc
short_flow (byte ∷ text) how flow is short = let few = is.few in flow byte text (omega arith)

-- ---- conditions

test_flow : (t : Tests) → FitsTest IsText t → asks_key t ≡ true → Flow (key_test_code t) entry_state key_decided
unfolding key_test_code
test_flow (test.Equal p text) fits asks =
    short_flow text jumps.NotEqual equal_flow fits.1 (and_parts (is_key p) (is_short text) asks).1
test_flow (test.Begins p text) fits asks =
    short_flow text jumps.Less begins_flow fits.1 (and_parts (is_key p) (is_short text) asks).1
test_flow (test.Null p) fits asks = absurd cc
test_flow (test.Absent p) fits asks = absurd cc
test_flow (test.Has p text) fits asks = absurd cc
test_flow (test.Compare t how n) fits asks = absurd cc

single_flow : (c : Formula) → HasFitting IsText c → asks_single c ≡ true → Flow (key_single_code c) entry_state key_decided
unfolding key_single_code
single_flow (Single t) fits asks = test_flow t fits asks
single_flow (Negated inner) fits asks = absurd cc
single_flow (Both one other) fits asks = absurd cc
single_flow (Either one other) fits asks = absurd cc

negated_flow : Passing (change Xor 8 (pos 1) ∷ []) key_decided key_decided
unfolding failed_check falls_to each_below helper_among count_leading_zeros
negated_flow = record {
  passed = refl;
  within = loosely (after (change Xor 8 (pos 1) ∷ []) key_decided) key_decided refl refl refl refl;
}

pub key_condition_flow : (c : Formula) → HasFitting IsText c → asks_alone c ≡ true →
    Flow (key_condition_code c) entry_state key_decided
unfolding key_condition_code
key_condition_flow (Negated inner) fits asks = (key_decided, key_decided_proper, single_flow inner fits asks, negated_flow)
key_condition_flow (Single t) fits asks = single_flow (Single t) fits asks
key_condition_flow (Both one other) fits asks = absurd cc
key_condition_flow (Either one other) fits asks = absurd cc

-- the length and the address of the value are kept from there on
pub first_decided : Passing (copy 7 2 ∷ copy 9 1 ∷ []) key_decided decided
unfolding failed_check falls_to each_below helper_among
first_decided = record { passed = refl; within = loosely _ decided refl refl refl refl }
