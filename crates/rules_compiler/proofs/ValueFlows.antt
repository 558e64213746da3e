-- The flow of texts that are read in the value itself.
use Rattle.std.proofs.Common.{◌≡◌, ℕ, suc, ◌+◌, ◌-◌, ◌<◌, ◌≤◌, pos, ◌+ℤ◌, true, false, max, min, int_le}
use Rattle.std.proofs.Common.{List, [], ◌∷◌, length, Option, Some, None, refl, arith}
use Rattle.std.proofs.lemmas.Bool.{le-leb, ne_eqb}
use Rattle.std.proofs.lemmas.{Int.ints}
use Rattle.wire_spec.specs.declared.limits.TheConstants.{MAX_KEY, MAX_VALUE}
use Rattle.machine_spec.specs.declared.{helper.TheConstants.HELPERS, limits.TheConstants.STACK_SIZE, instruction.Region.Region}
use Rattle.machine_spec.specs.declared.{instruction.Size.Size}
use Rattle.machine_spec.specs.declared.instruction.Instruction.TheVariants.{Load, JumpIf}
use Rattle.machine_spec.specs.declared.instruction.Extension.TheVariants.{Zero}
use Rattle.machine_spec.specs.declared.instruction.Source.TheVariants.{Immediate}
use Rattle.machine_spec.specs.declared.operation.Width.TheVariants.{Bits64}
use Rattle.machine_spec.specs.declared.operation.Test.TheVariants as jumps
use Rattle.machine_spec.specs.Values.{immediate, byte_count}
use Rattle.verifier_spec.specs.declared.{state.Abs.Abs, state.Abstract.Abstract, interval.Interval.Interval}
use Rattle.verifier_spec.specs.States.{is_within, is_proper, each_below}
use Rattle.verifier_spec.specs.{StackSets.no_places, Ranges.lengths_from_to, Intervals.from_to, Checks.failed_check}
use Rattle.verifier_spec.specs.Kinds.{kind_at, is_kind_within, is_proper_kind}
use Rattle.verifier_spec.specs.{Annotation.is_edge_covered}
use Rattle.verifier_spec.specs.Transfer.{falls_to, jumps_to, loaded_kind, with_range, narrowed_range}
use Rattle.verifier_spec.proofs.{Safety.failed_from, Whole.le-le_z, StackSets.nothing_set, Proper.range_refl, Joins.within_refl}
use Rattle.verifier_spec.proofs.Order.{within_from, each_below_at, narrower_from}
use Rattle.rules.specs.declared.rule.Layout.TheVariants.{Byte}
use Rattle.rules_compiler.specs.Code.{instructions}
use Rattle.rules_compiler.specs.Pieces.{set}
use Rattle.rules_compiler.specs.Tests.{match_code, match_test_code, value_test_code}
use Rattle.rules_compiler.proofs.Flows.{Flow, Passing, Skips}
use Rattle.rules_compiler.proofs.Ready.{small_immediate}
use Rattle.rules_compiler.proofs.Texts.{LeadsTo}
use Rattle.rules_compiler.proofs.States.{any, bit, known, settled, decided, passing_from}

-- ---- states in which the value's length is known better

-- the value has from `low` to `high` bytes; r0 and r8 are of these kinds
abbrev pub ranged : (low high : ℕ) (answer truth : Abs) → Abstract
ranged low high answer truth = record {
  registers =
      answer ∷ Abs.None ∷ Abs.None ∷ Abs.None ∷ Abs.None ∷ Abs.None ∷ Abs.None ∷ Abs.Len Region.Value ∷ truth
      ∷ Abs.Addr Region.Value (pos 0) (pos 0) ∷ Abs.Addr Region.Stack (pos STACK_SIZE) (pos STACK_SIZE) ∷ [];
  key = lengths_from_to 0 MAX_KEY;
  value = lengths_from_to low high;
  set = no_places;
}

-- one is within another of more lengths, where its kinds are
pub ranged_within : (low high least most : ℕ) (j k l m : Abs) →
    each_below 11 (λ r. is_kind_within (ranged low high j k) (kind_at (ranged low high j k) r) (kind_at (ranged least most l m) r)) ≡ true →
    least ≤ low → high ≤ most → is_within (ranged low high j k) (ranged least most l m) ≡ true
ranged_within low high least most j k l m kinds more fewer =
    within_from (ranged low high j k) (ranged least most l m) (record {
      kinds = each_below_at 11
          (λ r. is_kind_within (ranged low high j k) (kind_at (ranged low high j k) r) (kind_at (ranged least most l m) r)) kinds;
      lengths = narrower_from (ranged low high j k) (ranged least most l m) (range_refl (lengths_from_to 0 MAX_KEY))
          (rw (le-leb least low more, le-leb high most fewer) refl);
      set = λ place low e. absurd (nothing_set place low e);
    })

pub ranged_proper : (low high : ℕ) (j k : Abs) → is_proper_kind j ≡ true → is_proper_kind k ≡ true → low ≤ high →
    high ≤ MAX_VALUE → is_proper (ranged low high j k) ≡ true
unfolding is_proper
ranged_proper low high j k first other order few =
    rw (first, other, le-leb low high order, le-leb high MAX_VALUE few) refl

-- r8 is 0
abbrev pub cleared : Abstract
cleared = known Abs.None (Abs.Num 0 0)

pub clears : Passing (set 8 (pos 0) ∷ []) settled cleared
unfolding failed_check falls_to
clears = record { passed = refl; within = within_refl cleared }

-- ---- jumps by the value's length

-- the kinds of one are within those of another
abbrev pub AreKindsWithin : Abstract → Abstract → Type 0
AreKindsWithin a b = each_below 11 (λ r. is_kind_within a (kind_at a r) (kind_at b r)) ≡ true

-- r0 is of a kind before, r8 is 0, and behind the jump the value has at least n bytes
module _ (n c d : ℕ) (is : n ≡ suc c) (few : n < MAX_VALUE) (a : Abs)
    (kept : AreKindsWithin (ranged n MAX_VALUE a (Abs.Num 0 0)) (ranged n MAX_VALUE Abs.None (Abs.Num 0 0))) where
  same : immediate Bits64 (pos n) ≡ n
  same = small_immediate n (omega arith)

  low_is : max 0 n ≡ n
  low_is = omega arith

  below_is : min MAX_VALUE c ≡ c
  below_is = omega arith

  pub enough_proper : is_proper (ranged n MAX_VALUE Abs.None (Abs.Num 0 0)) ≡ true
  enough_proper = ranged_proper n MAX_VALUE Abs.None (Abs.Num 0 0) refl refl (omega arith) (omega arith)

  less_falls : is_edge_covered (falls_to (JumpIf Bits64 jumps.Less 7 (Immediate (pos n)) (pos d)) (known a (Abs.Num 0 0)))
      (Some (ranged n MAX_VALUE Abs.None (Abs.Num 0 0))) ≡ true
  unfolding falls_to
  less_falls =
      rw (same, low_is, le-leb n MAX_VALUE (omega arith))
      (ranged_within n MAX_VALUE n MAX_VALUE a (Abs.Num 0 0) Abs.None (Abs.Num 0 0) kept (omega arith) (omega arith))

  less_jumps : (j k : Abs) → AreKindsWithin (ranged 0 c a (Abs.Num 0 0)) (ranged 0 MAX_VALUE j k) →
      is_edge_covered (jumps_to (JumpIf Bits64 jumps.Less 7 (Immediate (pos n)) (pos d)) (known a (Abs.Num 0 0))) (Some (known j k)) ≡ true
  unfolding jumps_to
  less_jumps j k kinds =
      rw (same, is, below_is, le-leb 0 c (omega arith))
      (ranged_within 0 c 0 MAX_VALUE a (Abs.Num 0 0) j k kinds (omega arith) (omega arith))

  pub less_skips : (j k : Abs) → AreKindsWithin (ranged 0 c a (Abs.Num 0 0)) (ranged 0 MAX_VALUE j k) →
      Skips (JumpIf Bits64 jumps.Less 7 (Immediate (pos n)) (pos d)) (known a (Abs.Num 0 0))
      (ranged n MAX_VALUE Abs.None (Abs.Num 0 0)) (known j k)
  unfolding failed_check
  less_skips j k kinds =
      record { checked = refl; proper = enough_proper; falls = less_falls; jumps = less_jumps j k kinds }

module _ (n d : ℕ) (some : 1 ≤ n) (few : n < MAX_VALUE) where
  other_falls : is_edge_covered (falls_to (JumpIf Bits64 jumps.NotEqual 7 (Immediate (pos n)) (pos d)) cleared)
      (Some (ranged n MAX_VALUE Abs.None (Abs.Num 0 0))) ≡ true
  unfolding falls_to each_below
  other_falls =
      let imm = small_immediate n (omega arith) in
      let low : max 0 n ≡ n = omega arith in
      let high : min MAX_VALUE n ≡ n = omega arith in
      rw (imm, low, high, le-leb n n (omega arith))
      (ranged_within n n n MAX_VALUE Abs.None (Abs.Num 0 0) Abs.None (Abs.Num 0 0) refl (omega arith) (omega arith))

  other_jumps :
      is_edge_covered (jumps_to (JumpIf Bits64 jumps.NotEqual 7 (Immediate (pos n)) (pos d)) cleared) (Some decided) ≡ true
  unfolding jumps_to each_below
  other_jumps =
      let imm = small_immediate n (omega arith) in
      rw (imm, ne_eqb 0 n (λ e. omega arith), ne_eqb MAX_VALUE n (λ e. omega arith))
      (ranged_within 0 MAX_VALUE 0 MAX_VALUE Abs.None (Abs.Num 0 0) Abs.None bit refl (omega arith) (omega arith))

  pub other_skips :
      Skips (JumpIf Bits64 jumps.NotEqual 7 (Immediate (pos n)) (pos d)) cleared (ranged n MAX_VALUE Abs.None (Abs.Num 0 0)) decided
  unfolding failed_check
  other_skips = record {
    checked = refl;
    proper = ranged_proper n MAX_VALUE Abs.None (Abs.Num 0 0) refl refl (omega arith) (omega arith);
    falls = other_falls;
    jumps = other_jumps;
  }

-- ---- loads

pub load_check : (size : Size) (least place : ℕ) (j k : Abs) → place + byte_count size ≤ least →
    failed_check HELPERS (Load size Zero 0 9 (pos place)) (ranged least MAX_VALUE j k) ≡ None
load_check size least place j k within =
    let at : 0 + place ≡ place = omega arith in
    let start : int_le (pos 0) (pos place) ≡ true = le-le_z (pos 0) (pos place) (omega (arith, ints)) in
    let end : int_le (pos place +ℤ pos (byte_count size)) (pos least) ≡ true =
    le-le_z (pos place +ℤ pos (byte_count size)) (pos least) (omega (arith, ints)) in
    failed_from HELPERS (Load size Zero 0 9 (pos place)) (ranged least MAX_VALUE j k) (record {
      frame = refl;
      helper = refl;
      unset = refl;
      operands = refl;
      base = refl;
      condition = refl;
      record_write = refl;
      record_bounds = rw (at, start, end) refl;
      stack_bounds = refl;
      stack_unset = refl;
      argument = refl;
      exit = refl;
    })

pub load_leads : (size : Size) (least place : ℕ) (j k : Abs) → place + byte_count size ≤ least →
    LeadsTo (Load size Zero 0 9 (pos place) ∷ []) (ranged least MAX_VALUE j k) (ranged least MAX_VALUE (loaded_kind size Zero) k)
unfolding falls_to
load_leads size least place j k within = record { passed = rw (load_check size least place j k within) refl; is = refl }

-- the same of a byte in r1
pub byte_check : (least place : ℕ) → place + 1 ≤ least →
    failed_check HELPERS (Load Size.Byte Zero 1 9 (pos place)) (ranged least MAX_VALUE any (Abs.Num 0 0)) ≡ None
byte_check least place within =
    let at : 0 + place ≡ place = omega arith in
    let start : int_le (pos 0) (pos place) ≡ true = le-le_z (pos 0) (pos place) (omega (arith, ints)) in
    let end : int_le (pos place +ℤ pos 1) (pos least) ≡ true =
    le-le_z (pos place +ℤ pos 1) (pos least) (omega (arith, ints)) in
    failed_from HELPERS (Load Size.Byte Zero 1 9 (pos place)) (ranged least MAX_VALUE any (Abs.Num 0 0)) (record {
      frame = refl;
      helper = refl;
      unset = refl;
      operands = refl;
      base = refl;
      condition = refl;
      record_write = refl;
      record_bounds = rw (at, start, end) refl;
      stack_bounds = refl;
      stack_unset = refl;
      argument = refl;
      exit = refl;
    })

-- ---- texts

-- a jump by r0 leaves what is known of the value
read_falls : (least : ℕ) (o : Option Interval) →
    is_edge_covered (with_range (ranged least MAX_VALUE (Abs.Num 0 255) (Abs.Num 0 0)) 0 (Abs.Num 0 255) o)
    (Some (ranged least MAX_VALUE Abs.None (Abs.Num 0 0))) ≡ true
unfolding each_below
read_falls least None = refl
read_falls least (Some range) =
    ranged_within least MAX_VALUE least MAX_VALUE (Abs.Num range.low range.high) (Abs.Num 0 0) Abs.None (Abs.Num 0 0) refl
    (omega arith) (omega arith)

read_jumps : (least : ℕ) (o : Option Interval) →
    is_edge_covered (with_range (ranged least MAX_VALUE (Abs.Num 0 255) (Abs.Num 0 0)) 0 (Abs.Num 0 255) o) (Some decided) ≡ true
unfolding each_below
read_jumps least None = refl
read_jumps least (Some range) =
    ranged_within least MAX_VALUE 0 MAX_VALUE (Abs.Num range.low range.high) (Abs.Num 0 0) Abs.None bit refl
    (omega arith) (omega arith)

pub match_flow : (text : List ℕ) (place least : ℕ) → place + length text ≤ least → least ≤ MAX_VALUE →
    Flow (match_code 9 text place) (ranged least MAX_VALUE Abs.None (Abs.Num 0 0)) decided
unfolding match_code failed_check falls_to jumps_to each_below
match_flow [] place least within few = record {
  passed = refl;
  within = ranged_within least MAX_VALUE 0 MAX_VALUE Abs.None (Abs.Num 1 1) Abs.None bit refl (omega arith) (omega arith);
}
match_flow (byte ∷ text) place least within few =
    let mid = ranged least MAX_VALUE (Abs.Num 0 255) (Abs.Num 0 0) in
    let proper = ranged_proper least MAX_VALUE (Abs.Num 0 255) (Abs.Num 0 0) refl refl (omega arith) (omega arith) in (
      mid,
      proper,
      passing_from (Load Size.Byte Zero 0 9 (pos place) ∷ []) (ranged least MAX_VALUE Abs.None (Abs.Num 0 0)) mid mid
          (load_leads Size.Byte least place Abs.None (Abs.Num 0 0) (omega arith)) (within_refl mid),
      (
        ranged least MAX_VALUE Abs.None (Abs.Num 0 0),
        record {
          checked = refl;
          proper = ranged_proper least MAX_VALUE Abs.None (Abs.Num 0 0) refl refl (omega arith) (omega arith);
          falls = read_falls least (narrowed_range Bits64 jumps.NotEqual false (Some (from_to 0 255)) (immediate Bits64 (pos byte)));
          jumps = read_jumps least (narrowed_range Bits64 jumps.NotEqual true (Some (from_to 0 255)) (immediate Bits64 (pos byte)));
        },
        match_flow text (place + 1) least (omega arith) few,
      ),
    )

pub cleared_proper : is_proper (known Abs.None (Abs.Num 0 0)) ≡ true
unfolding is_proper
cleared_proper = refl

pub equal_flow : (byte : ℕ) (text : List ℕ) → length text ≤ 255 → Flow (value_test_code (byte ∷ text) jumps.NotEqual) settled decided
unfolding match_test_code
equal_flow byte text few = (
  cleared,
  cleared_proper,
  clears,
  (
    ranged (suc (length text)) MAX_VALUE Abs.None (Abs.Num 0 0),
    other_skips (suc (length text)) (length (instructions (match_code 9 (byte ∷ text) 0))) (omega arith) (omega arith),
    match_flow (byte ∷ text) 0 (suc (length text)) (omega arith) (omega arith),
  ),
)

module _ (n c : ℕ) where
  pub none_kept : AreKindsWithin (ranged n MAX_VALUE Abs.None (Abs.Num 0 0)) (ranged n MAX_VALUE Abs.None (Abs.Num 0 0))
  unfolding each_below
  none_kept = refl

  pub none_decided : AreKindsWithin (ranged 0 c Abs.None (Abs.Num 0 0)) (ranged 0 MAX_VALUE Abs.None bit)
  unfolding each_below
  none_decided = refl

  pub zero_kept : AreKindsWithin (ranged n MAX_VALUE (Abs.Num 0 0) (Abs.Num 0 0)) (ranged n MAX_VALUE Abs.None (Abs.Num 0 0))
  unfolding each_below
  zero_kept = refl

  pub zero_valued : AreKindsWithin (ranged 0 c (Abs.Num 0 0) (Abs.Num 0 0)) (ranged 0 MAX_VALUE any bit)
  unfolding each_below
  zero_valued = refl

pub begins_flow : (byte : ℕ) (text : List ℕ) → length text ≤ 255 → Flow (value_test_code (byte ∷ text) jumps.Less) settled decided
unfolding match_test_code
begins_flow byte text few = (
  cleared,
  cleared_proper,
  clears,
  (
    ranged (suc (length text)) MAX_VALUE Abs.None (Abs.Num 0 0),
    less_skips (suc (length text)) (length text) (length (instructions (match_code 9 (byte ∷ text) 0))) refl (omega arith) Abs.None
        (none_kept (suc (length text)) (length text)) Abs.None bit (none_decided (suc (length text)) (length text)),
    match_flow (byte ∷ text) 0 (suc (length text)) (omega arith) (omega arith),
  ),
)
