-- The abstract states between pieces of code.
use Rattle.std.proofs.Common.{◌≡◌, ℕ, zero, suc, ◌+◌, ◌-◌, ◌^◌, pos, true, List, [], ◌∷◌, ◌++◌}
use Rattle.std.proofs.Common.{None, refl, sym, subst}
use Rattle.std.specs.Prelude.{slice_index_or}
use Rattle.wire_spec.specs.declared.limits.TheConstants.{MAX_KEY, MAX_VALUE}
use Rattle.machine_spec.specs.declared.{helper.TheConstants.HELPERS, limits.TheConstants.STACK_SIZE, instruction.Region.Region}
use Rattle.machine_spec.specs.declared.instruction.Instruction.{Instruction}
use Rattle.machine_spec.specs.declared.instruction.Instruction.TheVariants.{Exit}
use Rattle.verifier_spec.specs.declared.{state.Abs.Abs, state.Abstract.Abstract, state.StackSet.StackSet}
use Rattle.verifier_spec.specs.States.{is_within, is_proper, each_below}
use Rattle.verifier_spec.specs.{StackSets.is_set, StackSets.no_places, Ranges.lengths_from_to}
use Rattle.verifier_spec.specs.{Kinds.kind_at, Kinds.is_kind_within, Checks.failed_check}
use Rattle.machine_spec.specs.Signatures.{helper_among}
use Rattle.verifier_spec.specs.{Transfer.falls_to}
use Rattle.verifier_spec.proofs.Order.{within_from, each_below_at, narrower_from}
use Rattle.verifier_spec.proofs.{Joins.within_refl, StackSets.nothing_set, Proper.range_refl}
use Rattle.rules.specs.declared.{rule.Part.Part}
use Rattle.rules_compiler.specs.Code.{Code, Plain, Ends, Then}
use Rattle.rules_compiler.specs.Pieces.{set, part_code, measure}
use Rattle.rules.specs.Limits.{IsText, FitsPart}
use Rattle.rules_compiler.proofs.Parts.{part_flow}
use Rattle.rules_compiler.proofs.Texts.{LeadsTo, leads_both, shape}
use Rattle.rules_compiler.proofs.Flows.{Flow, Passing, pass, after, after_proper}

-- ---- the states

-- r0 and r8 are of these kinds, r7 and r9 have the length and the address of the value
abbrev pub known : (answer truth : Abs) → Abstract
known answer truth = record {
  registers =
      answer ∷ Abs.None ∷ Abs.None ∷ Abs.None ∷ Abs.None ∷ Abs.None ∷ Abs.None ∷ Abs.Len Region.Value ∷ truth
      ∷ Abs.Addr Region.Value (pos 0) (pos 0) ∷ Abs.Addr Region.Stack (pos STACK_SIZE) (pos STACK_SIZE) ∷ [];
  key = lengths_from_to 0 MAX_KEY;
  value = lengths_from_to 0 MAX_VALUE;
  set = no_places;
}

abbrev pub any : Abs
any = Abs.Num 0 (2 ^ 64 - 1)

abbrev pub bit : Abs
bit = Abs.Num 0 1

-- between rules; behind a condition; behind a term
abbrev pub settled : Abstract
settled = known Abs.None Abs.None

abbrev pub decided : Abstract
decided = known Abs.None bit

abbrev pub valued : Abstract
valued = known any bit

-- a state is within one in which no byte is set, where its kinds are
pub loosely : (a b : Abstract) → each_below 11 (λ r. is_kind_within a (kind_at a r) (kind_at b r)) ≡ true → a.key ≡ b.key →
    a.value ≡ b.value → b.set ≡ no_places → is_within a b ≡ true
loosely a b kinds key value set = within_from a b (record {
  kinds = each_below_at 11 (λ r. is_kind_within a (kind_at a r) (kind_at b r)) kinds;
  lengths = narrower_from a b (rw key (range_refl b.key)) (rw value (range_refl b.value));
  set = λ place low e. absurd (nothing_set place low (subst (λ (s : StackSet). is_set s place ≡ true) set e));
})

-- ---- numbers and lengths

-- what the helper that measures a part answers, and that r8 is 0
abbrev pub measured : Abstract
measured = known (Abs.Num 0 (MAX_VALUE + 2)) (Abs.Num 0 0)

pub passing_from : (list : List Instruction) (a b c : Abstract) → LeadsTo list a b → is_within b c ≡ true → Passing list a c
passing_from list a b c leads within = record {
  passed = leads.passed;
  within = subst (λ (d : Abstract). is_within d c ≡ true) (sym leads.is) within;
}

pub ends_flow : (list : List Instruction) (a b c : Abstract) → LeadsTo list a c → is_proper a ≡ true →
    failed_check HELPERS Exit c ≡ None → Flow (Then (Plain list) Ends) a b
ends_flow list a b c leads proper checked = (
  c,
  subst (λ (d : Abstract). is_proper d ≡ true) leads.is (after_proper list a leads.passed proper),
  passing_from list a c c leads (within_refl c),
  checked,
)

-- a state with the number of a part in r6
abbrev pub numbered : (answer : Abs) (low high : ℕ) (truth : Abs) (places : StackSet) → Abstract
numbered answer low high truth places =
    shape answer Abs.None Abs.None Abs.None Abs.None Abs.None (Abs.Num low high) truth places

pub measure_leads : (answer : Abs) (low high : ℕ) (places : StackSet) →
    LeadsTo measure (numbered answer low high Abs.None places)
    (numbered (Abs.Num 0 (MAX_VALUE + 2)) low high (Abs.Num 0 0) places)
unfolding failed_check falls_to helper_among
measure_leads answer low high places = record { passed = refl; is = refl }

pub length_flow : (p : Part) → FitsPart IsText p → Passing (part_code p ++ measure) settled measured
unfolding each_below
length_flow p fits =
    let f = part_flow p fits in
    passing_from (part_code p ++ measure) settled (numbered (Abs.Num 0 (MAX_VALUE + 2)) f.low f.high (Abs.Num 0 0) f.places)
    measured (leads_both (part_code p) measure settled (numbered f.answer f.low f.high Abs.None f.places)
    (numbered (Abs.Num 0 (MAX_VALUE + 2)) f.low f.high (Abs.Num 0 0) f.places) f.leads
    (measure_leads f.answer f.low f.high f.places))
    (loosely (numbered (Abs.Num 0 (MAX_VALUE + 2)) f.low f.high (Abs.Num 0 0) f.places) measured refl refl refl refl)

-- a straight piece before others
pub straight : (list : List Instruction) (rest : Code) (a c : Abstract) → pass list a ≡ true → is_proper a ≡ true →
    Flow rest (after list a) c → Flow (Then (Plain list) rest) a c
straight list rest a c passed proper f =
    (after list a, after_proper list a passed proper, record { passed = passed; within = within_refl (after list a) }, f)

-- kinds within others, one by one
abbrev pub AreWithin : Abstract → List Abs → List Abs → Type 0
AreWithin a [] [] = Unit {0}
AreWithin a (j ∷ js) (k ∷ ks) = (is_kind_within a j k ≡ true) × AreWithin a js ks
AreWithin a _ _ = ⊥

pub are_within : (a : Abstract) (js ks : List Abs) → AreWithin a js ks → (r : ℕ) →
    is_kind_within a (slice_index_or js r Abs.None) (slice_index_or ks r Abs.None) ≡ true
are_within a [] [] all r = refl
are_within a (j ∷ js) (k ∷ ks) all zero = all.0
are_within a (j ∷ js) (k ∷ ks) all (suc r) = are_within a js ks all.1 r
are_within a [] (k ∷ ks) all r = absurd all
are_within a (j ∷ js) [] all r = absurd all

pub loosely_by : (a b : Abstract) → AreWithin a a.registers b.registers → a.key ≡ b.key → a.value ≡ b.value →
    b.set ≡ no_places → is_within a b ≡ true
loosely_by a b kinds key value set = within_from a b (record {
  kinds = λ r low. are_within a a.registers b.registers kinds r;
  lengths = narrower_from a b (rw key (range_refl b.key)) (rw value (range_refl b.value));
  set = λ place low e. absurd (nothing_set place low (subst (λ (s : StackSet). is_set s place ≡ true) set e));
})

-- the same where as many bytes are set
pub loosely_same : (a b : Abstract) → AreWithin a a.registers b.registers → a.key ≡ b.key → a.value ≡ b.value →
    a.set ≡ b.set → is_within a b ≡ true
loosely_same a b kinds key value set = within_from a b (record {
  kinds = λ r low. are_within a a.registers b.registers kinds r;
  lengths = narrower_from a b (rw key (range_refl b.key)) (rw value (range_refl b.value));
  set = λ place low e. subst (λ (s : StackSet). is_set s place ≡ true) (sym set) e;
})
