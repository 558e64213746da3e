-- A flow of the whole code is an annotation.
use Rattle.std.proofs.Common.{◌≡◌, ℕ, zero, suc, ◌+◌, ◌<◌, ◌≤◌, ℤ, pos, negsuc, Bool, true, false, nat_lt}
use Rattle.std.proofs.Common.{List, [], ◌∷◌, length, map, drop, slice_get, Option, Some, None}
use Rattle.std.proofs.Common.{refl, sym, ap, ◌∙◌, subst, arith}
use Rattle.std.proofs.lemmas.Bool.{and_from, le-ltb}
use Rattle.std.proofs.lemmas.{List.length-map, List.append-nil, Option.same_Some, Option.slice_get_within}
use Rattle.machine_spec.specs.declared.{helper.TheConstants.HELPERS}
use Rattle.machine_spec.specs.declared.{instruction.Instruction.Instruction, instruction.Placed.Placed}
use Rattle.machine_spec.specs.{Summaries.summary_of, Traps.first_of, Image.IsCodeOf}
use Rattle.machine_spec.specs.Image.{target_of, number_at}
use Rattle.machine_spec.proofs.Slots.{number_of_placed}
use Rattle.verifier_spec.specs.{declared.state.Abstract.Abstract, States.is_proper}
use Rattle.verifier_spec.specs.{States.entry_state, Transfer.falls_to, Transfer.jumps_to}
use Rattle.verifier_spec.specs.declared.fault.Check.TheVariants as check
use Rattle.verifier_spec.specs.Checks.{failed_check, jump_of, leads_nowhere, leads_back, runs_off}
use Rattle.verifier_spec.specs.Annotation.{Claims, claim_at, claim_of, is_edge_covered}
use Rattle.verifier_spec.specs.Annotation.{IsAnnotation}
use Rattle.rules_compiler.proofs.Images.{placed_from, placed_at, placed_get, placed_length}
use Rattle.rules_compiler.proofs.Flows.{Begins, Closed, Holds, LeadsTo}
use Rattle.rules_compiler.proofs.Flows.{state_at}

-- ---- whole code

abbrev pub claims_of : List Abstract → Claims
claims_of states = map (λ a. Some a) states

claim_is : (states : List Abstract) (k : ℕ) → claim_at (claims_of states) k ≡ slice_get states k
claim_is [] k = refl
claim_is (a ∷ states) zero = refl
claim_is (a ∷ states) (suc k) = claim_is states k

get_drop : (states : List Abstract) (n k : ℕ) → slice_get (drop n states) k ≡ slice_get states (n + k)
get_drop states zero k = let same : k ≡ 0 + k = omega arith in ap (slice_get states) same
get_drop [] (suc n) k = refl
get_drop (a ∷ states) (suc n) k =
    let same : suc (n + k) ≡ suc n + k = omega arith in get_drop states n k ∙ ap (slice_get (a ∷ states)) same

-- the claim of an instruction and what holds there
pub record IsHeld (states : List Abstract) (i : Instruction) (k : ℕ) : Type 0 where
  pub state : Abstract
  pub is : slice_get states k ≡ Some state
  pub holds : Holds i state (drop (suc k) states)

held : (code : List Instruction) (states : List Abstract) (k : ℕ) (i : Instruction) → Closed code states [] →
    slice_get code k ≡ Some i → IsHeld states i k
held [] states k i c at = absurd cc
held (j ∷ code) [] k i c at = absurd c
held (j ∷ code) (a ∷ states) zero i c at = record {
  state = a;
  is = refl;
  holds = subst (λ (h : Instruction). Holds h a states) (same_Some j i at) (subst (Holds j a) (append-nil states) c.0);
}
held (j ∷ code) (a ∷ states) (suc k) i c at =
    let further = held code states k i c.1 at in
    record { state = further.state; is = further.is; holds = further.holds }

three_pass : {A : Type 0} (a b c : Bool) (x y z : A) → a ≡ false → b ≡ false → c ≡ false →
    first_of ((a, x) ∷ (b, y) ∷ (c, z) ∷ []) ≡ None
three_pass a b c x y z p q r = rw (p, q, r) refl

module _ (code : List Instruction) (states : List Abstract) (image : List ℕ) (long : length states ≡ length code)
    (closed : Closed code states []) (is_code : IsCodeOf image (placed_from 0 code)) where
  placed : List Placed
  placed = placed_from 0 code

  target_is : (slot distance : ℕ) → slot + 1 + distance < length code →
      target_of (placed_from 0 code) slot (Some (pos distance)) ≡ Some (slot + 1 + distance)
  target_is slot distance low =
      let found = placed_get 0 code (slot + 1 + distance) low in
      let at : found.0.slot ≡ slot + 1 + distance = omega (arith, found.2) in
      ap (number_at (placed_from 0 code)) (sym at)
      ∙ number_of_placed image (placed_from 0 code) is_code (slot + 1 + distance) found.0 found.1

  ahead : (k : ℕ) (i : Instruction) → slice_get code k ≡ Some i → (h : IsHeld states i k) →
      length (drop (suc k) states) + (k + 1) ≡ length code
  ahead k i at h = omega (arith, dropped states (suc k), slice_get_within code k i at)
    where
      dropped : (xs : List Abstract) (n : ℕ) → n ≤ length xs → length (drop n xs) + n ≡ length xs
      dropped xs zero low = omega arith
      dropped [] (suc n) low = absurd (omega arith)
      dropped (x ∷ xs) (suc n) low = omega (arith, dropped xs n (omega arith))

  jump_covered : (slot : ℕ) (jump : Option ℤ) (edge : Option Abstract) → LeadsTo jump (length (drop (suc slot) states)) →
      length (drop (suc slot) states) + (slot + 1) ≡ length code →
      is_edge_covered edge (state_at (drop (suc slot) states) jump) ≡ true →
      is_edge_covered edge (claim_of (claims_of states) (target_of (placed_from 0 code) slot jump)) ≡ true
  jump_covered slot None edge leads count e = e
  jump_covered slot (Some (pos distance)) edge leads count e =
      let there = target_is slot distance (omega arith) in
      let number : slot + 1 + distance ≡ suc slot + distance = omega arith in
      rw (there, claim_is states (slot + 1 + distance), number, ← get_drop states (suc slot) distance) e
  jump_covered slot (Some (negsuc n)) edge leads count e = absurd leads

  nowhere : (slot : ℕ) (jump : Option ℤ) → LeadsTo jump (length (drop (suc slot) states)) →
      length (drop (suc slot) states) + (slot + 1) ≡ length code →
      (leads_nowhere (placed_from 0 code) slot jump ≡ false) × (leads_back jump ≡ false)
  nowhere slot None leads count = (refl, refl)
  nowhere slot (Some (pos distance)) leads count =
      let there = target_is slot distance (omega arith) in
      let ahead : nat_lt distance 0 ≡ false = le-ltb distance 0 (omega arith) in
      (rw (ahead, there) refl, rw ahead refl)
  nowhere slot (Some (negsuc n)) leads count = absurd leads

  last_one : (k : ℕ) (i : Instruction) → slice_get code k ≡ Some i → (h : IsHeld states i k) →
      runs_off (placed_from 0 code) k (summary_of i) ≡ false
  last_one k i at h =
      let count = ahead k i at h in
      grind (arith, h.holds.goes_on, placed_length 0 code)

  pub annotation : Begins states entry_state → IsAnnotation HELPERS (placed_from 0 code) (claims_of states)
  annotation begins = record {
    long = length-map states (λ a. Some a) ∙ long ∙ sym (placed_length 0 code);
    start = rw (claim_is states 0, begins.is) begins.within;
    shape = λ k p at.
        let there = placed_at 0 code k p at in
        let slot : p.slot ≡ k = omega (arith, there.1) in
        let h = held code states k p.instruction closed there.0 in
        let count = ahead k p.instruction there.0 h in
        let jumps = nowhere k (jump_of p.instruction) h.holds.leads count in
        three_pass _ _ _ check.JumpTarget check.BackJump check.RunsOff (rw slot jumps.0) jumps.1
        (last_one k p.instruction there.0 h);
    checked = λ k p s at claimed.
        let there = placed_at 0 code k p at in
        let h = held code states k p.instruction closed there.0 in
        let same = same_Some h.state s (sym h.is ∙ sym (claim_is states k) ∙ claimed) in
        subst (λ (a : Abstract). failed_check HELPERS p.instruction a ≡ None) same h.holds.checked;
    closed = λ k p s at claimed.
        let there = placed_at 0 code k p at in
        let slot : p.slot ≡ k = omega (arith, there.1) in
        let h = held code states k p.instruction closed there.0 in
        let count = ahead k p.instruction there.0 h in
        let same = same_Some h.state s (sym h.is ∙ sym (claim_is states k) ∙ claimed) in
        let one : k + 1 ≡ suc k + 0 = omega arith in
        let falls : is_edge_covered (falls_to p.instruction h.state) (claim_at (claims_of states) (k + 1)) ≡ true =
        rw (claim_is states (k + 1), one, ← get_drop states (suc k) 0) h.holds.falls in
        let jumps = jump_covered k (jump_of p.instruction) (jumps_to p.instruction h.state) h.holds.leads count h.holds.jumps in
        rw (slot, ← same) (and_from _ _ falls jumps);
    proper = λ k s claimed. proper_at code states k s closed (sym (claim_is states k) ∙ claimed);
  }
    where
      proper_at : (c : List Instruction) (xs : List Abstract) (k : ℕ) (s : Abstract) → Closed c xs [] →
          slice_get xs k ≡ Some s → is_proper s ≡ true
      proper_at [] [] k s x at = absurd cc
      proper_at [] (a ∷ xs) k s x at = absurd x
      proper_at (j ∷ c) [] k s x at = absurd x
      proper_at (j ∷ c) (a ∷ xs) zero s x at = subst (λ (b : Abstract). is_proper b ≡ true) (same_Some a s at) x.0.proper
      proper_at (j ∷ c) (a ∷ xs) (suc k) s x at = proper_at c xs k s x.1 at
