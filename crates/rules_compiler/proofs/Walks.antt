-- What code does, piece by piece, and that the machine does it where the code stands in an image.
use Rattle.std.proofs.Common.{◌≡◌, ℕ, zero, suc, ◌+◌, pos, Bool, true, false, if◌then◌else◌, List, [], ◌∷◌, ◌++◌}
use Rattle.std.proofs.Common.{length, slice_get, Option, Some, None, is_some, refl, ap, ◌∙◌, subst, arith}
use Rattle.std.proofs.Common.{length-append, ◌≢◌}
use Rattle.std.proofs.lemmas.Bool.{and_parts}
use Rattle.machine_spec.specs.declared.{instruction.Instruction.Instruction, instruction.Source.Source}
use Rattle.machine_spec.specs.declared.{operation.Test.Test, operation.Width.TheVariants.Bits64, outcome.Outcome.Outcome}
use Rattle.machine_spec.specs.declared.instruction.Instruction.TheVariants.{Move, Compute, Load, Unary, Store, JumpIf}
use Rattle.machine_spec.specs.declared.instruction.Instruction.TheVariants.{Call, Exit}
use Rattle.machine_spec.specs.declared.helper.{Helper.Helper}
use Rattle.machine_spec.specs.{Image.Program, Image.form_at, Values.operand, Values.is_taken, Machine.helper_of}
use Rattle.machine_spec.specs.Machine.{Input, State, state_after, state_after_call, goes_to}
use Rattle.machine_spec.specs.Meaning.{Reaches, Means, outcome_of}
use Rattle.verifier_spec.specs.{declared.state.Abstract.Abstract}
use Rattle.rules_compiler.specs.Code.{Code, Plain, Ends, Then, Unless, instructions}
use Rattle.rules_compiler.proofs.Flows.{leads_on, pass, Flow, next}

-- ---- what code does

-- code leads to a state behind it, or ends the run
pub data Course : Type 0 where
  On : State → Course
  Over : Outcome → Course

abbrev pub then_on : Course → (State → Course) → Course
then_on (On s) go = go s
then_on (Over o) go = Over o

abbrev pub run_list : Input → List Instruction → State → State
run_list input [] s = s
run_list input (i ∷ list) s = run_list input list (state_after i input s)

abbrev pub run : Input → Code → State → Course
run input (Plain list) s = On (run_list input list s)
run input Ends s = Over (outcome_of (s.registers 0) s.emitted.emissions)
run input (Then first next) s = then_on (run input first s) (λ t. run input next t)
run input (Unless test register source block) s =
    if is_taken Bits64 test (s.registers register) (operand Bits64 s.registers source)
    then On (goes_to s (s.slot + 1 + length (instructions block))) else run input block (goes_to s (s.slot + 1))

-- ---- straight pieces lead on

abbrev pub all_lead : List Instruction → Type 0
all_lead [] = Unit {0}
all_lead (i ∷ list) = (leads_on i ≡ true) × all_lead list

abbrev pub Leads : Code → Type 0
Leads (Plain list) = all_lead list
Leads Ends = Unit {0}
Leads (Then first next) = Leads first × Leads next
Leads (Unless test register source block) = Leads block

list_leads : (list : List Instruction) (a : Abstract) → pass list a ≡ true → all_lead list
list_leads [] a e = tt
list_leads (i ∷ list) a e =
    let both = and_parts _ _ e in
    ((and_parts _ _ both.0).0, list_leads list (next i a) both.1)

pub flow_leads : (code : Code) (a b : Abstract) → Flow code a b → Leads code
flow_leads (Plain list) a b f = list_leads list a f.passed
flow_leads Ends a b f = tt
flow_leads (Then x y) a c f = (flow_leads x a f.0 f.2, flow_leads y f.0 c f.3)
flow_leads (Unless test register source block) a b f = flow_leads block f.0 b f.2

call_slot : (helper : Option Helper) (input : Input) (s : State) → is_some helper ≡ true →
    (state_after_call helper input s).slot ≡ s.slot + 1
call_slot (Some helper) input s e = refl
call_slot None input s e = absurd cc

-- the next slot is the one behind
next_slot : (i : Instruction) (input : Input) (s : State) → leads_on i ≡ true → (state_after i input s).slot ≡ s.slot + 1
unfolding state_after
next_slot (Move _ _ _) input s e = refl
next_slot (Compute _ _ _ _) input s e = refl
next_slot (Load _ _ _ _ _) input s e = refl
next_slot (Unary _ _ _) input s e = refl
next_slot (Store _ _ _ _) input s e = refl
next_slot (Call number) input s e = call_slot (helper_of number) input s e
next_slot _ input s e = absurd cc

no_end : (i : Instruction) → leads_on i ≡ true → i ≢ Exit
no_end Exit e same = absurd cc
no_end i e same = cc

jump_state : (test : Test) (register : ℕ) (source : Source) (distance : ℕ) (input : Input) (s : State) →
    state_after (JumpIf Bits64 test register source (pos distance)) input s
    ≡ goes_to s (if is_taken Bits64 test (s.registers register) (operand Bits64 s.registers source)
    then s.slot + 1 + distance else s.slot + 1)
unfolding state_after
jump_state test register source distance input s = refl

get_left : (xs ys : List Instruction) (k : ℕ) (i : Instruction) → slice_get xs k ≡ Some i →
    slice_get (xs ++ ys) k ≡ Some i
get_left [] ys k i e = absurd cc
get_left (x ∷ xs) ys zero i e = e
get_left (x ∷ xs) ys (suc k) i e = get_left xs ys k i e

get_right : (xs ys : List Instruction) (k n : ℕ) → n ≡ length xs + k → slice_get (xs ++ ys) n ≡ slice_get ys k
get_right [] ys k n e = ap (slice_get ys) (e ∙ omega arith)
get_right (x ∷ xs) ys k zero e = absurd (omega arith)
get_right (x ∷ xs) ys k (suc n) e = get_right xs ys k n (omega arith)

-- ---- the machine

module _ (program : Program) (input : Input)
    (steps : (n : ℕ) (s : State) (i : Instruction) → Reaches program input n s → form_at program.image s.slot ≡ Some i →
    i ≢ Exit → Reaches program input (n + 1) (state_after i input s))
    (stops : (n : ℕ) (s : State) → Reaches program input n s → form_at program.image s.slot ≡ Some Exit →
    Means program input (outcome_of (s.registers 0) s.emitted.emissions) (n + 1)) where
  -- instructions stand from a slot on
  abbrev pub Stand : ℕ → List Instruction → Type 0
  Stand slot list = (k : ℕ) (i : Instruction) → slice_get list k ≡ Some i → form_at program.image (slot + k) ≡ Some i

  stand_first : (slot : ℕ) (i : Instruction) (list : List Instruction) → Stand slot (i ∷ list) →
      form_at program.image slot ≡ Some i
  stand_first slot i list stand =
      subst (λ (at : ℕ). form_at program.image at ≡ Some i) (omega arith) (stand 0 i refl)

  stand_rest : (slot at : ℕ) (i : Instruction) (list : List Instruction) → Stand slot (i ∷ list) → at ≡ slot + 1 →
      Stand at list
  stand_rest slot at i list stand is k j e =
      subst (λ (t : ℕ). form_at program.image t ≡ Some j) (omega arith) (stand (suc k) j e)

  stand_left : (slot : ℕ) (xs ys : List Instruction) → Stand slot (xs ++ ys) → Stand slot xs
  stand_left slot xs ys stand k i e = stand k i (get_left xs ys k i e)

  stand_right : (slot at : ℕ) (xs ys : List Instruction) → Stand slot (xs ++ ys) → at ≡ slot + length xs → Stand at ys
  stand_right slot at xs ys stand is k i e =
      subst (λ (t : ℕ). form_at program.image t ≡ Some i) (omega arith)
      (stand (length xs + k) i (get_right xs ys k (length xs + k) refl ∙ e))

  -- the run comes where code leads, or ends as it does
  abbrev pub Comes : ℕ → Course → Type 0
  Comes slot (On t) = (m : ℕ) × Reaches program input m t × (t.slot ≡ slot)
  Comes slot (Over o) = (m : ℕ) × Means program input o m

  comes_at : (at slot : ℕ) (c : Course) → at ≡ slot → Comes at c → Comes slot c
  comes_at at slot c e h = subst (λ (t : ℕ). Comes t c) e h

  list_comes : (list : List Instruction) (n : ℕ) (s : State) → all_lead list → Reaches program input n s →
      Stand s.slot list → Comes (s.slot + length list) (On (run_list input list s))
  list_comes [] n s lead chain stand = (n, chain, omega arith)
  list_comes (i ∷ list) n s lead chain stand =
      let slot = next_slot i input s lead.0 in
      comes_at ((state_after i input s).slot + length list) (s.slot + suc (length list))
      (On (run_list input list (state_after i input s))) (omega (arith, slot))
      (list_comes list (n + 1) (state_after i input s) lead.1
      (steps n s i chain (stand_first s.slot i list stand) (no_end i lead.0))
      (stand_rest s.slot (state_after i input s).slot i list stand slot))

  then_comes : (slot length : ℕ) (c : Course) (go : State → Course) → Comes slot c →
      ((t : State) (m : ℕ) → Reaches program input m t → t.slot ≡ slot → Comes (slot + length) (go t)) →
      Comes (slot + length) (then_on c go)
  then_comes slot length (On t) go h next = next t h.0 h.1 h.2
  then_comes slot length (Over o) go h next = h

  pub comes : (code : Code) (n : ℕ) (s : State) → Leads code → Reaches program input n s →
      Stand s.slot (instructions code) → Comes (s.slot + length (instructions code)) (run input code s)
  comes (Plain list) n s lead chain stand = list_comes list n s lead chain stand
  comes Ends n s lead chain stand = (n + 1, stops n s chain (stand_first s.slot Exit [] stand))
  comes (Then x y) n s lead chain stand =
      let size : s.slot + length (instructions x) + length (instructions y) ≡ s.slot + length (instructions x ++ instructions y) =
      omega (arith, length-append (instructions x) (instructions y)) in
      comes_at (s.slot + length (instructions x) + length (instructions y)) (s.slot + length (instructions x ++ instructions y))
      (then_on (run input x s) (λ t. run input y t)) size
      (then_comes (s.slot + length (instructions x)) (length (instructions y)) (run input x s) (λ t. run input y t)
      (comes x n s lead.0 chain (stand_left s.slot (instructions x) (instructions y) stand))
      (λ t m reached at. comes_at (t.slot + length (instructions y)) (s.slot + length (instructions x) + length (instructions y))
      (run input y t) (omega arith) (comes y m t lead.1 reached
      (stand_right s.slot t.slot (instructions x) (instructions y) stand at))))
  comes (Unless test register source block) n s lead chain stand =
      let list = instructions block in
      let jump : Instruction = JumpIf Bits64 test register source (pos (length list)) in
      from (is_taken Bits64 test (s.registers register) (operand Bits64 s.registers source))
      (λ reached. comes block (n + 1) (goes_to s (s.slot + 1)) lead reached
      (stand_rest s.slot (s.slot + 1) jump list stand refl))
      (subst (λ (t : State). Reaches program input (n + 1) t) (jump_state test register source (length list) input s)
      (steps n s jump chain (stand_first s.slot jump list stand) (λ same. cc)))
    where
      from : (b : Bool) → (Reaches program input (n + 1) (goes_to s (s.slot + 1)) →
          Comes (s.slot + 1 + length (instructions block)) (run input block (goes_to s (s.slot + 1)))) →
          Reaches program input (n + 1)
          (goes_to s (if b then s.slot + 1 + length (instructions block) else s.slot + 1)) →
          Comes (s.slot + suc (length (instructions block))) (if b then
          On (goes_to s (s.slot + 1 + length (instructions block))) else run input block (goes_to s (s.slot + 1)))
      from true go reached = (n + 1, reached, omega arith)
      from false go reached =
          comes_at (s.slot + 1 + length (instructions block)) (s.slot + suc (length (instructions block)))
          (run input block (goes_to s (s.slot + 1))) (omega arith) (go reached)
