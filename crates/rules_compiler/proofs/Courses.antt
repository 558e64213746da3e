-- What holds behind pieces of code, and pieces one after another.
use Rattle.std.proofs.Common.{◌≡◌, ℕ, ◌+◌, ◌-◌, ◌%◌, ◌^◌, ◌≤◌, Bool, true, false}
use Rattle.std.proofs.Common.{List, [], ◌++◌, length, Option, Some}
use Rattle.std.proofs.Common.{None, refl, ap, ◌∙◌, arith}
use Rattle.wire_spec.specs.declared.limits.TheConstants.{MAX_VALUE}
use Rattle.machine_spec.specs.declared.instruction.Instruction.{Instruction}
use Rattle.machine_spec.specs.declared.instruction.{Source.Source}
use Rattle.machine_spec.specs.declared.operation.{Test.Test as Jumps}
use Rattle.machine_spec.specs.declared.operation.Width.TheVariants.{Bits64}
use Rattle.machine_spec.specs.Values.{Number, operand, is_taken}
use Rattle.machine_spec.specs.Machine.{Input, State, state_after, goes_to}
use Rattle.machine_spec.specs.Signatures.{helper_among}
use Rattle.machine_spec.specs.{Parts.length_answer, Parts.part_in}
use Rattle.verifier_spec.specs.StandsFor.{IsInput}
use Rattle.rules.specs.declared.{rule.Part.Part}
use Rattle.rules.specs.Limits.{IsText, FitsPart}
use Rattle.rules_compiler.specs.Code.{Code, Plain, Then, Unless, instructions}
use Rattle.rules_compiler.specs.Pieces.{part_code, measure}
use Rattle.rules_compiler.proofs.Ready.{Ready}
use Rattle.rules_compiler.proofs.Texts.{runs_both}
use Rattle.rules_compiler.proofs.Parts.{found, part_run}
use Rattle.machine_spec.specs.{Parts.part_numbered, Parts.part_bytes as named_bytes}
use Rattle.machine_spec.proofs.PartAnswers.{IsShort, part_short}
use Rattle.std.proofs.Common.{unwrap_or}
use Rattle.rules_compiler.proofs.Walks.{Course, On, then_on, run_list, run}

-- 1 or 0
abbrev pub bit_of : Bool → ℕ
bit_of true = 1
bit_of false = 0

-- ---- pieces one after another

module _ (input : Input) where
  pub then_runs : (first next : Code) (s t : State) (c : Course) → run input first s ≡ On t → run input next t ≡ c →
      run input (Then first next) s ≡ c
  then_runs first next s t c x y = ap (λ (d : Course). then_on d (λ u. run input next u)) x ∙ y

  pub skipped : (how : Jumps) (register : ℕ) (source : Source) (block : Code) (s : State) →
      is_taken Bits64 how (s.registers register) (operand Bits64 s.registers source) ≡ true →
      run input (Unless how register source block) s ≡ On (goes_to s (s.slot + 1 + length (instructions block)))
  skipped how register source block s e = rw e refl

  pub entered : (how : Jumps) (register : ℕ) (source : Source) (block : Code) (s : State) →
      is_taken Bits64 how (s.registers register) (operand Bits64 s.registers source) ≡ false →
      run input (Unless how register source block) s ≡ run input block (goes_to s (s.slot + 1))
  entered how register source block s e = rw e refl

-- ---- what holds behind a piece

-- r8 says whether something holds
pub record Decides (input : Input) (code : Code) (s : State) (b : Bool) : Type 0 where
  pub state : State
  pub runs : run input code s ≡ On state
  pub ready : Ready input state
  pub truth : state.registers 8 ≡ Number (bit_of b)

-- r0 has a number, if there is one, and r8 says whether there is
abbrev pub HasTerm : Option ℕ → State → Type 0
HasTerm (Some n) t = (t.registers 8 ≡ Number 1) × (t.registers 0 ≡ Number n)
HasTerm None t = t.registers 8 ≡ Number 0

pub record Values (input : Input) (code : Code) (s : State) (o : Option ℕ) : Type 0 where
  pub state : State
  pub runs : run input code s ≡ On state
  pub ready : Ready input state
  pub has : HasTerm o state

module _ (input : Input) where
  abbrev pub IsTaken : Jumps → ℕ → Source → State → Bool
  IsTaken how register source s = is_taken Bits64 how (s.registers register) (operand Bits64 s.registers source)

  pub skip_decides : (how : Jumps) (register : ℕ) (source : Source) (block : Code) (s : State) (b : Bool) →
      is_taken Bits64 how (s.registers register) (operand Bits64 s.registers source) ≡ true → Ready input s →
      s.registers 8 ≡ Number (bit_of b) → Decides input (Unless how register source block) s b
  skip_decides how register source block s b taken ready truth = record {
    state = goes_to s (s.slot + 1 + length (instructions block));
    runs = skipped input how register source block s taken;
    ready = assumption ready;
    truth = truth;
  }

  pub enter_decides : (how : Jumps) (register : ℕ) (source : Source) (block : Code) (s : State) (b : Bool) →
      is_taken Bits64 how (s.registers register) (operand Bits64 s.registers source) ≡ false →
      Decides input block (goes_to s (s.slot + 1)) b → Decides input (Unless how register source block) s b
  enter_decides how register source block s b taken d = record {
    state = d.state;
    runs = entered input how register source block s taken ∙ d.runs;
    ready = d.ready;
    truth = d.truth;
  }

  pub list_decides : (list : List Instruction) (s : State) (b : Bool) → Ready input (run_list input list s) →
      (run_list input list s).registers 8 ≡ Number (bit_of b) → Decides input (Plain list) s b
  list_decides list s b ready truth = record { state = run_list input list s; runs = refl; ready = ready; truth = truth }

  pub then_decides : (first next : Code) (s t : State) (b : Bool) → run input first s ≡ On t → Decides input next t b →
      Decides input (Then first next) s b
  then_decides first next s t b runs d = record {
    state = d.state;
    runs = then_runs input first next s t (On d.state) runs d.runs;
    ready = d.ready;
    truth = d.truth;
  }

  pub list_values : (list : List Instruction) (s : State) (o : Option ℕ) → Ready input (run_list input list s) →
      HasTerm o (run_list input list s) → Values input (Plain list) s o
  list_values list s o ready has = record { state = run_list input list s; runs = refl; ready = ready; has = has }

  pub then_values : (first next : Code) (s t : State) (o : Option ℕ) → run input first s ≡ On t → Values input next t o →
      Values input (Then first next) s o
  then_values first next s t o runs v = record {
    state = v.state;
    runs = then_runs input first next s t (On v.state) runs v.runs;
    ready = v.ready;
    has = v.has;
  }

-- ---- lengths

pub record Measures (input : Input) (p : Part) (s : State) : Type 0 where
  pub state : State
  pub runs : run input (Plain (part_code p ++ measure)) s ≡ On state
  pub ready : Ready input state
  pub answer : state.registers 0 ≡ Number (length_answer (found p input.given))
  pub truth : state.registers 8 ≡ Number 0

-- the helper that measures a part is called of the part with a number
pub measured_answer : (input : Input) (t : State) (number : ℕ) → t.registers 6 ≡ Number number →
    (run_list input measure t).registers 0 ≡ Number (length_answer (part_in input.given (part_numbered number)))
unfolding state_after helper_among
measured_answer input t number is = rw is refl

pub measured_ready : (input : Input) (t : State) → Ready input t → Ready input (run_list input measure t)
unfolding state_after helper_among
measured_ready input t ready = assumption ready

pub measured_truth : (input : Input) (t : State) → (run_list input measure t).registers 8 ≡ Number 0
unfolding state_after helper_among
measured_truth input t = refl

pub measures : (input : Input) → IsInput input → (s : State) → Ready input s → (p : Part) → FitsPart IsText p →
    Measures input p s
measures input given s ready p fits =
    let r = part_run input given p fits s ready in
    let t = run_list input (part_code p) s in
    let both = runs_both input (part_code p) measure s in
    record {
      state = run_list input measure t;
      runs = ap On both;
      ready = measured_ready input t r.ready;
      answer = measured_answer input t r.number r.is
          ∙ ap (λ (o : Option (Option (List ℕ))). Number (length_answer o)) r.names;
      truth = measured_truth input t;
    }

-- what is left of a length after 2 is taken away
pub less_two : (n : ℕ) → n ≤ MAX_VALUE → (n + 2 + (2 ^ 64 - 2)) % 2 ^ 64 ≡ n
less_two n few = omega arith

-- a part of an input is no longer than a value may be
pub bytes_few : (input : Input) → IsInput input → (p : Part) (number : ℕ) → part_in input.given (part_numbered number) ≡ found p input.given →
    (bytes : List ℕ) → found p input.given ≡ Some (Some bytes) → length bytes ≤ MAX_VALUE
bytes_few input given p number names bytes e =
    let short : IsShort input.given = record { key = given.limits.key; value = given.limits.value; headers = given.limits.headers } in
    let few = part_short input.given short (part_numbered number) in
    let same : named_bytes input.given (part_numbered number) ≡ bytes =
    ap (λ (o : Option (Option (List ℕ))). unwrap_or (unwrap_or o None) []) (names ∙ e) in
    omega (arith, few, ap length same)

-- the bytes of a part; one that is null or absent has none
abbrev pub bytes_of_found : Option (Option (List ℕ)) → List ℕ
bytes_of_found o = unwrap_or (unwrap_or o None) []
