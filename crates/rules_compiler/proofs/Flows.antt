-- What abstract states code leads from and to, and the states between its instructions.
use Rattle.std.proofs.Common.{◌≡◌, ℕ, zero, suc, ◌<◌, ◌≤◌, ℤ, pos, negsuc, Bool, true, false, ◌&&◌}
use Rattle.std.proofs.Common.{List, [], ◌∷◌, ◌++◌, length, slice_get, Option, Some, None, is_some, is_none}
use Rattle.std.proofs.Common.{unwrap_or, refl, sym, ap, subst, arith, append_assoc, length-append, IfSome}
use Rattle.std.proofs.lemmas.Bool.{and_parts, not-false}
use Rattle.std.proofs.lemmas.{Option.slice_get_within}
use Rattle.machine_spec.specs.declared.{helper.Helper.Helper, helper.TheConstants.HELPERS, instruction.Source.Source}
use Rattle.machine_spec.specs.declared.{instruction.Instruction.Instruction}
use Rattle.machine_spec.specs.declared.{operation.Test.Test, operation.Width.TheVariants.Bits64}
use Rattle.machine_spec.specs.declared.operation.Width.TheVariants.{Bits32}
use Rattle.machine_spec.specs.declared.instruction.Instruction.TheVariants.{Move, Compute, Load, Unary, Store, JumpIf}
use Rattle.machine_spec.specs.declared.instruction.Instruction.TheVariants.{Jump, Wide, Call, Exit}
use Rattle.machine_spec.specs.{Summaries.summary_of, Machine.helper_of}
use Rattle.verifier_spec.specs.{declared.state.Abstract.Abstract, States.is_within, States.is_proper}
use Rattle.verifier_spec.specs.{Transfer.falls_to, Transfer.jumps_to, Transfer.called_kinds}
use Rattle.verifier_spec.specs.Checks.{failed_check, jump_of, never_falls}
use Rattle.verifier_spec.specs.Annotation.{is_edge_covered}
use Rattle.verifier_spec.specs.Kinds.{kind_at}
use Rattle.verifier_spec.specs.Checks.{source_kind}
use Rattle.verifier_spec.proofs.{Joins.within_refl, Joins.within_trans, Safety.passes, Safety.Passes}
use Rattle.verifier_spec.proofs.{Sums.compute_proper, Sums.move_proper, Sums.change_proper, Memory.loaded_proper}
use Rattle.verifier_spec.proofs.Proper.{with_kind_proper, with_set_proper, kind_at_proper, source_proper, proper_parts}
use Rattle.verifier_spec.proofs.Proper.{proper_from}
use Rattle.verifier_spec.proofs.Sound.{called_length, called_kinds_proper}
use Rattle.machine_spec.proofs.Helpers.{greatest_small}
use Rattle.verifier_spec.specs.{Kinds.is_proper_kind, Transfer.answer_kind, Transfer.after_call_kinds}
use Rattle.verifier_spec.specs.Transfer.{with_argument}
use Rattle.machine_spec.specs.Machine.{signature_of}
use Rattle.std.specs.List.{fold}
use Rattle.rules_compiler.specs.Code.{Code, Plain, Ends, Then, Unless, instructions}

-- ---- straight pieces

-- an instruction leads to the next one alone
abbrev pub leads_on : Instruction → Bool
leads_on (Move _ _ _) = true
leads_on (Compute _ _ _ _) = true
leads_on (Load _ _ _ _ _) = true
leads_on (Unary _ _ _) = true
leads_on (Store _ _ _ _) = true
leads_on (Call number) = is_some (helper_of number)
leads_on _ = false

-- what an instruction makes of an abstract state
abbrev pub next : Instruction → Abstract → Abstract
next i a = unwrap_or (falls_to i a) a

-- each instruction leads on and passes its checks
abbrev pub pass : List Instruction → Abstract → Bool
pass [] a = true
pass (i ∷ list) a =
    (leads_on i && (is_none (failed_check HELPERS i a) && is_some (falls_to i a))) && pass list (next i a)

abbrev pub after : List Instruction → Abstract → Abstract
after [] a = a
after (i ∷ list) a = after list (next i a)

-- ---- flows

-- a jump over a piece: the state at the piece, and the one behind it
pub record Skips (i : Instruction) (a block behind : Abstract) : Type 0 where
  pub checked : failed_check HELPERS i a ≡ None
  pub proper : is_proper block ≡ true
  pub falls : is_edge_covered (falls_to i a) (Some block) ≡ true
  pub jumps : is_edge_covered (jumps_to i a) (Some behind) ≡ true

pub record Passing (list : List Instruction) (a b : Abstract) : Type 0 where
  pub passed : pass list a ≡ true
  pub within : is_within (after list a) b ≡ true

-- code leads from one abstract state to another
abbrev pub Flow : Code → Abstract → Abstract → Type 0
Flow (Plain list) a b = Passing list a b
Flow Ends a b = failed_check HELPERS Exit a ≡ None
Flow (Then first next) a c = (b : Abstract) × (is_proper b ≡ true) × Flow first a b × Flow next b c
Flow (Unless test register source block) a b =
    (u : Abstract) × Skips (JumpIf Bits64 test register source (pos (length (instructions block)))) a u b
    × Flow block u b

-- ---- ranges are kept

pub none_is : {A : Type 0} (o : Option A) → is_none o ≡ true → o ≡ None
none_is None e = refl
none_is (Some x) e = absurd cc

pub some_is : {A : Type 0} (o : Option A) (d : A) → is_some o ≡ true → o ≡ Some (unwrap_or o d)
some_is None d e = absurd cc
some_is (Some x) d e = refl

pub answer_proper : (helper : Helper) → is_proper_kind (answer_kind helper) ≡ true
answer_proper helper = let small = greatest_small helper in grind arith

pub called_proper : (helper : Option Helper) (a : Abstract) → is_proper a ≡ true →
    IfSome (called_kinds helper a) (λ c. is_proper c ≡ true)
called_proper None a p = tt
called_proper (Some helper) a p =
    let parts = proper_parts a p in
    let to : Abstract = record a {
      registers = after_call_kinds a.registers (answer_kind helper);
      set = fold (with_argument a) a.set (signature_of helper).arguments;
    } in
    proper_from to (assumption (
      called_length a.registers (answer_kind helper) parts.eleven,
      called_kinds_proper a.registers (answer_kind helper) parts.eleven parts.kinds (answer_proper helper),
      parts,
    ))

pub falls_proper : (i : Instruction) (a : Abstract) → leads_on i ≡ true → is_proper a ≡ true →
    Passes HELPERS (summary_of i) a → IfSome (falls_to i a) (λ c. is_proper c ≡ true)
unfolding falls_to
falls_proper (Move Bits64 dst source) a on p c = with_kind_proper a dst _ p (source_proper a Bits64 source p)
falls_proper (Move Bits32 dst source) a on p c =
    with_kind_proper a dst _ p (move_proper a p (source_kind a Bits32 source) (source_proper a Bits32 source p) (not-false _ c.operands))
falls_proper (Compute width operation dst source) a on p c =
    with_kind_proper a dst _ p (compute_proper a p width operation (kind_at a dst) (source_kind a width source)
    (kind_at_proper a dst p) (source_proper a width source p) (not-false _ c.operands))
falls_proper (Load size extension dst base offset) a on p c =
    with_kind_proper a dst _ p (loaded_proper size extension)
falls_proper (Unary change dst src) a on p c =
    with_kind_proper a dst _ p (change_proper a p change (kind_at a src) (kind_at_proper a src p) (not-false _ c.operands))
falls_proper (Store size base offset source) a on p c = with_set_proper a _ p
falls_proper (Call number) a on p c = called_proper (helper_of number) a p
falls_proper _ a on p c = absurd cc

-- ---- what an instruction of a code asks

-- a jump leads to one of so many instructions
abbrev pub LeadsTo : Option ℤ → ℕ → Type 0
LeadsTo None count = Unit {0}
LeadsTo (Some (pos distance)) count = distance < count
LeadsTo (Some (negsuc _)) count = ⊥

-- the state of the instruction that a jump leads to, among those behind the jump
abbrev pub state_at : List Abstract → Option ℤ → Option Abstract
state_at states (Some (pos distance)) = slice_get states distance
state_at states _ = None

pub record Holds (i : Instruction) (a : Abstract) (rest : List Abstract) : Type 0 where
  pub checked : failed_check HELPERS i a ≡ None
  pub falls : is_edge_covered (falls_to i a) (slice_get rest 0) ≡ true
  pub jumps : is_edge_covered (jumps_to i a) (state_at rest (jump_of i)) ≡ true
  pub leads : LeadsTo (jump_of i) (length rest)
  pub goes_on : length rest ≡ 0 → never_falls (summary_of i) ≡ true
  pub proper : is_proper a ≡ true

-- each instruction of code with a state before others
abbrev pub Closed : List Instruction → List Abstract → List Abstract → Type 0
Closed [] [] rest = Unit {0}
Closed (i ∷ code) (a ∷ states) rest = Holds i a (states ++ rest) × Closed code states rest
Closed _ _ rest = ⊥

pub closed_both : (c d : List Instruction) (s t rest : List Abstract) → Closed c s (t ++ rest) → Closed d t rest →
    Closed (c ++ d) (s ++ t) rest
closed_both [] d [] t rest x y = y
closed_both (i ∷ c) d (a ∷ s) t rest x y =
    (subst (Holds i a) (sym (append_assoc s t rest)) x.0, closed_both c d s t rest x.1 y)
closed_both [] d (a ∷ s) t rest x y = absurd x
closed_both (i ∷ c) d [] t rest x y = absurd x

-- ---- the states of a flow

abbrev pub walk : List Instruction → Abstract → List Abstract
walk [] a = []
walk (i ∷ list) a = a ∷ walk list (next i a)

abbrev pub states_of : (code : Code) (a b : Abstract) → Flow code a b → List Abstract
states_of (Plain list) a b f = walk list a
states_of Ends a b f = a ∷ []
states_of (Then x y) a c f = states_of x a f.0 f.2 ++ states_of y f.0 c f.3
states_of (Unless test register source block) a b f = a ∷ states_of block f.0 b f.2

-- the first of some states is as wide as another one
pub record Begins (states : List Abstract) (a : Abstract) : Type 0 where
  pub first : Abstract
  pub is : slice_get states 0 ≡ Some first
  pub within : is_within a first ≡ true

pub begins_covered : (edge : Option Abstract) (states : List Abstract) (a : Abstract) → edge ≡ Some a → Begins states a →
    is_edge_covered edge (slice_get states 0) ≡ true
begins_covered edge states a e b = rw (e, b.is) b.within

pub covered_wider : (edge : Option Abstract) (a b : Abstract) → is_edge_covered edge (Some a) ≡ true → is_within a b ≡ true →
    is_edge_covered edge (Some b) ≡ true
covered_wider None a b e w = refl
covered_wider (Some s) a b e w = within_trans s a b e w

pub covered_begins : (edge : Option Abstract) (states : List Abstract) (a : Abstract) → is_edge_covered edge (Some a) ≡ true →
    Begins states a → is_edge_covered edge (slice_get states 0) ≡ true
covered_begins edge states a e b = rw b.is (covered_wider edge a b.first e b.within)

pub begins_some : (states : List Abstract) (a : Abstract) → Begins states a → 1 ≤ length states
begins_some states a b = omega (arith, slice_get_within states 0 b.first b.is)

pub wider_begins : (states : List Abstract) (a b : Abstract) → is_within a b ≡ true → Begins states b → Begins states a
wider_begins states a b w x = record { first = x.first; is = x.is; within = within_trans a b x.first w x.within }

-- what follows a straight piece: the state behind it covers what it leads to
pub walk_begins : (list : List Instruction) (a : Abstract) (rest : List Abstract) → Begins rest (after list a) →
    Begins (walk list a ++ rest) a
walk_begins [] a rest b = b
walk_begins (i ∷ list) a rest b = record { first = a; is = refl; within = within_refl a }

pub no_jump : (i : Instruction) → leads_on i ≡ true → jump_of i ≡ None
no_jump (JumpIf _ _ _ _ _) e = absurd cc
no_jump (Jump _) e = absurd cc
no_jump (Wide _ _) e = refl
no_jump _ e = refl

pub no_edge : (i : Instruction) (a : Abstract) → leads_on i ≡ true → jumps_to i a ≡ None
unfolding jumps_to
no_edge (JumpIf _ _ _ _ _) a e = absurd cc
no_edge (Jump _) a e = absurd cc
no_edge _ a e = refl

pub straight_holds : (i : Instruction) (a c : Abstract) (rest : List Abstract) → leads_on i ≡ true →
    failed_check HELPERS i a ≡ None → falls_to i a ≡ Some c → is_proper a ≡ true → Begins rest c → Holds i a rest
straight_holds i a c rest on checked falls proper begins = record {
  checked = checked;
  falls = begins_covered (falls_to i a) rest c falls begins;
  jumps = rw (no_edge i a on) refl;
  leads = rw (no_jump i on) tt;
  goes_on = λ none. absurd (omega (arith, begins_some rest c begins, none));
  proper = proper;
}

-- what `pass` says of the first instruction
pub record IsPassed (i : Instruction) (a : Abstract) : Type 0 where
  pub on : leads_on i ≡ true
  pub checked : failed_check HELPERS i a ≡ None
  pub falls : falls_to i a ≡ Some (next i a)

pub passed_parts : (i : Instruction) (a : Abstract) (b : Bool) →
    ((leads_on i && (is_none (failed_check HELPERS i a) && is_some (falls_to i a))) && b) ≡ true →
    IsPassed i a × (b ≡ true)
passed_parts i a b e =
    let both = and_parts _ _ e in
    let first = and_parts _ _ both.0 in
    let second = and_parts _ _ first.1 in
    (record { on = first.0; checked = none_is _ second.0; falls = some_is _ a second.1 }, both.1)

pub next_proper : (i : Instruction) (a : Abstract) → IsPassed i a → is_proper a ≡ true → is_proper (next i a) ≡ true
next_proper i a passed p =
    subst (λ (o : Option Abstract). IfSome o (λ c. is_proper c ≡ true)) passed.falls
    (falls_proper i a passed.on p (passes HELPERS i a passed.checked))

pub after_proper : (list : List Instruction) (a : Abstract) → pass list a ≡ true → is_proper a ≡ true →
    is_proper (after list a) ≡ true
after_proper [] a e p = p
after_proper (i ∷ list) a e p =
    let passed = passed_parts i a (pass list (next i a)) e in
    after_proper list (next i a) passed.1 (next_proper i a passed.0 p)

pub walk_closed : (list : List Instruction) (a : Abstract) (rest : List Abstract) → pass list a ≡ true →
    is_proper a ≡ true → Begins rest (after list a) → Closed list (walk list a) rest
walk_closed [] a rest e p b = tt
walk_closed (i ∷ list) a rest e p b =
    let passed = passed_parts i a (pass list (next i a)) e in (
      straight_holds i a (next i a) (walk list (next i a) ++ rest) passed.0.on passed.0.checked passed.0.falls p
          (walk_begins list (next i a) rest b),
      walk_closed list (next i a) rest passed.1 (next_proper i a passed.0 p) b,
    )

-- ---- a flow is closed before whatever covers its end

pub flow_length : (code : Code) (a b : Abstract) (f : Flow code a b) →
    length (states_of code a b f) ≡ length (instructions code)
flow_length (Plain list) a b f = walked list a
  where
    walked : (list : List Instruction) (a : Abstract) → length (walk list a) ≡ length list
    walked [] a = refl
    walked (i ∷ list) a = ap suc (walked list (next i a))
flow_length Ends a b f = refl
flow_length (Then x y) a c f =
    omega (
      arith,
      length-append (states_of x a f.0 f.2) (states_of y f.0 c f.3),
      length-append (instructions x) (instructions y),
      flow_length x a f.0 f.2,
      flow_length y f.0 c f.3,
    )
flow_length (Unless test register source block) a b f = ap suc (flow_length block f.0 b f.2)

pub flow_begins : (code : Code) (a b : Abstract) (f : Flow code a b) (rest : List Abstract) → Begins rest b →
    Begins (states_of code a b f ++ rest) a
flow_begins (Plain list) a b f rest w = walk_begins list a rest (wider_begins rest (after list a) b f.within w)
flow_begins Ends a b f rest w = record { first = a; is = refl; within = within_refl a }
flow_begins (Then x y) a c f rest w =
    rw append_assoc (flow_begins x a f.0 f.2 (states_of y f.0 c f.3 ++ rest) (flow_begins y f.0 c f.3 rest w))
flow_begins (Unless test register source block) a b f rest w =
    record { first = a; is = refl; within = within_refl a }

pub get_behind : (xs ys : List Abstract) (n : ℕ) → length xs ≡ n → slice_get (xs ++ ys) n ≡ slice_get ys 0
get_behind [] ys n e = rw (← e) refl
get_behind (x ∷ xs) ys zero e = absurd (omega arith)
get_behind (x ∷ xs) ys (suc n) e = get_behind xs ys n (omega arith)

pub end_holds : (a : Abstract) (rest : List Abstract) → failed_check HELPERS Exit a ≡ None → is_proper a ≡ true →
    Holds Exit a rest
unfolding falls_to jumps_to
end_holds a rest checked proper =
    record { checked = checked; falls = refl; jumps = refl; leads = tt; goes_on = λ none. refl; proper = proper }

pub skip_holds : (test : Test) (register : ℕ) (source : Source) (n : ℕ) (a u b : Abstract) (states rest : List Abstract) →
    length states ≡ n → Skips (JumpIf Bits64 test register source (pos n)) a u b → is_proper a ≡ true →
    Begins (states ++ rest) u → Begins rest b → Holds (JumpIf Bits64 test register source (pos n)) a (states ++ rest)
skip_holds test register source n a u b states rest long skips proper first last = record {
  checked = skips.checked;
  falls = covered_begins _ (states ++ rest) u skips.falls first;
  jumps = rw (get_behind states rest n long) (covered_begins _ rest b skips.jumps last);
  leads = omega (arith, length-append states rest, begins_some rest b last);
  goes_on = λ none. absurd (omega (arith, length-append states rest, begins_some rest b last, none));
  proper = proper;
}

pub flow_closed : (code : Code) (a b : Abstract) (f : Flow code a b) (rest : List Abstract) → is_proper a ≡ true →
    Begins rest b → Closed (instructions code) (states_of code a b f) rest
flow_closed (Plain list) a b f rest p w =
    walk_closed list a rest f.passed p (wider_begins rest (after list a) b f.within w)
flow_closed Ends a b f rest p w = (end_holds a rest f p, tt)
flow_closed (Then x y) a c f rest p w =
    closed_both (instructions x) (instructions y) (states_of x a f.0 f.2) (states_of y f.0 c f.3) rest
    (flow_closed x a f.0 f.2 (states_of y f.0 c f.3 ++ rest) p (flow_begins y f.0 c f.3 rest w))
    (flow_closed y f.0 c f.3 rest f.1 w)
flow_closed (Unless test register source block) a b f rest p w = (
  skip_holds test register source (length (instructions block)) a f.0 b (states_of block f.0 b f.2) rest
      (flow_length block f.0 b f.2) f.1 p (flow_begins block f.0 b f.2 rest w) w,
  flow_closed block f.0 b f.2 rest f.1.proper w,
)
