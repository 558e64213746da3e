-- Each fault of a load is about something: there is a reason wherever a check fails.
use Rattle.std.proofs.Common.{◌≡◌, ℕ, ◌^◌, Bool, true, false, ◌||◌, not, if◌then◌else◌, List, [], ◌∷◌, Option, Some}
use Rattle.std.proofs.Common.{None, refl, ap, ◌∙◌, arith, inl, inr, nat_lt, nat_le, is_some, option_map, find}
use Rattle.std.specs.{List.list_any, Option.option_or}
use Rattle.std.proofs.lemmas.Bool.{cases_Bool, cond-true, cond-false, not-true, Decides.nat_tests}
use Rattle.machine_spec.specs.{declared.instruction.Source.Source, declared.operation.Width.Width}
use Rattle.machine_spec.specs.{declared.operation.Operation.Operation, declared.helper.Argument.Argument}
use Rattle.machine_spec.specs.{declared.summary.Operands.Operands, declared.summary.MemoryOperand.MemoryOperand}
use Rattle.machine_spec.specs.{declared.summary.Condition.Condition, declared.summary.Summary.Summary, Values.immediate}
use Rattle.machine_spec.specs.declared.instruction.Source.TheVariants.{Register, Immediate}
use Rattle.verifier_spec.specs.declared.{interval.Interval.Interval, state.Abs.Abs, state.Abstract.Abstract}
use Rattle.verifier_spec.specs.Kinds.{kind_at, range_of, is_number_kind}
use Rattle.verifier_spec.specs.Checks.{source_kind, can_compute_kinds, has_wrong_kinds, has_wrong_base_kind}
use Rattle.verifier_spec.specs.Checks.{has_wrong_condition_kind, Reach, reach_of, is_wrong_argument_kind}
use Rattle.explain.specs.Reasons.{no_number, no_number_source, wrong_move, wrong_operand, wrong_operands, wrong_base}
use Rattle.explain.specs.Reasons.{wrong_condition, wrong_type, reached_by, reached_bytes, wrong_argument}

-- ---- what is there

pub some_map : {A B : Type 0} (f : A → B) (o : Option A) → is_some o ≡ true → is_some (option_map f o) ≡ true
some_map f None e = e
some_map f (Some x) e = refl

pub some_left : {A : Type 0} (o p : Option A) → is_some o ≡ true → is_some (option_or o p) ≡ true
some_left None p e = cc
some_left (Some x) p e = refl

pub some_right : {A : Type 0} (o p : Option A) → is_some p ≡ true → is_some (option_or o p) ≡ true
some_right None p e = e
some_right (Some x) p e = refl

pub some_then : {A : Type 0} (b : Bool) (x : A) → b ≡ true → is_some (if b then Some x else None) ≡ true
some_then true x e = refl
some_then false x e = cc

-- where a test does not hold of nothing, something is there where it holds
pub some_if : {A : Type 0} (test : Option A → Bool) → test None ≡ false → (o : Option A) → test o ≡ true →
    is_some o ≡ true
some_if test none None e = cc
some_if test none (Some x) e = refl

or_else : (a b : Bool) → (a || b) ≡ true → a ≡ false → b ≡ true
or_else true b e f = cc
or_else false b e f = e

-- an element of which a test holds is found where it holds of one
pub found : {A : Type 0} (p : A → Bool) (xs : List A) → list_any p xs ≡ true → is_some (find p xs) ≡ true
found p [] e = cc
found p (x ∷ xs) e = grind (arith, found p xs)

-- ---- kinds

number_missing : (s : Abstract) (r : ℕ) → not (is_number_kind (kind_at s r)) ≡ true → is_some (no_number s r) ≡ true
number_missing s r e = grind arith

source_missing : (s : Abstract) (width : Width) (source : Source) →
    not (is_number_kind (source_kind s width source)) ≡ true → is_some (no_number_source s source) ≡ true
source_missing s width (Register r) e = number_missing s r e
source_missing s width (Immediate imm) e = cc

no_range : (s : Abstract) (kind : Abs) → range_of s kind ≡ None → not (is_number_kind kind) ≡ true
no_range s (Abs.Num low high) e = cc
no_range s (Abs.Len region) e = cc
no_range s kind e = refl

one_sign : (n : ℕ) → (nat_lt n (2 ^ 63) || nat_le (2 ^ 63) n) ≡ true
one_sign n = grind (arith, nat_tests)

register_moves : (s : Abstract) (operation : Operation) (dst r : ℕ) (range : Option Interval) →
    range_of s (kind_at s r) ≡ range → is_some (wrong_move s operation dst (Register r) range) ≡ true
register_moves s operation dst r None e = number_missing s r (no_range s (kind_at s r) e)
register_moves s operation dst r (Some range) e = grind arith

moves : (s : Abstract) (width : Width) (operation : Operation) (dst : ℕ) (source : Source)
    → is_some (wrong_move s operation dst source (range_of s (source_kind s width source))) ≡ true
moves s width operation dst (Register r) = register_moves s operation dst r (range_of s (kind_at s r)) refl
moves s width operation dst (Immediate imm) = some_then _ _ (one_sign (immediate width imm))

operand_wrong : (s : Abstract) (width : Width) (operation : Operation) (dst : ℕ) (source : Source) (kind : Abs) →
    kind_at s dst ≡ kind → can_compute_kinds s width operation kind (source_kind s width source) ≡ false →
    is_some (wrong_operand s width operation dst source kind) ≡ true
operand_wrong s width operation dst source Abs.None is e =
    number_missing s dst (ap (λ (k : Abs). not (is_number_kind k)) is)
operand_wrong s width operation dst source (Abs.Num low high) is e = source_missing s width source (ap not e)
operand_wrong s width operation dst source (Abs.Len region) is e = source_missing s width source (ap not e)
operand_wrong s width operation dst source (Abs.Addr region low high) is e =
    let moved = moves s width operation dst source in
    let other = number_missing s dst (ap (λ (k : Abs). not (is_number_kind k)) is) in
    grind arith

operands_wrong : (takes : Operands) (s : Abstract) → has_wrong_kinds takes s ≡ true →
    is_some (wrong_operands takes s) ≡ true
operands_wrong Operands.Nothing s e = cc
operands_wrong (Operands.Any source) s e = cc
operands_wrong (Operands.Number width source) s e = source_missing s width source e
operands_wrong (Operands.Computed width operation dst source) s e =
    operand_wrong s width operation dst source (kind_at s dst) refl (not-true _ e)

base_wrong : (memory : Option MemoryOperand) (s : Abstract) → has_wrong_base_kind memory s ≡ true →
    is_some (wrong_base memory s) ≡ true
base_wrong None s e = cc
base_wrong (Some m) s e = grind arith

condition_wrong : (condition : Option Condition) (s : Abstract) → has_wrong_condition_kind condition s ≡ true →
    is_some (wrong_condition condition s) ≡ true
condition_wrong None s e = cc
condition_wrong (Some c) s e =
    let first = number_missing s c.dst in
    let second = source_missing s c.width c.source in
    grind arith

pub takes_wrong : (m : Summary) (s : Abstract) → has_wrong_kinds m.takes s ≡ true → is_some (wrong_type m s) ≡ true
takes_wrong m s e = some_left (wrong_operands m.takes s) _ (operands_wrong m.takes s e)

pub is_based_wrong : (m : Summary) (s : Abstract) → has_wrong_base_kind m.memory s ≡ true →
    is_some (wrong_type m s) ≡ true
is_based_wrong m s e = some_right (wrong_operands m.takes s) _
    (some_left (wrong_base m.memory s) _ (base_wrong m.memory s e))

pub tests_wrong : (m : Summary) (s : Abstract) → has_wrong_condition_kind m.condition s ≡ true →
    is_some (wrong_type m s) ≡ true
tests_wrong m s e = some_right (wrong_operands m.takes s) _
    (some_right (wrong_base m.memory s) _ (condition_wrong m.condition s e))

-- ---- memory

by_some : (m : MemoryOperand) (kind : Abs) (reach : Option Reach) → is_some reach ≡ true →
    is_some (reached_by m kind reach) ≡ true
by_some m kind None e = cc
by_some m kind (Some reach) e = refl

reached_some : (memory : Option MemoryOperand) (s : Abstract) → is_some (reach_of memory s) ≡ true →
    is_some (reached_bytes memory s) ≡ true
reached_some None s e = e
reached_some (Some m) s e = by_some m (kind_at s m.base) (reach_of (Some m) s) e

-- a test of what may be reached that does not hold of nothing
pub reached_if : (test : Option Reach → Bool) → test None ≡ false → (memory : Option MemoryOperand) (s : Abstract) →
    test (reach_of memory s) ≡ true → is_some (reached_bytes memory s) ≡ true
reached_if test none memory s e = reached_some memory s (some_if test none (reach_of memory s) e)

-- ---- calls

-- an argument that has a reason where it is wrong, or one behind it
first_found : (s : Abstract) (here : Argument) (arguments : List Argument) →
    is_some (wrong_argument s (Some here)) ≡ true →
    (list_any (is_wrong_argument_kind s) arguments ≡ true →
    is_some (wrong_argument s (find (is_wrong_argument_kind s) arguments)) ≡ true) →
    list_any (is_wrong_argument_kind s) (here ∷ arguments) ≡ true →
    is_some (wrong_argument s (find (is_wrong_argument_kind s) (here ∷ arguments))) ≡ true
first_found s here arguments reasoned behind e =
    let wrong = is_wrong_argument_kind s here in
    let others = find (is_wrong_argument_kind s) arguments in
    elim (cases_Bool wrong) [
      | inl is ↦ ap (λ (o : Option Argument). is_some (wrong_argument s o)) (cond-true wrong (Some here) others is)
          ∙ reasoned
      | inr other ↦
          ap (λ (o : Option Argument). is_some (wrong_argument s o)) (cond-false wrong (Some here) others other)
          ∙ behind (or_else wrong (list_any (is_wrong_argument_kind s) arguments) e other)
    ]

pub argument_found : (s : Abstract) (arguments : List Argument) → list_any (is_wrong_argument_kind s) arguments ≡ true →
    is_some (wrong_argument s (find (is_wrong_argument_kind s) arguments)) ≡ true
argument_found s [] e = cc
argument_found s (Argument.Nothing ∷ arguments) e = argument_found s arguments e
argument_found s (Argument.Number r ∷ arguments) e = grind (arith, argument_found s arguments)
argument_found s (Argument.Bytes address count ∷ arguments) e =
    first_found s (Argument.Bytes address count) arguments refl (argument_found s arguments) e
argument_found s (Argument.Room address count ∷ arguments) e =
    first_found s (Argument.Room address count) arguments refl (argument_found s arguments) e
