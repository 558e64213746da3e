-- The instruction of a line is one that an image can have: its form is one of the profile's, its registers are r0 to
-- r10 and its numbers lie in their ranges.
use Rattle.std.proofs.Common.{IfSome, ◌≡◌, ℕ, ◌+◌, ◌-◌, ◌^◌, ◌<◌, ◌≤◌, ℤ, pos, negsuc, Bool, true, false, cond, List}
use Rattle.std.proofs.Common.{[], ◌∷◌, IfOk, length, take, Option, Some, None, Result, Ok, Err, refl, arith, drop}
use Rattle.std.proofs.Common.{slice_index, ◌&&◌, ◌==◌}
use Rattle.std.specs.{Str.bytes_eq, List.position_or_len, List.before_first}
use Rattle.std.proofs.lemmas.Bool.{leb-true, and_parts}
use Rattle.machine_spec.specs.declared.{operation.Width.Width, operation.Test.Test, operation.Change.Change}
use Rattle.machine_spec.specs.declared.{instruction.Source.Source, instruction.Distance.Distance}
use Rattle.machine_spec.specs.declared.{instruction.Instruction.Instruction, operation.Change.TheVariants.SignExtend}
use Rattle.machine_spec.specs.declared.instruction.Source.TheVariants.{Register, Immediate}
use Rattle.machine_spec.specs.declared.instruction.Distance.TheVariants.{Short, Long}
use Rattle.machine_spec.specs.declared.instruction.Instruction.TheVariants.{Move, Compute, Load, Unary, Store, JumpIf}
use Rattle.machine_spec.specs.declared.instruction.Instruction.TheVariants.{Jump, Wide, Call, Exit}
use Rattle.bpf_isa.specs.Spelling.{HasRegisters, source_register, spelled_fields, changed_register}
use Rattle.bpf_asm.specs.{declared.fault.LineFault.LineFault, Faults.both, Faults.read_as}
use Rattle.bpf_asm.specs.declared.fault.LineFault.TheVariants as fault
use Rattle.bpf_asm.specs.Numbers.{written_number, distance_of}
use Rattle.bpf_asm.specs.Words.{word_of, forms, form_named}
use Rattle.bpf_asm.specs.Operands.{number_in_range, read_register, read_immediate, read_source, read_place}
use Rattle.bpf_asm.specs.Operands.{read_between, read_wide, read_short, read_long, is_sign}
use Rattle.bpf_asm.specs.Reading.{with_one, with_two, with_three, single, pair, triple, is_empty, read_change}
use Rattle.bpf_asm.specs.Reading.{read_stored, read_distance, read_operands, read_form, read_trimmed, some_read}
use Rattle.bpf_asm.specs.Reading.{read_line, operands_in, rest_of, is_space, after_spaces, before_spaces}
use Rattle.bpf_asm.proofs.NumberTexts.{Fits}
use Rattle.bpf_asm.proofs.Ranges.{is_change, is_form, RangedSource, Ranged, IsSaid, found_passes}

if_held : {A : Type 0} (P : A → Type 0) (b : Bool) (x y : Result A LineFault) → (b ≡ true → IfOk x P) → IfOk y P →
    IfOk (cond b x y) P
if_held P true x y held failed = held refl
if_held P false x y held failed = failed

made : {A B : Type 0} (make : A → B) (P : A → Type 0) (Q : B → Type 0) (r : Result A LineFault) →
    ((a : A) → P a → Q (make a)) → IfOk r P → IfOk (read_as make r) Q
made make P Q (Ok a) then h = then a h
made make P Q (Err _) then h = tt

both_hold : {A B : Type 0} (P : A → Type 0) (Q : B → Type 0) (x : Result A LineFault) (y : Result B LineFault) →
    IfOk x P → IfOk y Q → IfOk (both x y) (λ p. P p.0 × Q p.1)
both_hold P Q (Ok a) (Ok b) p q = (p, q)
both_hold P Q _ (Ok b) p q = tt
both_hold P Q _ _ p q = tt

-- ---- operands

register_small : (text : List ℕ) → IfOk (read_register text) (λ r. r ≤ 10)
register_small text = grind (arith, leb-true)

signed_fits : (m : ℕ) (number : Option ℤ) → IfOk (number_in_range (negsuc m) (pos m) number) (Fits (m + 1))
signed_fits m number = grind (arith, leb-true, and_parts)

immediate_fits : (text : List ℕ) → IfOk (read_immediate text) (Fits (2 ^ 31))
immediate_fits text = signed_fits (2 ^ 31 - 1) (written_number text)

short_fits : (text : List ℕ) → IfOk (read_short text) (Fits (2 ^ 15))
short_fits text = signed_fits (2 ^ 15 - 1) (distance_of text)

wide_small : (text : List ℕ) → IfOk (read_wide text) (λ n. n < 2 ^ 64)
wide_small text = grind (arith, leb-true, and_parts)

-- a source names a register, or its number is in its range
record IsSource (s : Source) : Type 0 where
  register : source_register s ≤ 10
  ranged : RangedSource s

stored_is : (form : Source) (text : List ℕ) → IfOk (read_stored form text) IsSource
stored_is (Register _) text = made Register (λ r. r ≤ 10) IsSource (read_register text)
    (λ _ small. record { register = small; ranged = tt }) (register_small text)
stored_is (Immediate _) text = made Immediate (Fits (2 ^ 31)) IsSource (read_immediate text)
    (λ _ fit. record { register = omega arith; ranged = fit }) (immediate_fits text)

source_is : (text : List ℕ) → IfOk (read_source text) IsSource
source_is text = if_held IsSource (slice_index text 0 == 114) _ _ (λ _. stored_is (Register 0) text)
    (stored_is (Immediate (pos 0)) text)

-- a place names a register and has a distance of 16 bits
abbrev IsPlace : ℕ × ℤ → Type 0
IsPlace p = (p.0 ≤ 10) × Fits (2 ^ 15) p.1

between_is : (text : List ℕ) → IfOk (read_between text) IsPlace
between_is text =
    both_hold (λ r. r ≤ 10) (Fits (2 ^ 15)) _ _ (register_small (take (position_or_len is_sign text) text))
    (short_fits (drop (position_or_len is_sign text) text))

place_is : (text : List ℕ) → IfOk (read_place text) IsPlace
place_is text =
    if_held IsPlace ((slice_index text 0 == 91) && (slice_index text (length text - 1) == 93)) _ (Err fault.Operand)
    (λ _. between_is (drop 1 (take (length text - 1) text))) tt

-- ---- the operands of a form

-- what is said of an instruction, in the order of its parts
is_said : (i : Instruction) → is_form i ≡ true → Ranged i → (spelled_fields i).dst ≤ 10 → (spelled_fields i).src ≤ 10 →
    changed_register i ≤ 10 → IsSaid i
is_said i form ranged dst src changed =
    record {
      registers = record { dst = dst; src = src; changed = changed };
      held = record { form = form; ranged = ranged };
    }

-- an instruction that is made of one operand, and one of two
one_said : {A : Type 0} (read : List ℕ → Result A LineFault) (P : A → Type 0) (make : A → Instruction) →
    ((text : List ℕ) → IfOk (read text) P) → ((a : A) → P a → IsSaid (make a)) → (texts : Option (List ℕ)) →
    IfOk (read_as make (with_one read texts)) IsSaid
one_said read P make all then (Some text) = made make P IsSaid (read text) then (all text)
one_said read P make all then None = tt

two_said : {A B : Type 0} (first : List ℕ → Result A LineFault) (second : List ℕ → Result B LineFault)
    (P : A → Type 0) (Q : B → Type 0) (make : A × B → Instruction) → ((text : List ℕ) → IfOk (first text) P) →
    ((text : List ℕ) → IfOk (second text) Q) → ((p : A × B) → P p.0 × Q p.1 → IsSaid (make p)) →
    (texts : Option (List ℕ × List ℕ)) → IfOk (read_as make (with_two first second texts)) IsSaid
two_said first second P Q make one other then (Some t) =
    made make (λ p. P p.0 × Q p.1) IsSaid (both (first t.0) (second t.1)) then
    (both_hold P Q (first t.0) (second t.1) (one t.0) (other t.1))
two_said first second P Q make one other then None = tt

change_said : (change : Change) (operands : List (List ℕ)) → is_change change ≡ true →
    IfOk (read_change change operands) IsSaid
change_said (SignExtend width part) operands form =
    two_said read_register read_register _ _ (λ p. Unary (SignExtend width part) p.0 p.1) register_small register_small
    (λ _ is. is_said _ form tt is.0 is.1 is.1) (pair operands)
change_said change operands form = one_said read_register _ (λ dst. Unary change dst dst) register_small
    (λ _ small. is_said _ form refl small (omega arith) small) (single operands)

distance_said : (form : Distance) (text : List ℕ) → IfOk (read_distance form text) (λ distance. IsSaid (Jump distance))
distance_said (Short _) text = made Short (Fits (2 ^ 15)) (λ distance. IsSaid (Jump distance)) (read_short text)
    (λ _ fit. is_said _ refl fit (omega arith) (omega arith) (omega arith)) (short_fits text)
distance_said (Long _) text = made Long (Fits (2 ^ 31)) (λ distance. IsSaid (Jump distance)) (read_long text)
    (λ _ fit. is_said _ refl fit (omega arith) (omega arith) (omega arith))
    (signed_fits (2 ^ 31 - 1) (distance_of text))

three_said : (width : Width) (test : Test) (x : Result ℕ LineFault) (y : Result Source LineFault)
    (z : Result ℤ LineFault) → IfOk x (λ r. r ≤ 10) → IfOk y IsSource → IfOk z (Fits (2 ^ 15)) →
    IfOk (read_as (λ p. JumpIf width test p.0.0 p.0.1 p.1) (both (both x y) z)) IsSaid
three_said width test x y z small is fit = grind arith

jump_said : (width : Width) (test : Test) (texts : Option (List ℕ × List ℕ × List ℕ)) →
    IfOk (read_as (λ p. JumpIf width test p.0.0 p.0.1 p.1)
    (with_three read_register read_source read_short texts)) IsSaid
jump_said width test (Some t) = three_said width test _ _ _ (register_small t.0) (source_is t.1) (short_fits t.2)
jump_said width test None = tt

operands_said : (form : Instruction) (operands : List (List ℕ)) → is_form form ≡ true →
    IfOk (read_operands form operands) IsSaid
operands_said (Move width _ _) operands form =
    two_said read_register read_source _ _ (λ p. Move width p.0 p.1) register_small source_is
    (λ _ is. is_said _ refl is.1.ranged is.0 is.1.register (omega arith)) (pair operands)
operands_said (Compute width operation _ _) operands form =
    two_said read_register read_source _ _ (λ p. Compute width operation p.0 p.1) register_small source_is
    (λ _ is. is_said _ refl is.1.ranged is.0 is.1.register (omega arith)) (pair operands)
operands_said (Load size extension _ _ _) operands form =
    two_said read_register read_place _ _ (λ p. Load size extension p.0 p.1.0 p.1.1) register_small place_is
    (λ _ is. is_said _ form is.1.1 is.0 is.1.0 (omega arith)) (pair operands)
operands_said (Unary change _ _) operands form = change_said change operands form
operands_said (Store size _ _ source) operands form =
    two_said read_place (read_stored source) _ _ (λ p. Store size p.0.0 p.0.1 p.1) place_is (stored_is source)
    (λ _ is. is_said _ refl (is.0.1, is.1.ranged) is.0.0 is.1.register (omega arith)) (pair operands)
operands_said (JumpIf width test _ _ _) operands form = jump_said width test (triple operands)
operands_said (Jump distance) operands form =
    one_said (read_distance distance) _ Jump (distance_said distance) (λ _ is. is) (single operands)
operands_said (Wide _ _) operands form =
    two_said read_register read_wide _ _ (λ p. Wide p.0 p.1) register_small wide_small
    (λ _ is. is_said _ refl is.1 is.0 (omega arith) (omega arith)) (pair operands)
operands_said (Call _) operands form = one_said read_immediate _ Call immediate_fits
    (λ _ fit. is_said _ refl fit (omega arith) (omega arith) (omega arith)) (single operands)
operands_said Exit operands form = if_held IsSaid (is_empty operands) (Ok Exit) (Err fault.Operand)
    (λ _. is_said Exit refl tt (omega arith) (omega arith) (omega arith)) tt

-- ---- lines

abbrev SaidIf : Option Instruction → Type 0
SaidIf said = IfSome said IsSaid

-- a word's form is one of the profile's
named_form : (word : List ℕ) (form : Instruction) → form_named word ≡ Some form → is_form form ≡ true
unfolding form_named
named_form word form e = found_passes (λ form. bytes_eq (word_of form) word) is_form forms form refl e

form_said : (word : List ℕ) (form : Option Instruction) (rest : Option (List ℕ)) → form_named word ≡ form →
    IfOk (some_read (read_form form rest)) SaidIf
form_said word (Some form) rest named =
    grind (arith, operands_said form (operands_in rest) (named_form word form named))
form_said word None rest named = tt

trimmed_said : (line : List ℕ) → IfOk (read_trimmed line) SaidIf
trimmed_said [] = tt
trimmed_said (byte ∷ text) =
    let word = before_first is_space (byte ∷ text) in
    if_held SaidIf (byte == 35) (Ok None) _ (λ _. tt)
    (form_said word (form_named word) (rest_of (byte ∷ text)) refl)

pub line_said : (line : List ℕ) (i : Instruction) → read_line line ≡ Ok (Some i) → IsSaid i
unfolding read_line
line_said line i e = rw e at (trimmed_said (before_spaces (after_spaces line)))

pub line_registers : (line : List ℕ) (i : Instruction) → read_line line ≡ Ok (Some i) → HasRegisters i
line_registers line i e = (line_said line i e).registers
