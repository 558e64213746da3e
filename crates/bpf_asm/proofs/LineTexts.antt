-- The line of an instruction reads as that instruction.
use Rattle.std.proofs.Common.{◌≡◌, ℕ, ◌-◌, ◌^◌, ◌≤◌, Bool, true, ◌==◌, not, cond, List, [], ◌∷◌, ◌++◌, length, map}
use Rattle.std.proofs.Common.{take, get_or, Option, Some, None, Ok, refl, ap, ◌∙◌, arith, ltb}
use Rattle.std.specs.List.{position_or_len, slice_split, onto_first, before_first}
use Rattle.std.proofs.{Math.Seq.take-append_seam, Math.Seq.drop-append-add, lemmas.List.Folds.list_all-append}
use Rattle.std.proofs.lemmas.Bool.{and_parts, not-true, lt-ltb, le-ltb}
use Rattle.std.proofs.lemmas.List.{append_assoc, length-append, append-nil, take_all}
use Rattle.machine_spec.specs.declared.{operation.Change.Change, instruction.Distance.Distance}
use Rattle.machine_spec.specs.declared.{instruction.Source.Source, instruction.Instruction.Instruction}
use Rattle.machine_spec.specs.declared.instruction.Distance.TheVariants.{Short, Long}
use Rattle.machine_spec.specs.declared.instruction.Source.TheVariants.{Register, Immediate}
use Rattle.machine_spec.specs.declared.instruction.Instruction.TheVariants.{Unary, Store, Jump}
use Rattle.bpf_isa.specs.Spelling.{HasRegisters, source_register}
use Rattle.bpf_asm.specs.{Operands.read_source, Operands.source_text, Words.word_of, Words.form_named}
use Rattle.bpf_asm.specs.Reading.{is_space, is_comma, is_line_feed, after_spaces, before_spaces, rest_of, read_change}
use Rattle.bpf_asm.specs.Reading.{read_stored, read_distance, read_operands, read_form, some_read, read_trimmed}
use Rattle.bpf_asm.specs.Reading.{read_line}
use Rattle.bpf_asm.specs.Writing.{change_operands, jump_text, operands_of, joined_by_commas, operands_text, line_of}
use Rattle.bpf_asm.proofs.Scanning.{before_other, last_of, all_at}
use Rattle.bpf_asm.proofs.Ranges.{RangedSource, RangedChange, RangedDistance, IsHeld}
use Rattle.bpf_asm.proofs.PlainTexts.{fails, first_at, first_none, implied, is_plain, are_plain, IsOperand}
use Rattle.bpf_asm.proofs.PlainTexts.{natural_operand, register_operand, number_operand, distance_operand}
use Rattle.bpf_asm.proofs.PlainTexts.{place_operand}
use Rattle.bpf_asm.proofs.OperandTexts.{register_again, immediate_again, short_again, long_again, wide_again}
use Rattle.bpf_asm.proofs.OperandTexts.{register_source, immediate_source, place_again}
use Rattle.bpf_asm.proofs.NamedForms.{is_word, Named, form_of, distance_form, stored_form, word_named}

-- ---- what a plain byte is not

plain_parts : (b : ℕ) → is_plain b ≡ true → (not (b == 32) ≡ true) × (not (b == 44) ≡ true) × (not (b == 10) ≡ true)
plain_parts b e = grind (arith, and_parts)

not_space : (text : List ℕ) → are_plain text ≡ true → fails is_space text ≡ true
not_space = implied is_plain (λ b. not (is_space b)) (λ b e. (plain_parts b e).0)

not_comma : (text : List ℕ) → are_plain text ≡ true → fails is_comma text ≡ true
not_comma = implied is_plain (λ b. not (is_comma b)) (λ b e. (plain_parts b e).1)

not_feed : (text : List ℕ) → are_plain text ≡ true → fails is_line_feed text ≡ true
not_feed = implied is_plain (λ b. not (is_line_feed b)) (λ b e. (plain_parts b e).2)

-- ---- pieces

pub split_at : (p : ℕ → Bool) (xs : List ℕ) (y : ℕ) (ys : List ℕ) → fails p xs ≡ true → p y ≡ true →
    slice_split p (xs ++ y ∷ ys) ≡ xs ∷ slice_split p ys
split_at p [] y ys e is = rw is
split_at p (x ∷ xs) y ys e is = grind (arith, and_parts, not-true, split_at p xs y ys)

split_none : (p : ℕ → Bool) (xs : List ℕ) → fails p xs ≡ true → slice_split p xs ≡ xs ∷ []
split_none p [] e = refl
split_none p (x ∷ xs) e = grind (arith, and_parts, not-true, split_none p xs)

-- ---- spaces

pub no_spaces : (text : List ℕ) → are_plain text ≡ true → after_spaces text ≡ text
no_spaces [] e = refl
no_spaces (b ∷ text) e = grind (arith, and_parts, plain_parts, not-true)

-- no space ends a text that ends in an operand
pub ends : (front text : List ℕ) → IsOperand text → before_spaces (front ++ text) ≡ front ++ text
ends front text is =
    let some = is.some in
    let init = take (length text - 1) text in
    let b = get_or text (length text - 1) 0 in
    let last = rw (take_all (length text) text (omega arith)) at (last_of text (length text) some (omega arith)) in
    let split : front ++ text ≡ (front ++ init) ++ b ∷ [] = rw (append_assoc front init, ← last) in
    let other = not-true (is_space b) (plain_parts b (all_at is_plain text _ is.plain (omega arith))).0 in
    rw split (before_other (front ++ init) b other)

-- ---- operands

abbrev pub AreOperands : List (List ℕ) → Type 0
AreOperands [] = Unit {0}
AreOperands (text ∷ texts) = IsOperand text × AreOperands texts

onto_space : (parts : List (List ℕ)) (text : List ℕ) (texts : List (List ℕ)) → map after_spaces parts ≡ text ∷ texts →
    map after_spaces (onto_first 32 parts) ≡ text ∷ texts
onto_space [] text texts e = absurd cc
onto_space (part ∷ parts) text texts e = e

pub joined_again : (text : List ℕ) (texts : List (List ℕ)) → AreOperands (text ∷ texts) →
    map after_spaces (slice_split is_comma (joined_by_commas (text ∷ texts))) ≡ text ∷ texts
joined_again text [] are =
    rw (split_none is_comma text (not_comma text are.0.plain), no_spaces text are.0.plain)
joined_again text (next ∷ texts) are =
    let rest = joined_by_commas (next ∷ texts) in
    rw (split_at is_comma text 44 (32 ∷ rest) (not_comma text are.0.plain) refl, no_spaces text are.0.plain)
    (ap (λ ts. text ∷ ts) (onto_space (slice_split is_comma rest) next texts (joined_again next texts are.1)))

-- the last operand of some, and what is before it
joined_ends : (front text : List ℕ) (texts : List (List ℕ)) → AreOperands (text ∷ texts) →
    before_spaces (front ++ joined_by_commas (text ∷ texts)) ≡ front ++ joined_by_commas (text ∷ texts)
joined_ends front text [] are = ends front text are.0
joined_ends front text (next ∷ texts) are =
    let rest = joined_by_commas (next ∷ texts) in
    let same : front ++ (text ++ (44 ∷ 32 ∷ rest)) ≡ (front ++ (text ++ (44 ∷ 32 ∷ []))) ++ rest = simp append_assoc in
    rw same (joined_ends (front ++ (text ++ (44 ∷ 32 ∷ []))) next texts are.1)

feeds_joined : (text : List ℕ) (texts : List (List ℕ)) → AreOperands (text ∷ texts) →
    fails is_line_feed (joined_by_commas (text ∷ texts)) ≡ true
feeds_joined text [] are = not_feed text are.0.plain
feeds_joined text (next ∷ texts) are =
    rw (list_all-append _ text (44 ∷ 32 ∷ joined_by_commas (next ∷ texts)), not_feed text are.0.plain)
    (feeds_joined next texts are.1)

-- ---- lines

word_is : (word : List ℕ) → is_word word ≡ true → IsOperand word
word_is word e = grind (arith, and_parts)

pub no_feeds : (word : List ℕ) (texts : List (List ℕ)) → is_word word ≡ true → AreOperands texts →
    fails is_line_feed (word ++ operands_text texts) ≡ true
no_feeds word [] is are = rw (append-nil word) (not_feed word (word_is word is).plain)
no_feeds word (text ∷ texts) is are =
    rw (list_all-append _ word (32 ∷ joined_by_commas (text ∷ texts)), not_feed word (word_is word is).plain)
    (feeds_joined text texts are)

-- a line that begins with a word has no space before it and is no comment
begins : (word rest : List ℕ) (form : Option Instruction)
    (named : form_named (before_first is_space (word ++ rest)) ≡ form) → is_word word ≡ true →
    before_spaces (word ++ rest) ≡ word ++ rest →
    read_line (word ++ rest) ≡ some_read (read_form form (rest_of (word ++ rest)))
unfolding read_line
begins [] rest form named is trimmed = absurd cc
begins (b ∷ word) rest form named is trimmed =
    let parts = and_parts (are_plain (b ∷ word)) (not (b == 35)) is in
    let plain = and_parts (is_plain b) (are_plain word) parts.0 in
    let first = not-true (is_space b) (plain_parts b plain.0).0 in
    ap (λ s. read_trimmed (before_spaces (cond s (after_spaces (word ++ rest)) (b ∷ (word ++ rest))))) first
    ∙ ap read_trimmed trimmed ∙ rw (not-true (b == 35) parts.1, named)

line_read : (word : List ℕ) (texts : List (List ℕ)) (form i : Instruction) → Named word form → AreOperands texts →
    read_operands form texts ≡ Ok i → read_line (word ++ operands_text texts) ≡ Ok (Some i)
line_read word [] form i named are reads =
    let operand = word_is word named.1 in
    let whole = append-nil word in
    let all : position_or_len is_space word ≡ length word = first_none is_space word (not_space word operand.plain) in
    let first : before_first is_space (word ++ []) ≡ word =
    rw whole (take_all (position_or_len is_space word) word (omega arith)) in
    let rest : rest_of (word ++ []) ≡ None =
    rw (whole, le-ltb (position_or_len is_space word) (length word) (omega arith)) in
    let trimmed = ends [] word operand in
    begins word [] (Some form) (rw first named.0) named.1 (rw whole trimmed) ∙ rw (rest, reads)
line_read word (text ∷ texts) form i named are reads =
    let operands = joined_by_commas (text ∷ texts) in
    let whole = word ++ 32 ∷ operands in
    let place : position_or_len is_space whole ≡ length word =
    first_at is_space word 32 operands (not_space word (word_is word named.1).plain) refl in
    let first : before_first is_space whole ≡ word = rw place (take-append_seam word (32 ∷ operands)) in
    let there : ltb (length word) (length whole) ≡ true =
    lt-ltb _ _ (omega (arith, length-append word (32 ∷ operands))) in
    let rest : rest_of whole ≡ Some operands = rw (place, there) (ap Some (drop-append-add word (32 ∷ operands) 1)) in
    let front : whole ≡ (word ++ 32 ∷ []) ++ operands = simp append_assoc in
    let trimmed : before_spaces whole ≡ whole = rw front (joined_ends (word ++ 32 ∷ []) text texts are) in
    begins word (32 ∷ operands) (Some form) (rw first named.0) named.1 trimmed
    ∙ rw (rest, joined_again text texts are, reads)

-- ---- the operands of an instruction

source_again : (source : Source) → source_register source ≤ 10 → RangedSource source →
    read_source (source_text source) ≡ Ok source
source_again source small ranged = grind (arith, register_source, immediate_source)

source_operand : (source : Source) → source_register source ≤ 10 → RangedSource source → IsOperand (source_text source)
source_operand (Register r) small ranged = register_operand r small
source_operand (Immediate imm) small ranged = number_operand imm ranged

stored_again : (source : Source) → source_register source ≤ 10 → RangedSource source →
    read_stored (stored_form source) (source_text source) ≡ Ok source
stored_again (Register r) small ranged = rw (register_again r small)
stored_again (Immediate imm) small ranged = rw (immediate_again imm ranged)

distance_again : (distance : Distance) → RangedDistance distance →
    read_distance (distance_form distance) (jump_text distance) ≡ Ok distance
distance_again (Short slots) ranged = rw (short_again slots ranged)
distance_again (Long slots) ranged = rw (long_again slots ranged)

jump_operand : (distance : Distance) → RangedDistance distance → IsOperand (jump_text distance)
jump_operand distance ranged = grind (arith, distance_operand (2 ^ 15), distance_operand (2 ^ 31))

change_again : (change : Change) (dst src : ℕ) → dst ≤ 10 → src ≤ 10 → RangedChange change dst src →
    read_change change (change_operands change dst src) ≡ Ok (Unary change dst src)
change_again change dst src small source ranged = grind (arith, register_again dst small, register_again src source)

change_are : (change : Change) (dst src : ℕ) → dst ≤ 10 → src ≤ 10 → AreOperands (change_operands change dst src)
change_are change dst src small source = grind (arith, register_operand)

pub operands_are : (i : Instruction) → HasRegisters i → IsHeld i → AreOperands (operands_of i)
operands_are i r h =
    let short = distance_operand (2 ^ 15) in
    grind (
      arith,
      register_operand,
      source_operand,
      place_operand,
      change_are,
      short,
      jump_operand,
      natural_operand,
      number_operand,
    )

operands_again : (i : Instruction) → HasRegisters i → IsHeld i → read_operands (form_of i) (operands_of i) ≡ Ok i
operands_again (Unary change dst src) r h = change_again change dst src r.dst r.changed h.ranged
operands_again (Store size base offset source) r h =
    rw (place_again base offset r.dst h.ranged.0, stored_again source r.src h.ranged.1)
operands_again (Jump distance) r h = rw (distance_again distance h.ranged)
operands_again _ r h =
    grind (arith, register_again, source_again, place_again, short_again, wide_again, immediate_again)

pub line_again : (i : Instruction) → HasRegisters i → IsHeld i → read_line (line_of i) ≡ Ok (Some i)
line_again i registers is = line_read (word_of i) (operands_of i) (form_of i) i (word_named i is.form)
    (operands_are i registers is) (operands_again i registers is)

-- a line has no line feed
pub line_feeds : (i : Instruction) → HasRegisters i → IsHeld i → fails is_line_feed (line_of i) ≡ true
line_feeds i registers is = no_feeds (word_of i) (operands_of i) (word_named i is.form).1 (operands_are i registers is)
