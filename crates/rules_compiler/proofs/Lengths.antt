-- How long code is, and that code is too long of which a piece is.
use Rattle.std.proofs.Common.{◌≡◌, ℕ, zero, suc, ◌+◌, ◌-◌, ◌*◌, ◌<◌, ◌≤◌, List, [], ◌∷◌, ◌++◌, length, take, drop, ap, ◌∙◌, sym, subst, arith}
use Rattle.std.proofs.Common.{length-append, append_assoc, refl, pos, get_or}
use Rattle.std.proofs.{Math.Seq.drop-cons}
use Rattle.std.proofs.lemmas.List.{length-drop}
use Rattle.machine_spec.specs.declared.{instruction.Instruction.Instruction, limits.TheConstants.MAX_SLOTS}
use Rattle.machine_spec.specs.declared.{instruction.Source.Source, operation.Test.Test}
use Rattle.rules.specs.declared.rule.Rule.{Rule}
use Rattle.machine_spec.specs.declared.instruction.{Source.TheVariants.Immediate, Instruction.TheVariants.Exit}
use Rattle.machine_spec.specs.declared.instruction.{Size.Size, Extension.TheVariants.Zero, Instruction.TheVariants.Load}
use Rattle.machine_spec.specs.declared.{instruction.Instruction.TheVariants.JumpIf, operation.Width.TheVariants.Bits64}
use Rattle.machine_spec.specs.declared.operation.Operation.TheVariants.{Xor}
use Rattle.machine_spec.specs.declared.operation.Test.TheVariants as jumps
use Rattle.rules.specs.declared.{rule.Test.Test as Tests}
use Rattle.rules.specs.Formulas.{Formula, Single, Negated}
use Rattle.rules.specs.Lines.{Line, line_of, lines_of}
use Rattle.rules_compiler.specs.declared.{fault.CompileFault.CompileFault, fault.Refusal.Refusal}
use Rattle.rules_compiler.specs.declared.fault.CompileFault.TheVariants as fault
use Rattle.rules_compiler.specs.declared.fault.Refusal.TheVariants as refusal
use Rattle.rules_compiler.specs.Code.{Code, Plain, Then, Unless, instructions}
use Rattle.rules_compiler.specs.declared.pieces.TheConstants.{ANSWER, LENGTH, TRUTH}
use Rattle.rules_compiler.specs.{Pieces.set, Pieces.change}
use Rattle.rules_compiler.specs.Faults.{IsTooLong, IsRefusedAt, IsFirstAfter, AreRefusedBehind, IsFirstTooLong, AreRefused}
use Rattle.rules_compiler.specs.Tests.{match_byte, match_code, match_test_code, test_code, searches_code}
use Rattle.rules_compiler.specs.Tests.{compare_block, compare_list}
use Rattle.rules_compiler.specs.Terms.{more_of, append_byte, more_code, read_code, value_number_code}
use Rattle.rules.specs.declared.rule.{Layout.Layout}
use Rattle.rules.specs.Meaning.{layout_size}
use Rattle.std.proofs.Common.{ℤ}
use Rattle.std.proofs.lemmas.List.{append-nil}
use Rattle.rules_compiler.specs.Rules.{condition_code, line_code, lines_code, opening_of, rules_code, body_of, code_of}
use Rattle.rules_compiler.proofs.Loops.{lines_behind, drop_behind}
use Rattle.rules_compiler.specs.declared.searches.TheConstants.{PLACES}

-- ---- searches

pub searches_length : (size place left : ℕ) → length (instructions (searches_code size place left)) ≡ 12 * left + 12
unfolding searches_code
searches_length size place zero = refl
searches_length size place (suc left) = omega (arith, searches_length size (place + PLACES) left)

-- ---- short texts

pub match_length : (base : ℕ) (text : List ℕ) (place : ℕ) → length (instructions (match_code base text place)) ≡ 2 * length text + 1
unfolding match_code
match_length base [] place = refl
match_length base (byte ∷ text) place = omega (arith, match_length base text (place + 1))

-- one more byte of a text
pub match_step : (base : ℕ) (front code next : List Instruction) (text : List ℕ) (k : ℕ) → k < length text →
    front ≡ code ++ instructions (match_code base (drop k text) k) →
    next ≡ code ++ match_byte base k (get_or text k 0) (length text - k - 1) →
    front ≡ next ++ instructions (match_code base (drop (k + 1) text) (k + 1))
unfolding match_code
match_step base front code next text k low so_far more =
    let parts = drop-cons text k 0 low in
    let one : suc k ≡ k + 1 = omega arith in
    let long = match_length base (drop (k + 1) text) (k + 1) in
    let left : length (drop (k + 1) text) ≡ length text - k - 1 = omega (arith, length-drop (k + 1) text) in
    let rest = instructions (match_code base (drop (k + 1) text) (k + 1)) in
    let count = long ∙ ap (λ (n : ℕ). 2 * n + 1) left in
    so_far
    ∙ ap (λ (l : List ℕ). code ++ instructions (match_code base l k))
    (parts ∙ ap (λ (n : ℕ). get_or text k 0 ∷ drop n text) one)
    ∙ ap (λ (n : ℕ). code ++ (Load Size.Byte Zero ANSWER base (pos k)
    ∷ JumpIf Bits64 jumps.NotEqual ANSWER (Immediate (pos (get_or text k 0))) (pos n) ∷ rest)) count
    ∙ sym (append_assoc code (match_byte base k (get_or text k 0) (length text - k - 1)) rest)
    ∙ ap (λ (l : List Instruction). l ++ rest) (sym more)

no_more : (text : List ℕ) (k : ℕ) → length text ≤ k → drop k text ≡ []
no_more [] zero past = refl
no_more [] (suc k) past = refl
no_more (byte ∷ text) zero past = absurd (omega arith)
no_more (byte ∷ text) (suc k) past = no_more text k (omega arith)

pub match_end : (base : ℕ) (front code : List Instruction) (text : List ℕ) (k : ℕ) → length text ≤ k →
    front ≡ code ++ instructions (match_code base (drop k text) k) → front ≡ code ++ set TRUTH (pos 1) ∷ []
unfolding match_code
match_end base front code text k past so_far =
    so_far ∙ ap (λ (l : List ℕ). code ++ instructions (match_code base l k)) (no_more text k past)

-- a test of a text as it is put together
pub match_test_is : (base long : ℕ) (front : List Instruction) (text : List ℕ) (how : Test) →
    (front ++ set TRUTH (pos 0) ∷ JumpIf Bits64 how long (Immediate (pos (length text))) (pos (2 * length text + 1)) ∷ [])
    ++ instructions (match_code base text 0) ≡ front ++ instructions (match_test_code base long text how)
unfolding match_test_code
match_test_is base long front text how =
    append_assoc front (set TRUTH (pos 0) ∷ JumpIf Bits64 how long (Immediate (pos (length text))) (pos (2 * length text + 1)) ∷ [])
    (instructions (match_code base text 0))
    ∙ ap (λ (n : ℕ). front ++ (set TRUTH (pos 0) ∷ JumpIf Bits64 how long (Immediate (pos (length text))) (pos n)
    ∷ instructions (match_code base text 0))) (sym (match_length base text 0))

-- ---- numbers in the value

pub more_length : (count place : ℕ) → length (instructions (more_code place count)) ≡ 3 * count
unfolding more_code
more_length zero place = refl
more_length (suc count) place = omega (arith, more_length count (place + 1))

pub more_step : (front code next : List Instruction) (place count k : ℕ) → k < count →
    front ≡ code ++ instructions (more_code (place + k) (count - k)) → next ≡ code ++ append_byte (place + k) →
    front ≡ next ++ instructions (more_code (place + (k + 1)) (count - (k + 1)))
unfolding more_code
more_step front code next place count k low so_far more =
    let left : count - k ≡ suc (count - (k + 1)) = omega arith in
    let at : place + k + 1 ≡ place + (k + 1) = omega arith in
    let rest = instructions (more_code (place + (k + 1)) (count - (k + 1))) in
    so_far ∙ ap (λ (n : ℕ). code ++ instructions (more_code (place + k) n)) left
    ∙ ap (λ (n : ℕ). code ++ (append_byte (place + k) ++ instructions (more_code n (count - (k + 1))))) at
    ∙ sym (append_assoc code (append_byte (place + k)) rest)
    ∙ ap (λ (l : List Instruction). l ++ rest) (sym more)

pub more_end : (front code : List Instruction) (place count k : ℕ) → count ≤ k →
    front ≡ code ++ instructions (more_code (place + k) (count - k)) → code ≡ front
unfolding more_code
more_end front code place count k past so_far =
    let left : count - k ≡ 0 = omega arith in
    sym (so_far ∙ ap (λ (n : ℕ). code ++ instructions (more_code (place + k) n)) left ∙ append-nil code)

read_length : (layout : Layout) (place : ℕ) → length (instructions (read_code layout place)) ≡ 3 * more_of layout + 1
unfolding read_code
read_length layout place = omega (arith, more_length (more_of layout) (place + 1))

pub value_number_is : (front : List Instruction) (layout : Layout) (place : ℕ) →
    ((front ++ set ANSWER (pos 0) ∷ set TRUTH (pos 0) ∷ JumpIf Bits64 jumps.Less LENGTH
    (Immediate (pos (place + layout_size layout))) (pos (3 * more_of layout + 2)) ∷ [])
    ++ instructions (read_code layout place)) ++ set TRUTH (pos 1) ∷ []
    ≡ front ++ instructions (value_number_code layout place)
unfolding value_number_code
value_number_is front layout place =
    let read = instructions (read_code layout place) in
    let long : 3 * more_of layout + 2 ≡ length (instructions (read_code layout place) ++ set TRUTH (pos 1) ∷ []) =
    omega (arith, read_length layout place, length-append (instructions (read_code layout place)) (set TRUTH (pos 1) ∷ [])) in
    append_assoc (front ++ set ANSWER (pos 0) ∷ set TRUTH (pos 0) ∷ JumpIf Bits64 jumps.Less LENGTH
    (Immediate (pos (place + layout_size layout))) (pos (3 * more_of layout + 2)) ∷ []) read (set TRUTH (pos 1) ∷ [])
    ∙ append_assoc front (set ANSWER (pos 0) ∷ set TRUTH (pos 0) ∷ JumpIf Bits64 jumps.Less LENGTH
    (Immediate (pos (place + layout_size layout))) (pos (3 * more_of layout + 2)) ∷ []) (read ++ set TRUTH (pos 1) ∷ [])
    ∙ ap (λ (n : ℕ). front ++ (set ANSWER (pos 0) ∷ set TRUTH (pos 0) ∷ JumpIf Bits64 jumps.Less LENGTH
    (Immediate (pos (place + layout_size layout))) (pos n) ∷ (read ++ set TRUTH (pos 1) ∷ []))) long

pub value_compare_is : (front : List Instruction) (layout : Layout) (place : ℕ) (how : Test) (number : ℤ) →
    ((front ++ set TRUTH (pos 0) ∷ JumpIf Bits64 jumps.Less LENGTH (Immediate (pos (place + layout_size layout)))
    (pos (3 * more_of layout + 4)) ∷ []) ++ instructions (read_code layout place))
    ++ (set TRUTH (pos 1) ∷ JumpIf Bits64 how ANSWER (Immediate number) (pos 1) ∷ set TRUTH (pos 0) ∷ [])
    ≡ front ++ compare_list layout place how number
value_compare_is front layout place how number =
    let read = instructions (read_code layout place) in
    let three : List Instruction =
    set TRUTH (pos 1) ∷ JumpIf Bits64 how ANSWER (Immediate number) (pos 1) ∷ set TRUTH (pos 0) ∷ [] in
    let long : 3 * more_of layout + 4 ≡ length (compare_block layout place how number) =
    omega (
      arith,
      read_length layout place,
      length-append (instructions (read_code layout place))
          (set TRUTH (pos 1) ∷ JumpIf Bits64 how ANSWER (Immediate number) (pos 1) ∷ set TRUTH (pos 0) ∷ []),
    ) in
    append_assoc (front ++ set TRUTH (pos 0) ∷ JumpIf Bits64 jumps.Less LENGTH (Immediate (pos (place + layout_size layout)))
    (pos (3 * more_of layout + 4)) ∷ []) read three
    ∙ append_assoc front (set TRUTH (pos 0) ∷ JumpIf Bits64 jumps.Less LENGTH (Immediate (pos (place + layout_size layout)))
    (pos (3 * more_of layout + 4)) ∷ []) (read ++ three)
    ∙ ap (λ (n : ℕ). front ++ (set TRUTH (pos 0) ∷ JumpIf Bits64 jumps.Less LENGTH
    (Immediate (pos (place + layout_size layout))) (pos n) ∷ compare_block layout place how number)) long

-- ---- pieces that are too long

pub first_long : (first next : Code) (r : Refusal) → IsTooLong (instructions first) r → IsTooLong (instructions (Then first next)) r
first_long first next refusal.Far long = omega (arith, long, length-append (instructions first) (instructions next))
first_long first next refusal.Memory long = tt

pub next_long : (first next : Code) (r : Refusal) → IsTooLong (instructions next) r → IsTooLong (instructions (Then first next)) r
next_long first next refusal.Far long = omega (arith, long, length-append (instructions first) (instructions next))
next_long first next refusal.Memory long = tt

pub block_long : (test : Test) (register : ℕ) (source : Source) (block : Code) (r : Refusal) →
    IsTooLong (instructions block) r → IsTooLong (instructions (Unless test register source block)) r
block_long test register source block refusal.Far long = omega (arith, long)
block_long test register source block refusal.Memory long = tt

-- ---- conditions and rules

pub memory_never : (list : List Instruction) (r : Refusal) → r ≡ refusal.Memory → IsTooLong list r
memory_never list r is = rw is tt

pub single_long : (t : Tests) (r : Refusal) → IsTooLong (instructions (test_code t)) r →
    IsTooLong (instructions (condition_code (Single t))) r
unfolding condition_code
single_long t r long = long

pub negated_long : (inner : Formula) (r : Refusal) → IsTooLong (instructions (condition_code inner)) r →
    IsTooLong (instructions (condition_code (Negated inner))) r
unfolding condition_code
negated_long inner r long = first_long (condition_code inner) (Plain (change Xor TRUTH (pos 1) ∷ [])) r long

-- ---- rules one after another

lines_split : (rules : List Rule) (k : ℕ) → length (instructions (lines_code (lines_of rules)))
    ≡ length (instructions (lines_code (take k (lines_of rules)))) + length (instructions (lines_code (lines_of (drop k rules))))
unfolding lines_code
lines_split [] zero = refl
lines_split [] (suc k) = refl
lines_split (rule ∷ rules) zero = omega arith
lines_split (rule ∷ rules) (suc k) =
    omega (
      arith,
      length-append (instructions (line_code (line_of rule))) (instructions (lines_code (lines_of rules))),
      length-append (instructions (line_code (line_of rule))) (instructions (lines_code (take k (lines_of rules)))),
      lines_split rules k,
    )

line_split : (line : Line) (lines rest : List Line) → lines ≡ line ∷ rest →
    length (instructions (lines_code lines)) ≡ length (instructions (line_code line)) + length (instructions (lines_code rest))
unfolding lines_code
line_split line lines rest is =
    ap (λ (l : List Line). length (instructions (lines_code l))) is
    ∙ length-append (instructions (line_code line)) (instructions (lines_code rest))

-- a rule behind the first one with which the code before the end is too long is the first such rule
pub rest_refused : (before made : List Instruction) (rules : List Rule) (k number : ℕ) (rule : Rule) (why : CompileFault) →
    1 ≤ k → before ++ instructions (lines_code (drop 1 (lines_of rules))) ≡ made ++ instructions (lines_code (lines_of (drop k rules))) →
    lines_of (drop k rules) ≡ line_of rule ∷ lines_of (drop (k + 1) rules) → length made + 2 ≤ MAX_SLOTS → number ≡ k + 1 →
    IsRefusedAt (length made + length (instructions (line_code (line_of rule)))) number why →
    AreRefusedBehind (length before) (lines_of rules) why
rest_refused before made rules k number rule (fault.Slots n) low so_far next few is refused =
    let same = ap (λ (l : List Instruction). length l) so_far in
    let all = length-append before (instructions (lines_code (drop 1 (lines_of rules)))) in
    let parts = length-append made (instructions (lines_code (lines_of (drop k rules)))) in
    let one = line_split (line_of rule) (lines_of (drop k rules)) (lines_of (drop (k + 1) rules)) next in
    let here = lines_split (drop 1 rules) (k - 1) in
    let behind = lines_split (drop 1 rules) k in
    let first : drop (k - 1) (drop 1 rules) ≡ drop k rules =
    drop_behind rules (k - 1) ∙ ap (λ (m : ℕ). drop m rules) (omega arith) in
    let others = drop_behind rules k in
    let first_long = ap (λ (l : List Rule). length (instructions (lines_code (lines_of l)))) first in
    let others_long = ap (λ (l : List Rule). length (instructions (lines_code (lines_of l)))) others in
    let list = lines_behind rules in
    let whole = ap (λ (l : List Line). length (instructions (lines_code l))) list in
    let taken = ap (λ (l : List Line). length (instructions (lines_code (take k l)))) list in
    let fewer = ap (λ (l : List Line). length (instructions (lines_code (take (k - 1) l)))) list in
    let at : n ≡ k + 1 = refused.0 ∙ is in
    let past : n - 1 ≡ k = omega arith in (
      omega arith,
      subst (λ (m : ℕ). IsFirstAfter (length before) (drop 1 (lines_of rules)) m) (sym past) (record {
        long = omega (arith, refused.1, same, all, parts, one, behind, others_long, whole, taken);
        short = omega (arith, same, all, parts, here, first_long, whole, fewer, few);
      }),
    )
rest_refused before made rules k number rule fault.Memory low so_far next few is refused = tt

code_length : (lines : List Line) → length (instructions (code_of lines))
    ≡ length (instructions (opening_of lines)) + length (instructions (lines_code (drop 1 lines))) + 2
unfolding code_of body_of rules_code
code_length lines = omega (
  arith,
  length-append (instructions (opening_of lines)) (instructions (lines_code (drop 1 lines))),
  length-append (instructions (opening_of lines) ++ instructions (lines_code (drop 1 lines))) (set ANSWER (pos 0) ∷ []),
  length-append ((instructions (opening_of lines) ++ instructions (lines_code (drop 1 lines))) ++ set ANSWER (pos 0) ∷ []) (Exit ∷ []),
)

opening_taken : (lines : List Line) (n : ℕ) → 1 ≤ n → opening_of (take n lines) ≡ opening_of lines
unfolding opening_of
opening_taken lines zero some = absurd (omega arith)
opening_taken [] (suc n) some = refl
opening_taken (line ∷ lines) (suc n) some = refl

behind_taken : (lines : List Line) (n : ℕ) → drop 1 (take (suc n) lines) ≡ take n (drop 1 lines)
behind_taken [] zero = refl
behind_taken [] (suc n) = refl
behind_taken (line ∷ lines) n = refl

none_opening : length (instructions (opening_of [])) ≡ 2
unfolding opening_of
none_opening = refl

none_behind : length (instructions (lines_code [])) ≡ 0
unfolding lines_code
none_behind = refl

-- how long the code of the first rules is
taken_length : (lines : List Line) (n : ℕ) → length (instructions (code_of (take (suc n) lines)))
    ≡ length (instructions (opening_of lines)) + length (instructions (lines_code (take n (drop 1 lines)))) + 2
taken_length lines n =
    let first = ap (λ (c : Code). length (instructions c)) (opening_taken lines (suc n) (omega arith)) in
    let rest = ap (λ (l : List Line). length (instructions (lines_code l))) (behind_taken lines n) in
    omega (arith, code_length (take (suc n) lines), first, rest)

pub first_is_refused : (lines : List Line) (why : CompileFault) →
    IsRefusedAt (length (instructions (opening_of lines))) 1 why → AreRefused lines why
first_is_refused lines (fault.Slots number) is =
    subst (λ (m : ℕ). IsFirstTooLong lines m) (sym is.0) (record {
      long = omega (arith, is.1, taken_length lines 0);
      short = omega (arith, code_length [], none_opening, none_behind);
    })
first_is_refused lines fault.Memory is = tt

others_from : (made : List Instruction) (lines : List Line) (number : ℕ) → made ≡ instructions (opening_of lines) →
    2 ≤ number → IsFirstAfter (length made) (drop 1 lines) (number - 1) → IsFirstTooLong lines number
others_from made lines (suc (suc n)) is some after =
    let same = ap (λ (l : List Instruction). length l) is in
    let one : suc (suc n) - 1 ≡ suc n = omega arith in
    let two : suc n - 1 ≡ n = omega arith in
    let moved = subst (λ (m : ℕ). IsFirstAfter (length made) (drop 1 lines) m) one after in
    let less = ap (λ (m : ℕ). length (instructions (lines_code (take m (drop 1 lines))))) two in
    record {
      long = omega (arith, same, moved.long, taken_length lines (suc n));
      short = subst (λ (m : ℕ). length (instructions (code_of (take m lines))) ≤ MAX_SLOTS) (sym one)
          (omega (arith, same, moved.short, less, taken_length lines n));
    }
others_from made lines (suc zero) is some after = absurd (omega arith)
others_from made lines zero is some after = absurd (omega arith)

pub others_are_refused : (made : List Instruction) (lines : List Line) (why : CompileFault) →
    made ≡ instructions (opening_of lines) → AreRefusedBehind (length made) lines why → AreRefused lines why
others_are_refused made lines (fault.Slots number) is after = others_from made lines number is after.0 after.1
others_are_refused made lines fault.Memory is after = tt

-- the code as it is put together
pub code_is : (made : List Instruction) (lines : List Line) → made ≡ instructions (opening_of lines) →
    (made ++ instructions (lines_code (drop 1 lines))) ++ set ANSWER (pos 0) ∷ Exit ∷ [] ≡ instructions (code_of lines)
unfolding code_of body_of rules_code
code_is made lines is =
    ap (λ (l : List Instruction). (l ++ instructions (lines_code (drop 1 lines))) ++ set ANSWER (pos 0) ∷ Exit ∷ []) is
    ∙ sym (append_assoc (instructions (opening_of lines) ++ instructions (lines_code (drop 1 lines))) (set ANSWER (pos 0) ∷ [])
    (Exit ∷ []))
