-- The rules of a text, one after another.
use Rattle.std.proofs.Common.{◌≡◌, ℕ, zero, suc, ◌+◌, ◌≤◌, ◌<◌, List, [], ◌∷◌, ◌++◌, length, drop, get_or, refl, sym}
use Rattle.std.proofs.Common.{ap, ◌∙◌, subst, arith, append_assoc, add-one}
use Rattle.std.specs.List.{AllByRecursion}
use Rattle.std.proofs.{Math.Seq.drop-cons, lemmas.List.append-nil}
use Rattle.machine_spec.specs.declared.instruction.Instruction.{Instruction}
use Rattle.rules.specs.declared.rule.Rule.{Rule}
use Rattle.rules.specs.Lines.{Line, line_of, lines_of}
use Rattle.rules.specs.Limits.{IsText, FitsText, FitsLine}
use Rattle.rules_compiler.specs.Code.{instructions}
use Rattle.rules_compiler.specs.{Rules.line_code, Rules.lines_code}

pub next_rule : (list : List Rule) (k : ℕ) (rule : Rule) → k < length list → rule ≡ get_or list k rule →
    lines_of (drop k list) ≡ line_of rule ∷ lines_of (drop (k + 1) list)
next_rule list k rule low at =
    ap lines_of (drop-cons list k rule low)
    ∙ ap (λ (r : Rule). line_of r ∷ lines_of (drop (suc k) list)) (sym at)
    ∙ ap (λ (n : ℕ). line_of rule ∷ lines_of (drop n list)) (sym (add-one k))

pub code_step : (front made next : List Instruction) (lines rest : List Line) (line : Line) → lines ≡ line ∷ rest →
    front ≡ made ++ instructions (lines_code lines) → next ≡ made ++ instructions (line_code line) →
    front ≡ next ++ instructions (lines_code rest)
unfolding lines_code
code_step front made next lines rest line is so_far more =
    so_far ∙ ap (λ (l : List Line). made ++ instructions (lines_code l)) is
    ∙ sym (append_assoc made (instructions (line_code line)) (instructions (lines_code rest)))
    ∙ ap (λ (m : List Instruction). m ++ instructions (lines_code rest)) (sym more)

pub fits_step : (P : Line → Type 0) (lines rest : List Line) (line : Line) → lines ≡ line ∷ rest →
    AllByRecursion P lines → AllByRecursion P rest
fits_step P lines rest line is all = (subst (AllByRecursion P) is all).1

-- the rules behind the first one
pub lines_behind : (rules : List Rule) → lines_of (drop 1 rules) ≡ drop 1 (lines_of rules)
lines_behind [] = refl
lines_behind (rule ∷ rules) = refl

no_rules : (n : ℕ) → drop {A = Rule} n [] ≡ []
no_rules zero = refl
no_rules (suc n) = refl

pub drop_behind : (rules : List Rule) (k : ℕ) → drop k (drop 1 rules) ≡ drop (k + 1) rules
drop_behind [] k = no_rules k ∙ sym (no_rules (k + 1))
drop_behind (rule ∷ rules) k =
    let one : suc k ≡ k + 1 = omega arith in ap (λ (n : ℕ). drop n (rule ∷ rules)) one

pub fits_behind : (lines : List Line) → AllByRecursion (FitsLine FitsText) lines →
    AllByRecursion (FitsLine FitsText) (drop 1 lines)
fits_behind [] fits = tt
fits_behind (line ∷ lines) fits = fits.1

drop_past : (list : List Rule) (k : ℕ) → length list ≤ k → drop k list ≡ []
drop_past [] zero past = refl
drop_past [] (suc k) past = refl
drop_past (rule ∷ list) zero past = absurd (omega arith)
drop_past (rule ∷ list) (suc k) past = drop_past list k (omega arith)

pub code_end : (front made : List Instruction) (list : List Rule) (k : ℕ) → length list ≤ k →
    front ≡ made ++ instructions (lines_code (lines_of (drop k list))) → made ≡ front
unfolding lines_code
code_end front made list k past so_far =
    sym (so_far ∙ ap (λ (l : List Rule). made ++ instructions (lines_code (lines_of l))) (drop_past list k past)
    ∙ append-nil made)

pub past_all : (P : Line → Type 0) (list : List Rule) (k : ℕ) → length list ≤ k → AllByRecursion P (lines_of (drop k list))
past_all P list k past =
    subst (λ (l : List Rule). AllByRecursion P (lines_of l)) (sym (drop_past list k past)) tt

-- a text whose bytes are some
pub text_from : (text : List ℕ) → length text ≤ 255 → ((at : ℕ) → get_or text at 0 < 256) → IsText text
text_from text few bytes = record { few = few; bytes = each text bytes }
  where
    each : (text : List ℕ) → ((at : ℕ) → get_or text at 0 < 256) → AllByRecursion (λ byte. byte < 256) text
    each [] bytes = tt
    each (x ∷ text) bytes = (bytes 0, each text (λ at. bytes (suc at)))
