-- The words of a text, one after another.
use Rattle.std.proofs.Common.{◌≡◌, ℕ, ◌+◌, ℤ, List, [], ◌∷◌, ◌++◌, ap, ◌∙◌, append_assoc, add-one}
use Rattle.machine_spec.specs.declared.instruction.Instruction.{Instruction}
use Rattle.rules_compiler.specs.Pieces.{word_store, words_code}

one_more : (front code : List Instruction) (start : ℤ) (text : List ℕ) (k : ℕ) → code ≡ front ++ words_code start text k →
    code ++ word_store start text k ∷ [] ≡ front ++ words_code start text (k + 1)
unfolding words_code
one_more front code start text k so_far =
    rw (add-one k) (ap (λ (l : List Instruction). l ++ word_store start text k ∷ []) so_far
    ∙ append_assoc front (words_code start text k) (word_store start text k ∷ []))

pub words_more : (front code next : List Instruction) (start : ℤ) (text : List ℕ) (k : ℕ) →
    code ≡ front ++ words_code start text k → next ≡ code ++ word_store start text k ∷ [] →
    next ≡ front ++ words_code start text (k + 1)
words_more front code next start text k so_far is = is ∙ one_more front code start text k so_far
