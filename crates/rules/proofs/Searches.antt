-- Searches for a text in bytes.
use Rattle.std.proofs.Common.{◌≡◌, ℕ, ◌+◌, ◌<◌, ◌||◌, Bool, false, List, ◌∷◌, length, get_or, drop, nat_eq, add-one, ◌∙◌, ap}
use Rattle.std.proofs.Math.Seq.{drop-cons}
use Rattle.std.specs.List.{starts_with}
use Rattle.rules.specs.Meaning.{occurs}

-- a text that does not begin here occurs further on, if at all
pub occurs_more : (text bytes : List ℕ) (k : ℕ) → k < length bytes → starts_with nat_eq (drop k bytes) text ≡ false →
    occurs text bytes ≡ occurs text (drop k bytes) → occurs text bytes ≡ occurs text (drop (k + 1) bytes)
occurs_more text bytes k within fails before =
    let here : drop k bytes ≡ get_or bytes k 0 ∷ drop (k + 1) bytes = rw add-one (drop-cons bytes k 0 within) in
    let not_here : starts_with nat_eq (get_or bytes k 0 ∷ drop (k + 1) bytes) text ≡ false = rw here at fails in
    before ∙ (ap (occurs text) here ∙ ap (λ (b : Bool). b || occurs text (drop (k + 1) bytes)) not_here)
