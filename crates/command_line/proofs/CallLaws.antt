-- Words of a call, no two of which are the same.
use Rattle.std.proofs.Common.{◌≡◌, ◌≢◌, ℕ, ◌+◌, ◌<◌, ◌≤◌, true, false, List, [], length, take, get_or, sym, ap, subst}
use Rattle.std.proofs.Common.{◌∙◌, ⊎_elim, arith, string_bytes, string_eq}
use Rattle.std.specs.{List.list_any, declared.string.String.String}
use Rattle.std.proofs.{lemmas.Bool.cases_lt, lemmas.Bool.true≢false, lemmas.List.Folds.list_any_at}
use Rattle.std.proofs.lemmas.Slice.Eq.{bytes_eq-Decides}
use Rattle.std.proofs.lemmas.List.{get_or-take, get_or-map, length-take}
use Rattle.script.specs.Words.{word_at}
use Rattle.command_line.specs.Calls.{names_of}

-- none of the first names is the same as an earlier one
abbrev pub AreDistinctTo : List (List ℕ) → ℕ → Type 0
AreDistinctTo names n = (one other : ℕ) → one < other → other < n → word_at names other ≢ word_at names one

-- a word that is not among the first ones is none of them
not_among : {A : Type 0} (words : List (String A)) (k one : ℕ) (word : String A) → one < k → k < length words →
    list_any (λ other. string_eq other word) (take k words) ≡ false → string_bytes word ≢ word_at (names_of words) one
not_among words k one word lt within none same =
    let there : get_or (take k words) one word ≡ get_or words one word = get_or-take k words one word lt in
    let named : word_at (names_of words) one ≡ string_bytes (get_or words one word) =
    get_or-map string_bytes words one word [] (omega (arith, lt, within)) in
    let here : string_bytes (get_or (take k words) one word) ≡ string_bytes word =
    ap string_bytes there ∙ sym (same ∙ named) in
    let found : string_eq (get_or (take k words) one word) word ≡ true =
    (bytes_eq-Decides (string_bytes (get_or (take k words) one word)) (string_bytes word)).1 here in
    true≢false (sym (list_any_at (λ other. string_eq other word) (take k words) one word
    (omega (arith, lt, within, length-take k words)) found) ∙ none)

pub one_distinct : {A : Type 0} (words : List (String A)) (k : ℕ) (word : String A) → k < length words →
    word ≡ get_or words k word → list_any (λ other. string_eq other word) (take k words) ≡ false →
    AreDistinctTo (names_of words) k → AreDistinctTo (names_of words) (k + 1)
one_distinct words k word within is none before one other lt few = ⊎_elim old new (cases_lt other k)
  where
    old : other < k → word_at (names_of words) other ≢ word_at (names_of words) one
    old below = before one other lt below

    new : k ≤ other → word_at (names_of words) other ≢ word_at (names_of words) one
    new le =
        let same : k ≡ other = omega (arith, le, few) in
        let named : word_at (names_of words) k ≡ string_bytes word =
        get_or-map string_bytes words k word [] within ∙ ap string_bytes (sym is) in
        subst (λ (n : ℕ). word_at (names_of words) n ≢ word_at (names_of words) one) same
        (λ e. not_among words k one word (omega (arith, lt, same)) within none (sym named ∙ e))
