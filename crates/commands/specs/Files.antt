-- Which files stay, and which names lead to one file.
use Rattle.std.specs.Prelude.{◌≡◌, ◌≢◌, ◌↔◌, ℕ, Bool, true, List, Option, Some, None, IfSome, codes}
use Rattle.commands.specs.declared.endpoint.Endpoint.{Endpoint}
use Rattle.commands.specs.declared.endpoint.Endpoint.TheVariants as endpoint

-- all files have the bytes that they had
abbrev pub KeepsAll : (before after : List ℕ → Option (List ℕ)) → Type 0
KeepsAll before after = (other : List ℕ) → after other ≡ before other

-- files that a name doesn't lead to have the bytes that they had
abbrev pub KeepsBut : (leads : List ℕ → List ℕ) → List ℕ → (before after : List ℕ → Option (List ℕ)) → Type 0
KeepsBut leads name before after = (other : List ℕ) → leads other ≢ leads name → after other ≡ before other

-- the word of a call by which an endpoint is meant, if one is
abbrev pub word_of : Endpoint → Option (List ℕ)
word_of (endpoint.File name) = Some name.now
word_of endpoint.Stdin = Some (codes "stdin")
word_of endpoint.Stdout = Some (codes "stdout")
word_of endpoint.UnusedStdout = None

-- It is told whether the words of two endpoints, if they have some, lead to one file.
abbrev pub TellsOne : (leads : List ℕ → List ℕ) → (one other : Endpoint) → Bool → Type 0
TellsOne leads one other same =
    IfSome (word_of one) (λ a. IfSome (word_of other) (λ b. (same ≡ true) ↔ (leads a ≡ leads b)))
