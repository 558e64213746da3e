-- A text that grows by the texts of one number after another.
use Rattle.std.proofs.Common.{◌≡◌, ℕ, ◌+◌, List, ◌++◌, refl, add-one, append_assoc, slice_get, Option, Some}
use Rattle.std.proofs.lemmas.List.{append-nil}
use Rattle.machine_spec.specs.declared.instruction.Placed.{Placed}
use Rattle.verifier_spec.specs.{declared.state.Abstract.Abstract, Annotation.Claims, Annotation.claim_at}
use Rattle.explain.specs.Texts.{texts_below, lines_of, lines_at}

pub none_yet : (start : List ℕ) (text : ℕ → List ℕ) → start ++ texts_below 0 text ≡ start
unfolding texts_below
none_yet start text = append-nil start

pub one_more : (start : List ℕ) (k : ℕ) (text : ℕ → List ℕ) →
    start ++ texts_below (k + 1) text ≡ (start ++ texts_below k text) ++ text k
unfolding texts_below
one_more start k text = rw (add-one, append_assoc) refl

pub same_lines : (code : List Placed) (claims : Claims) (k : ℕ) (placed : Placed) (known : Option Abstract) →
    slice_get code k ≡ Some placed → known ≡ claim_at claims k → lines_of k (Some placed) known ≡ lines_at code claims k
same_lines code claims k placed known at is = rw (is, at)
