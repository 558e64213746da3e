-- Batches that bytes begin with, one after the other.
use Rattle.std.proofs.Common.{◌≡◌, Result, Ok, Err}

apart : {A E : Type 0} (x : A) (e : E) (r : Result A E) → r ≡ Ok x → r ≡ Err e → ⊥
apart x e r is other = absurd cc
