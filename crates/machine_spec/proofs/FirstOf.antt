-- The first of some tests that holds: there is none where none holds.
use Rattle.std.proofs.Common.{◌≡◌, Bool, true, false, if◌then◌else◌, List, [], ◌∷◌, Option, Some, None, refl}
use Rattle.machine_spec.specs.Traps.{first_of}

-- no test of a list of rows holds
abbrev pub NoneHolds : {A : Type 0} → List (Bool × A) → Type 0
NoneHolds [] = Unit {0}
NoneHolds (row ∷ rows) = (row.0 ≡ false) × NoneHolds rows

first_fails : {A : Type 0} (b : Bool) (x : A) (rest : Option A) → (if b then Some x else rest) ≡ None →
    (b ≡ false) × (rest ≡ None)
first_fails true x rest h = absurd (cc h)
first_fails false x rest h = (refl, h)

pub none_hold : {A : Type 0} (rows : List (Bool × A)) → first_of rows ≡ None → NoneHolds rows
none_hold [] h = tt
none_hold (row ∷ rows) h = let p = first_fails row.0 row.1 (first_of rows) h in (p.0, none_hold rows p.1)

pub none_first : {A : Type 0} (rows : List (Bool × A)) → NoneHolds rows → first_of rows ≡ None
none_first [] h = refl
none_first (row ∷ rows) h = rw h.0 (none_first rows h.1)
