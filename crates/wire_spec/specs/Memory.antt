-- What a call returns where memory may run out.
use Rattle.std.specs.Prelude.{◌≡◌, ◌≢◌, Result, Ok, Err}

-- A call returned `fault`. It is the one that the definition gives, unless it is `memory`, which says that memory ran
-- out.
abbrev pub IsFault : {A F : Type 0} → F → F → Result A F → Type 0
IsFault memory fault said = fault ≢ memory → said ≡ Err fault

-- What a call returned, seen by view, is what the definition gives, unless memory ran out.
abbrev pub AnswersAs : {X A F : Type 0} → F → (X → A) → Result X F → Result A F → Type 0
AnswersAs memory view (Ok x) said = said ≡ Ok (view x)
AnswersAs memory view (Err fault) said = IsFault memory fault said
