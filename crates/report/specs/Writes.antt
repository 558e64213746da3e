-- What a writer holds after a text was written, or a beginning of it.
use Rattle.std.specs.Prelude.{ℕ, ◌≤◌, List, length, take, Option, Result, Ok, Err}
use Rattle.std.specs.Io.KnownBytes.{Appends}
use Rattle.wire_spec.specs.Writing.{HasBegun}

-- the whole text was written, or a beginning of it
abbrev pub Writes : {E : Type 0} → Option (List ℕ) → Option (List ℕ) → List ℕ → Result (Unit {0}) E → Type 0
Writes old new text (Ok done) = Appends old new text
Writes old new text (Err fault) = HasBegun old new text

-- this number of the first bytes was written, or a beginning of them
abbrev pub WritesSome : {E : Type 0} → Option (List ℕ) → Option (List ℕ) → List ℕ → Result ℕ E → Type 0
WritesSome old new bytes (Ok count) = (count ≤ length bytes) × Appends old new (take count bytes)
WritesSome old new bytes (Err fault) = HasBegun old new bytes
