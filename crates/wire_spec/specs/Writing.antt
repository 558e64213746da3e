-- What a writer holds after a part of some bytes was written.
use Rattle.std.specs.Prelude.{ℕ, List, take, Option}
use Rattle.std.specs.Io.KnownBytes.{Appends}

-- what the writer holds, where that is known, has grown by a beginning of some bytes
pub record HasBegun (before after : Option (List ℕ)) (bytes : List ℕ) : Type 0 where
  pub count : ℕ
  pub written : Appends before after (take count bytes)
