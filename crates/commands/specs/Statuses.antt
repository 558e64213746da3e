-- The numbers by which a program reports how a call ended.
use Rattle.std.specs.Prelude.{ℕ}
use Rattle.commands.specs.declared.status.Status.{Status}
use Rattle.commands.specs.declared.status.Status.TheVariants.{Done, Refused, Usage, Failed}

-- the number that the program exits with
abbrev pub code_of : Status → ℕ
code_of Done = 0
code_of Refused = 1
code_of Usage = 2
code_of Failed = 3
