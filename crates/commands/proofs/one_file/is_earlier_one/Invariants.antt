use Rattle.std.proofs.Common.{◌≡◌, ◌≢◌, ◌<◌, ℕ, true}
use Rattle.script.specs.Words.{word_at}
use Rattle.command_line.specs.Calls.{names_of}
use Rattle.commands.proofs.one_file.is_earlier_one.Given as goal

abbrev pub invariant-loop-earlier : goal.invariant-loop-earlier
invariant-loop-earlier g l = g.F.Files.tells ≡ true → (k : ℕ) → k < l.earlier →
    g.F.Files.leads (word_at (names_of l.words) l.place) ≢ g.F.Files.leads (word_at (names_of l.words) k)
