use Rattle.std.proofs.Common.{◌≡◌, ◌+◌, ◌<◌, ℕ, true}
use Rattle.command_line.specs.Calls.{names_of}
use Rattle.commands.specs.FileTransforms.{IsApart}
use Rattle.commands.proofs.one_file.refuse_one_file.Given as goal

abbrev pub invariant-loop-place : goal.invariant-loop-place
invariant-loop-place g l = g.F.Files.tells ≡ true → (output : ℕ) → output + 2 < l.place →
    IsApart g.F.Files.leads (names_of l.words) (output + 2)
