use Rattle.std.proofs.Common.{◌≡◌, ◌≤◌, ◌+◌, length}
use Rattle.command_line.specs.Calls.{names_of}
use Rattle.commands.specs.FileTransforms.{AreApart, HaveWritten}
use Rattle.commands.proofs.FileLaws.{KeepsAfter}
use Rattle.commands.proofs.output_files.close_settled.Given as goal

abbrev pub invariant-loop-outlet : goal.invariant-loop-outlet
invariant-loop-outlet g l =
    (goal.iterator-loop-outlet g).can_next l.outlet-iterator
    × (goal.iterator-loop-outlet g).is_finite l.outlet-iterator
    × (l.output ≡ length l.yielded)
    × (l.output + (goal.iterator-loop-outlet g).remaining l.outlet-iterator
    ≤ (goal.iterator-loop-outlet g).remaining l.initial.outlet-iterator)
    × (AreApart g.F.Files.leads (names_of l.words) → HaveWritten (names_of l.words) l.yielded (g.F.Files.bytes l.files))
    × KeepsAfter g.F.Files.leads (names_of l.words) l.output (g.F.Files.bytes l.initial.files)
    (g.F.Files.bytes l.files)
