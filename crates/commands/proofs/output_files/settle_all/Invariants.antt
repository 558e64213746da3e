use Rattle.commands.specs.FileTransforms.{HaveSame}
use Rattle.commands.proofs.output_files.settle_all.Given as goal

abbrev pub invariant-loop-outlet : goal.invariant-loop-outlet
invariant-loop-outlet g l =
    (goal.iterator-loop-outlet g).can_next l.outlet-iterator
    × (goal.iterator-loop-outlet g).is_finite l.outlet-iterator
    × HaveSame l.yielded l.settled.items
