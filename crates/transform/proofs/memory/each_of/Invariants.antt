use Rattle.std.proofs.Common.{◌≡◌, map}
use Rattle.transform.specs.Transformed.{content_of, content_in}
use Rattle.transform.proofs.memory.each_of.Given as goal

abbrev pub invariant-loop-outlet : goal.invariant-loop-outlet
invariant-loop-outlet l =
    (goal.iterator-loop-outlet).can_next l.outlet-iterator
    × (goal.iterator-loop-outlet).is_finite l.outlet-iterator
    × (map content_in l.outputs.items ≡ map content_of l.yielded)
