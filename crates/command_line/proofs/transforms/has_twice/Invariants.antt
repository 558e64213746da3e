use Rattle.command_line.specs.Calls.{names_of}
use Rattle.command_line.proofs.CallLaws.{AreDistinctTo}
use Rattle.command_line.proofs.transforms.has_twice.Given as goal

abbrev pub invariant-loop-index : goal.invariant-loop-index
invariant-loop-index l = AreDistinctTo (names_of l.words) l.index
