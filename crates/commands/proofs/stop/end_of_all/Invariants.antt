use Rattle.std.proofs.Common.{◌≡◌, drop}
use Rattle.commands.specs.Stops.{end_of_all}
use Rattle.commands.proofs.stop.end_of_all.Given as goal

abbrev pub invariant-loop-end : goal.invariant-loop-end
invariant-loop-end l = end_of_all l.ended ≡ end_of_all (drop l.end-index l.ended)
