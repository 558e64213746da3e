use Rattle.std.proofs.Common.{◌≡◌, drop}
use Rattle.notes.specs.Derived.{are_rising}
use Rattle.notes.proofs.settling.are_rising.Given as goal

abbrev pub invariant-loop-pair : goal.invariant-loop-pair
invariant-loop-pair l = are_rising 0 l.limit l.pairs ≡ are_rising l.least l.limit (drop l.pair-index l.pairs)
