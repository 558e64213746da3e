use Rattle.std.proofs.Common.{◌≡◌, take}
use Rattle.catalogue.proofs.versions.again.Given as goal

abbrev pub invariant-loop-known : goal.invariant-loop-known
invariant-loop-known l = l.copies.items ≡ take l.known-index l.list
