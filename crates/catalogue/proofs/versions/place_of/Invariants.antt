use Rattle.std.proofs.Common.{◌≡◌, take, None}
use Rattle.log_spec.specs.Catalogue.{among}
use Rattle.catalogue.proofs.versions.place_of.Given as goal

abbrev pub invariant-loop-i : goal.invariant-loop-i
invariant-loop-i l = among (take l.i l.list) l.name ≡ None
