use Rattle.std.proofs.Common.{◌≡◌, take}
use Rattle.batch.proofs.sharing.share_records.Given as goal

abbrev pub invariant-loop-given : goal.invariant-loop-given
invariant-loop-given l = l.list.items ≡ take l.given-index l.given-items
