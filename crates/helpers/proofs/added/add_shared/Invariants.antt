use Rattle.std.proofs.Common.{◌≡◌, ◌++◌, take}
use Rattle.helpers.proofs.added.add_shared.Given as goal

abbrev pub invariant-loop-header : goal.invariant-loop-header
invariant-loop-header l = l.list.items ≡ l.initial.list.items ++ take l.header-index l.more
