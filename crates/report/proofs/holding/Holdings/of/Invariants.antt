use Rattle.std.proofs.Common.{◌≡◌, ℕ, length, Some, slice_get}
use Rattle.report.specs.Holdings.{Held, IsHolding}
use Rattle.report.proofs.holding.Holdings.of.Given as goal

abbrev pub invariant-loop-input : goal.invariant-loop-input
invariant-loop-input g l =
    (length l.list.items ≡ l.input)
    × ((input : ℕ) (h : Held) → slice_get l.list.items input ≡ Some h →
    IsHolding g.Id.Names.outputs l.book.output input h)
