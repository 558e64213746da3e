use Rattle.std.proofs.Common.{◌≡◌, ℕ, [], length}
use Rattle.explain.specs.Graphs.{list_at}
use Rattle.explain.proofs.graph.no_sources.Given as goal

abbrev pub invariant-loop-number : goal.invariant-loop-number
invariant-loop-number l =
    record {
      count : length l.lists.items ≡ l._number;
      empty : (j : ℕ) → list_at l.lists.items j ≡ [];
    }
