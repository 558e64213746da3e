use Rattle.std.proofs.Common.{rules, ◌≡◌, ℕ, List, Vec, length, subst, sym}
use Rattle.std.specs.declared.alloc.Global.{Global}
use Rattle.explain.specs.Graphs.{AreSources}
use Rattle.explain.proofs.Sources.{at_start}
use Rattle.explain.proofs.graph.Graph.new.Goals as goal

pub add_sources-requires : goal.add_sources-requires
add_sources-requires c =
    let lists = c.in_ok-sources.sources.items in
    let count : length lists ≡ length c.args.code.now = search rules in
    subst (λ (xs : List (Vec ℕ Global)). AreSources c.args.code.now 0 xs) (sym c.deref_mut.ensures.value)
    (at_start c.args.code.now lists count c.in_ok-sources.ensures.empty)
