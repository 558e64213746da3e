use Rattle.std.proofs.Common.{◌≡◌, ℕ, ap, subst, length, arith}
use Rattle.explain.specs.{Graphs.sources_of, Found.AreJumpsFound}
use Rattle.explain.proofs.Marks.{none_yet, source_within, one_source}
use Rattle.explain.proofs.loops.mark_jumps.Goals as goal

pub loop-k-init : goal.loop-k-init
loop-k-init c =
    none_yet c.args.graph.now c.args.to c.args.at c.args.j c.args.marks.now c.args.list.now.items c.requires.found
    c.requires.is_at

pub mark-requires : goal.mark-requires
mark-requires c =
    source_within c.args.graph.now c.args.to c.args.at c.args.j c.loop-k.marks c.loop-k.list.items c.loop-k.k-index
    c.sources-k-items.result.now c.loop-k.invariant c.sources-k-items.ensures (omega (arith, c.loop-k-test.true))

pub loop-k-preserved : goal.loop-k-preserved
loop-k-preserved c =
    one_source c.args.graph.now c.args.to c.args.at c.args.j c.loop-k.marks c.loop-k.list.items c.loop-k.k-index
    c.sources-k-items.result.now c.mark.new.marks c.mark.new.list.items c.loop-k.invariant c.sources-k-items.ensures
    (omega (arith, c.loop-k-test.true)) c.in_ok-mark.ensures.marks c.in_ok-mark.ensures.list

pub returns : goal.returns
returns c =
    let all : c.loop-k.k-index ≡ length (sources_of c.args.graph.now c.args.j) = omega (
      arith,
      c.loop-k-test.false,
      c.loop-k.auto.k-index-end,
      ap length c.sources-k-items.ensures,
    ) in
    subst (λ (n : ℕ). AreJumpsFound c.args.graph.now c.args.to c.args.at c.args.j n c.loop-k.marks c.loop-k.list.items)
    all c.loop-k.invariant
