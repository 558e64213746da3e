use Rattle.std.proofs.Common.{rules, ◌≡◌, ℕ, ◌-◌, true, false, slice_get, subst, arith}
use Rattle.explain.specs.Found.{follows}
use Rattle.explain.proofs.Marks.{no_fall, one_fall}
use Rattle.explain.proofs.loops.mark_fall.Goals as goal

pub returns-then-j-eq0 : goal.returns-then-j-eq0
returns-then-j-eq0 c =
    no_fall c.args.graph.now c.args.to c.args.at c.args.j c.args.marks.now c.args.list.now.items c.requires
    (λ k is. absurd (omega (arith, is, c.if-j-eq0.true)))

pub returns-then-not-follows : goal.returns-then-not-follows
returns-then-not-follows c =
    let stops : follows (slice_get c.args.graph.now (c.args.j - 1)) ≡ false = search rules in
    no_fall c.args.graph.now c.args.to c.args.at c.args.j c.args.marks.now c.args.list.now.items c.requires
    (λ k is.
    let same : c.args.j - 1 ≡ k = omega (arith, is) in
    subst (λ (i : ℕ). follows (slice_get c.args.graph.now i) ≡ false) same stops)

pub returns : goal.returns
returns c =
    let falls : follows (slice_get c.args.graph.now (c.args.j - 1)) ≡ true = search rules in
    one_fall c.args.graph.now c.args.to c.args.at c.args.j c.args.marks.now c.args.list.now.items c.requires
    (c.args.j - 1) c.mark.new.marks c.mark.new.list.items (omega (arith, c.if-j-eq0.false)) falls
    c.in_ok-mark.ensures.marks c.in_ok-mark.ensures.list
