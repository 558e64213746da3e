use Rattle.std.proofs.Common.{◌∙◌, arith}
use Rattle.explain.proofs.Sources.{listed, none_listed}
use Rattle.explain.proofs.graph.Graph.sources.Goals as goal

pub returns-then-j-len : goal.returns-then-j-len
returns-then-j-len c =
    let lists = c.self.inside.sources.items in
    rw (← c.self.view_is) (c.deref.ensures.value ∙ listed c.self.inside.code.now lists c.self.invariant c.args.j
    c.index.result.now (omega (arith, c.if-j-len.true, c.len.ensures)) c.index.ensures)

pub returns-else-j-len : goal.returns-else-j-len
returns-else-j-len c =
    let lists = c.self.inside.sources.items in
    rw (← c.self.view_is) (none_listed c.self.inside.code.now lists c.self.invariant c.args.j
    (omega (arith, c.if-j-len.false, c.len.ensures)))
