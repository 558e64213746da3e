use Rattle.std.proofs.Common.{length, sym, ap, ◌∙◌, arith}
use Rattle.explain.proofs.Back.{none_left}
use Rattle.explain.proofs.meeting.Trace.lost_at.Goals as goal

pub returns : goal.returns
returns c =
    let t = c.args.self.now in
    sym (c.loop-step.invariant ∙ none_left t.table t.graph.now t.states.now t.register (length t.graph.now)
    c.loop-step._step c.loop-step.at (omega (arith, ap length c.code.ensures)))
