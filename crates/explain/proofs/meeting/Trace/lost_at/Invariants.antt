use Rattle.std.proofs.Common.{◌≡◌, ◌-◌, length}
use Rattle.explain.specs.Meetings.{lost_within}
use Rattle.explain.proofs.meeting.Trace.lost_at.Given as goal

abbrev pub invariant-loop-step : goal.invariant-loop-step
invariant-loop-step l =
    let t = l.self in
    lost_within t.table t.graph.now t.states.now t.register (length t.graph.now) l.pc
    ≡ lost_within t.table t.graph.now t.states.now t.register (length t.graph.now - l._step) l.at
