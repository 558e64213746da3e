use Rattle.std.proofs.Common.{◌≡◌, ℕ, Bool, ◌&&◌, nat_lt, drop, find}
use Rattle.explain.specs.{Graphs.sources_of, Meetings.passes}
use Rattle.explain.proofs.meeting.Trace.first_jump.Given as goal

abbrev pub invariant-loop-k : goal.invariant-loop-k
invariant-loop-k l =
    let t = l.self in
    let test : ℕ → Bool = λ k. nat_lt k l.j && passes t.table t.graph.now t.states.now t.register l.other l.j k in
    find test (sources_of t.graph.now l.j) ≡ find test (drop l.k-index (sources_of t.graph.now l.j))
