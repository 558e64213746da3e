use Rattle.std.proofs.Common.{false, sym, ◌∙◌}
use Rattle.machine_spec.specs.Image.{helpers_of}
use Rattle.notes.proofs.Order.{check_reported, edges_reported}
use Rattle.notes.proofs.faults.failed_reached.Goals as goal

pub returns-in-Some-clause-failed : goal.returns-in-Some-clause-failed
returns-in-Some-clause-failed c =
    sym (check_reported (helpers_of c.args.table) c.args.code.now c.args.claims.now c.args.k c.args.placed
    c.args.state.now c.in-Some.check (sym c.in-Some.ensures.failed))

pub returns-else-are_edges_covered-clause-failed : goal.returns-else-are_edges_covered-clause-failed
returns-else-are_edges_covered-clause-failed c =
    sym
    (edges_reported (helpers_of c.args.table) c.args.code.now c.args.claims.now c.args.k c.args.placed
    c.args.state.now false
    (sym c.check.ensures.failed ∙ c.in_default.is)
    (sym c.are_edges_covered.ensures ∙ c.if-are_edges_covered.false))
