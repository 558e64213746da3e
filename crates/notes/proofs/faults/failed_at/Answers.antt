use Rattle.std.proofs.Common.{sym, ◌∙◌, Some, None}
use Rattle.machine_spec.specs.Image.{helpers_of}
use Rattle.notes.proofs.Order.{shape_reported, shape_passed}
use Rattle.notes.proofs.faults.failed_at.Goals as goal

pub returns-in-Some-clause-failed : goal.returns-in-Some-clause-failed
returns-in-Some-clause-failed c =
    sym (shape_reported (helpers_of c.args.table) c.args.code.now c.args.claims.now c.args.k c.args.placed
    c.in-Some.check (sym c.in-Some.ensures))

pub returns-in-Some-claim_at-clause-failed : goal.returns-in-Some-claim_at-clause-failed
returns-in-Some-claim_at-clause-failed c =
    c.failed_reached.ensures.failed
    ∙ sym (shape_passed (helpers_of c.args.table) c.args.code.now c.args.claims.now c.args.k c.args.placed
    (Some c.in-Some-claim_at.state.now) (sym c.in_default.ensures) (sym c.in-Some-claim_at.ensures))

pub returns-in-None-clause-failed : goal.returns-in-None-clause-failed
returns-in-None-clause-failed c =
    sym (shape_passed (helpers_of c.args.table) c.args.code.now c.args.claims.now c.args.k c.args.placed None
    (sym c.in_default.ensures) (sym c.in-None.ensures))
