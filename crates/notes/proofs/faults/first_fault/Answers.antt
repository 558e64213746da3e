use Rattle.std.proofs.Common.{sym, ◌∙◌}
use Rattle.machine_spec.specs.Image.{helpers_of}
use Rattle.notes.proofs.Loop.{reported_here, passed_here, proper_more}
use Rattle.notes.proofs.faults.first_fault.Goals as goal

pub returns-in-Some-clause-fault : goal.returns-in-Some-clause-fault
returns-in-Some-clause-fault c =
    sym (c.loop-k.invariant.rest
    ∙ reported_here (helpers_of c.args.table) c.args.code.now c.args.claims.now c.loop-k.k c.get.result c.in-Some.kind
    c.get.ensures.is_at (sym c.in-Some.ensures.failed))

pub loop-k-preserved : goal.loop-k-preserved
loop-k-preserved c = record {
  rest =
      c.loop-k.invariant.rest
      ∙ passed_here (helpers_of c.args.table) c.args.code.now c.args.claims.now c.loop-k.k c.get.result
      c.get.ensures.is_at (sym c.in_default.ensures.failed);
  proper = proper_more c.args.claims.now c.loop-k.k c.loop-k.invariant.proper c.in_default.ensures.proper;
}
