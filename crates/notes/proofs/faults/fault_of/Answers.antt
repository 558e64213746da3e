use Rattle.std.proofs.Common.{sym, ◌∙◌, length}
use Rattle.verifier_spec.specs.{States.entry_state, Annotation.claim_at, Annotation.is_covered}
use Rattle.notes.proofs.Loop.{proper_started}
use Rattle.notes.proofs.faults.fault_of.Goals as goal

pub returns-clause-proper : goal.returns-clause-proper
returns-clause-proper c =
    proper_started c.args.claims.now (length c.args.code.now) (is_covered entry_state (claim_at c.args.claims.now 0))
    c.first_fault.result
    (sym c.has_start.ensures ∙ c.if-not-has_start.false) c.first_fault.ensures.proper
