use Rattle.machine_spec.specs.Image.{helpers_of}
use Rattle.verifier_spec.specs.Annotation.{claim_at}
use Rattle.notes.specs.Derived.{derived_at}
use Rattle.notes.proofs.Steps.{AreDone, HasFollowed}
use Rattle.notes.proofs.settling.derive.Given as goal

abbrev pub invariant-loop-k : goal.invariant-loop-k
invariant-loop-k l = record {
  done : AreDone l.initial.states l.states (derived_at (helpers_of l.table) l.code (claim_at l.initial.states)) l.k;
  followed : HasFollowed (helpers_of l.table) l.code l.initial.states l.follows l.k;
}
