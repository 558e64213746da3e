use Rattle.std.proofs.Common.{Result, Ok, Err, subst, OnOk}
use Rattle.machine_spec.specs.Image.{Program}
use Rattle.exec.specs.{Endings.outcomes_of, Abreast.AreOutcomes}
use Rattle.log_item.specs.Programs.{RunsSafelyOnEach}
use Rattle.log_item.proofs.RunLaws.{runs_safe}
use Rattle.log_item.proofs.program.Program.run_block.Goals as goal

on_ok : {A E : Type 0} (result : Result A E) (P Q : Type 0) → (P → Q) → OnOk result P → OnOk result Q
on_ok (Ok value) P Q so p = so p
on_ok (Err fault) P Q so p = tt

pub returns-clause-safe : goal.returns-clause-safe
returns-clause-safe c =
    let given = c.args.given.now in let places = c.args.places.now in let verified = c.self.inside.verified in
    let outcomes = outcomes_of given c.run.new.self in
    on_ok c.run.result (AreOutcomes verified given places outcomes)
    (RunsSafelyOnEach c.args.self.now given places outcomes)
    (λ are. subst (λ (p : Program). RunsSafelyOnEach p given places outcomes) c.self.view_is
    (runs_safe verified c.self.inside.image given places outcomes c.self.invariant are)) c.run.ensures.outcomes
