use Rattle.std.proofs.Common.{ℕ, IfOk, subst}
use Rattle.machine_spec.specs.{declared.outcome.Outcome.Outcome, Image.Program, Image.program_of, Machine.Input}
use Rattle.machine_spec.specs.Meaning.{Means}
use Rattle.helpers.specs.Emitted.{emissions_in}
use Rattle.exec.specs.{declared.ending.Ending.Ending, Endings.outcome_with}
use Rattle.log_item.specs.Programs.{RunsSafely}
use Rattle.log_item.proofs.RunLaws.{run_means, run_safe}
use Rattle.log_item.proofs.program.Program.run_into.Goals as goal

pub returns-clause-means : goal.returns-clause-means
returns-clause-means c =
    let program : Program = program_of c.self.inside.image c.self.inside.verified.table in
    let input : Input = record { given = c.args.given.now; place = c.args.place.now } in
    let ran = c.run_into.ensures c.self.inside.image c.self.invariant in
    let outcome_in : Ending → Outcome = λ ending. outcome_with ending
    (emissions_in c.args.given.now c.run_into.new.emitted) in
    let means = run_means program input c.self.inside.verified.code c.self.inside.verified.claims ran.0 ran.1
    outcome_in c.run_into.result ran.2 in
    subst (λ (p : Program). IfOk c.run_into.result (λ (ending : Ending). (n : ℕ) × Means p input (outcome_in ending) n))
    c.self.view_is means

pub returns-clause-safe : goal.returns-clause-safe
returns-clause-safe c =
    let program : Program = program_of c.self.inside.image c.self.inside.verified.table in
    let input : Input = record { given = c.args.given.now; place = c.args.place.now } in
    let ran = c.run_into.ensures c.self.inside.image c.self.invariant in
    let safe = run_safe program input c.self.inside.verified.code c.self.inside.verified.claims ran.0 ran.1
    c.self.invariant in
    (ran.0, subst (λ (p : Program). RunsSafely p input ran.0) c.self.view_is safe, ran.2)
