use Rattle.std.proofs.Common.{◌≡◌, ℕ, Some, sym, ap, subst, option_map}
use Rattle.wire_spec.specs.declared.record.Record.{Record}
use Rattle.machine_spec.specs.Meaning.{Means}
use Rattle.helpers.specs.Emitted.{emissions_in}
use Rattle.exec.specs.Endings.{outcome_with}
use Rattle.log_spec.specs.Logs.{rows_of, IsRecordRows}
use Rattle.fates.specs.{declared.fate.Fate.Fate, Fates.fate_of, Fates.IsFate}
use Rattle.item_rows.specs.{ItemRows.Adds, Blocks.program_in}
use Rattle.item_rows.proofs.RowLaws.{if_ok, outcome_rows, record_made}
use Rattle.item_rows.proofs.batch_run.BatchRun.push_record.Goals as goal

pub returns-in_ok-ending-in-Some : goal.returns-in_ok-ending-in-Some
returns-in_ok-ending-in-Some c =
    let run = c.args.self.now in let first = run.first in let program = c.in-Some.program.now in let place =
    c.args.place.now in let given = c.args.given.now in
    let one = c.args.all.now in let two = c.push_outcome.new.all in let outcome =
    outcome_with c.in_ok-ending-in-Some.ending (emissions_in given c.run_into.new.emitted) in
    let in_force = program_in run in
    let ran = subst (λ (g : Record). (n : ℕ) × Means program (record { given = g; place = place })
    (outcome_with c.in_ok-ending-in-Some.ending (emissions_in g c.run_into.new.emitted)) n) c.record.ensures
    c.in_ok-ending-in-Some.ensures.means in
    if_ok c.push_outcome.result (λ (f : Fate). (f ≡ fate_of outcome)
    × Adds first one two (λ q here. here ≡ rows_of q place outcome))
    (λ (f : Fate). IsFate in_force place given f
    × Adds first one two (λ q here. IsRecordRows q in_force place given here)) c.push_outcome.ensures
    (λ f made. record_made first (Some program) in_force place given f one two
    (sym (ap (option_map (λ p. p.now)) c.in-Some.is)) (outcome, ran.0, ran.1, made.0)
    (outcome_rows first program place given outcome ran.0 one two ran.1 made.1))
