use Rattle.machine_spec.specs.Image.{program_of}
use Rattle.program_table.proofs.admission.admit.Goals as goal

pub returns-in-Err-clause-refused : goal.returns-in-Err-clause-refused
returns-in-Err-clause-refused c = c.refusal_of.ensures (program_of c.args.image.now c.args.table) c.in-Err.ensures
