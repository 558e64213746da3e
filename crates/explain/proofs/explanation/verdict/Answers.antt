use Rattle.machine_spec.specs.Image.{program_of}
use Rattle.explain.proofs.explanation.verdict.Goals as goal

pub returns-in-Err : goal.returns-in-Err
returns-in-Err c = c.verdict_of.ensures (program_of c.args.image.now c.args.table) c.in-Err.ensures.answer
