use Rattle.commands.proofs.FileLaws.{when_ok}
use Rattle.commands.proofs.output_files.begin_all.Goals as goal

pub returns-in-Ok-clause-apart : goal.returns-in-Ok-clause-apart
returns-in-Ok-clause-apart g c = λ tells. when_ok c.create_all.result (c.in-Ok.ensures.apart tells)
