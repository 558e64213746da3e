use Rattle.std.proofs.Common.{ℕ, List, [], ap, ◌∙◌, Option}
use Rattle.batch.specs.Streams.{Open}
use Rattle.batch_reader.specs.Readings.{inlet, none_given}
use Rattle.commands.proofs.transforming.write_files.Goals as goal

pub returns-in-Ok-clause-written : goal.returns-in-Ok-clause-written
returns-in-Ok-clause-written g c = λ tells bytes known.
    c.write_batches.ensures.written tells bytes
    (c.in-Ok.ensures ∙ ap (λ (r : Option (List ℕ)). inlet (Open []) r none_given) known)
