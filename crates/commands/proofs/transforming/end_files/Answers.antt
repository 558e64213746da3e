use Rattle.std.proofs.Common.{inr, rules}
use Rattle.commands.proofs.transforming.end_files.Goals as goal

pub returns-then-keeps_rows-clause-each : goal.returns-then-keeps_rows-clause-each
returns-then-keeps_rows-clause-each g c = λ apart.
    inr (search rules, rw c.into_outlets.ensures at (c.close_all.ensures.each apart))
