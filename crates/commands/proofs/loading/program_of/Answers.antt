use Rattle.std.proofs.Common.{rules}
use Rattle.annotate.specs.Loads.{FaultIs}
use Rattle.program_file.specs.Choice.{program_in}
use Rattle.commands.proofs.loading.program_of.Goals as goal

pub returns-in-Err : goal.returns-in-Err
returns-in-Err c =
    let refused : FaultIs (program_in c.args.given.now) c.in-Err.fault = search rules in
    c.unloaded.ensures (program_in c.args.given.now) refused
