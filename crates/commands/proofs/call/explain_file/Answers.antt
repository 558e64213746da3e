use Rattle.std.proofs.Common.{refl}
use Rattle.program_file.specs.Choice.{program_in}
use Rattle.commands.specs.Explanations.{PrintsExplanation}
use Rattle.commands.proofs.GivenLaws.{prints_given, prints_none}
use Rattle.commands.proofs.call.explain_file.Goals as goal

pub returns-in-Ok : goal.returns-in-Ok
returns-in-Ok g c =
    prints_given g.F.Files.bytes g.O.Write.contents c.args.host.now _ c.args.name.now c.args.named
    c.explain_given.result (λ given. PrintsExplanation c.args.extent (program_in given))
    (record { files = c.read_program.ensures.kept; stdin = refl }) c.in-Ok.given c.in-Ok.ensures.given
    c.explain_given.ensures

pub returns-in-Err : goal.returns-in-Err
returns-in-Err g c =
    prints_none g.F.Files.bytes g.O.Write.contents c.args.host.now _ c.args.name.now c.args.named
    c.tell_ungiven.result (λ given. PrintsExplanation c.args.extent (program_in given))
    (record { files = c.read_program.ensures.kept; stdin = refl }) c.in-Err.ungiven c.in-Err.ensures.given
    c.tell_ungiven.ensures refl
