use Rattle.std.proofs.Common.{refl}
use Rattle.program_file.specs.Choice.{program_in}
use Rattle.commands.specs.Images.{PrintsCheck}
use Rattle.commands.proofs.GivenLaws.{prints_none}
use Rattle.commands.proofs.call.check_file.Goals as goal

pub returns-in-Err : goal.returns-in-Err
returns-in-Err g c =
    prints_none g.F.Files.bytes g.O.Write.contents c.args.host.now _ c.args.name.now c.args.named c.tell_ungiven.result
    (λ given. PrintsCheck (program_in given)) (record { files = c.read_program.ensures.kept; stdin = refl })
    c.in-Err.ungiven c.in-Err.ensures.given c.tell_ungiven.ensures refl
