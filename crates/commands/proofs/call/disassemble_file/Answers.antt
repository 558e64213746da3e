use Rattle.std.proofs.Common.{None, refl}
use Rattle.commands.specs.Texts.{PrintsAs, disassembly}
use Rattle.commands.proofs.GivenLaws.{prints_none}
use Rattle.commands.proofs.call.disassemble_file.Goals as goal

pub returns-in-Err : goal.returns-in-Err
returns-in-Err g c =
    prints_none g.F.Files.bytes g.O.Write.contents c.args.host.now _ c.args.name.now None c.tell_ungiven.result
    (λ given. PrintsAs (λ text. text) (disassembly given.image))
    (record { files = c.read_program.ensures.kept; stdin = refl }) c.in-Err.ungiven c.in-Err.ensures.given
    c.tell_ungiven.ensures refl
