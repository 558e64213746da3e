use Rattle.command_line.specs.Calls.{names_of}
use Rattle.commands.proofs.CallLaws.{called, called_leaves, loaded_accepted, uncalled, left_all, kept_all}
use Rattle.commands.proofs.FileLaws.{parts_after}
use Rattle.commands.proofs.transforming.transform_files.Goals as goal

pub returns-in-Ok-clause-written : goal.returns-in-Ok-clause-written
returns-in-Ok-clause-written g c = λ tells.
    called c.args.named (names_of c.args.words.now) (g.F.Files.bytes c.args.host.now.files) _ c.name_at.ensures _ _
    (g.F.Files.bytes c.write_source.new.host.files) _ c.in-Ok.program c.in-Ok.ensures.loaded c.in-Ok.ensures.kept
    (c.write_source.ensures.written tells)

pub returns-in-Ok-clause-leaves : goal.returns-in-Ok-clause-leaves
returns-in-Ok-clause-leaves g c = λ tells.
    called_leaves c.args.named (names_of c.args.words.now) (g.F.Files.bytes c.args.host.now.files) _ c.name_at.ensures _
    _ (g.F.Files.bytes c.write_source.new.host.files) _ c.in-Ok.program c.in-Ok.ensures.loaded c.in-Ok.ensures.kept
    (c.write_source.ensures.written tells)

pub returns-in-Ok-clause-parts : goal.returns-in-Ok-clause-parts
returns-in-Ok-clause-parts g c = λ tells.
    parts_after g.F.Files.leads (names_of c.args.words.now) c.in-Ok.ensures.kept (c.write_source.ensures.parts tells)

pub returns-in-Ok-clause-refused : goal.returns-in-Ok-clause-refused
returns-in-Ok-clause-refused g c =
    loaded_accepted c.args.named (names_of c.args.words.now) (g.F.Files.bytes c.args.host.now.files) _ c.name_at.ensures
    (g.F.Files.bytes c.write_source.new.host.files) c.in-Ok.program c.in-Ok.ensures.loaded

pub returns-in-Err-clause-written : goal.returns-in-Err-clause-written
returns-in-Err-clause-written g c = λ tells.
    uncalled c.args.named (names_of c.args.words.now) (g.F.Files.bytes c.args.host.now.files) _ c.name_at.ensures _
    (g.F.Files.bytes c.load_file.new.files) c.in-Err.halt c.in-Err.ensures.loaded

pub returns-in-Err-clause-leaves : goal.returns-in-Err-clause-leaves
returns-in-Err-clause-leaves g c = λ tells. left_all _ _ _ _ c.in-Err.ensures.kept _

pub returns-in-Err-clause-refused : goal.returns-in-Err-clause-refused
returns-in-Err-clause-refused g c =
    kept_all c.args.named (names_of c.args.words.now) (g.F.Files.bytes c.args.host.now.files)
    (g.F.Files.bytes c.load_file.new.files) c.in-Err.ensures.kept
