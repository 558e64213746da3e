use Rattle.std.proofs.Common.{refl}
use Rattle.command_line.specs.Calls.{names_of}
use Rattle.commands.proofs.{CallLaws.told_as, CallLaws.left_all, CallLaws.kept_all, FileLaws.sources_kept}
use Rattle.commands.proofs.transforming.transform.Goals as goal

pub returns-in-Ok-clause-written : goal.returns-in-Ok-clause-written
returns-in-Ok-clause-written g c = λ tells some few. c.in-Ok.ensures.written tells

pub returns-in-Err-clause-written : goal.returns-in-Err-clause-written
returns-in-Err-clause-written g c = λ tells some few.
    told_as _ _ _ (g.F.Files.bytes c.args.host.now.files) (g.F.Files.bytes c.transform_files.new.host.files) _ _
    (c.in-Err.ensures.written tells) c.tell_halt.ensures

pub returns-then-words-lt3-clause-leaves : goal.returns-then-words-lt3-clause-leaves
returns-then-words-lt3-clause-leaves g c = λ tells.
    left_all c.args.named (names_of c.args.words.now) (g.F.Files.bytes c.args.host.now.files)
    (g.F.Files.bytes c.args.host.now.files) (λ name. refl) (g.I.Read.remaining c.args.host.now.stdin)

pub returns-then-words-lt3-clause-refused : goal.returns-then-words-lt3-clause-refused
returns-then-words-lt3-clause-refused g c =
    kept_all c.args.named (names_of c.args.words.now) (g.F.Files.bytes c.args.host.now.files)
    (g.F.Files.bytes c.args.host.now.files) (λ name. refl)

pub returns-in-Err-clause-sources : goal.returns-in-Err-clause-sources
returns-in-Err-clause-sources g c = λ tells.
    sources_kept (names_of c.args.words.now) (c.in-Err.ensures.parts tells) c.in-Err.ensures.kept
