use Rattle.commands.proofs.FileLaws.{written_if, each_by}
use Rattle.commands.proofs.output_files.close_all.Goals as goal

pub returns-clause-held : goal.returns-clause-held
returns-clause-held g c = λ apart.
    written_if c.close_settled.result _ _ _ (g.F.Files.bytes c.close_settled.new.files) c.in_ok-settled.ensures.same (c.close_settled.ensures.held apart)

pub returns-clause-each : goal.returns-clause-each
returns-clause-each g c = λ apart.
    each_by _ _ _ (g.F.Files.bytes c.args.files.now) (g.F.Files.bytes c.close_settled.new.files)
    c.in_ok-settled.ensures.same (c.close_settled.ensures.each apart)
