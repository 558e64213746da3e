use Rattle.std.proofs.Common.{◌∙◌, sym, ap, not}
use Rattle.program_file.proofs.Searches.{none_found, not_twice}
use Rattle.program_file.proofs.fitting.is_one_line.Goals as goal

pub returns : goal.returns
returns c =
    not_twice c.is_none.result
    ∙ ap not (sym c.is_none.ensures) ∙ none_found 10 c.args.text.now c.memchr.result c.memchr.ensures
