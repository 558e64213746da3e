use Rattle.std.proofs.Common.{◌≡◌, ap, sym, ◌∙◌}
use Rattle.script.specs.Words.{texts, words_of}
use Rattle.commands.proofs.RecheckLaws.{line_told, file_refused}
use Rattle.commands.proofs.rechecking.recheck_line.Goals as goal

pub returns-in-Ok-clause-told : goal.returns-in-Ok-clause-told
returns-in-Ok-clause-told g c =
    let second : texts c.deref-2.result.now ≡ words_of c.args.line.now = ap texts c.deref-2.ensures.value
    ∙ c.in_ok-words.ensures in
    let first : texts c.deref.result.now ≡ words_of c.args.line.now = ap texts c.deref.ensures.value
    ∙ c.in_ok-words.ensures in
    line_told _ _ _ _ _ _ _ _ (record {
      file_is = rw (← second) (sym c.piece-name.ensures);
      table_is = rw (← first) (sym c.in-Some.ensures.table);
    }) c.in-Ok.ensures.given c.recheck_given.ensures

pub returns-clause-told : goal.returns-clause-told
returns-clause-told g c =
    let second : texts c.deref-2.result.now ≡ words_of c.args.line.now = ap texts c.deref-2.ensures.value
    ∙ c.in_ok-words.ensures in
    let first : texts c.deref.result.now ≡ words_of c.args.line.now = ap texts c.deref.ensures.value
    ∙ c.in_ok-words.ensures in
    file_refused _ _ _ _ _ _ _ (record {
      file_is = rw (← second) (sym c.piece-name.ensures);
      table_is = rw (← first) (sym c.in-Some.ensures.table);
    }) c.in-Err.ensures.given c.refuse_file.ensures
