use Rattle.std.proofs.Common.{◌∙◌, ap, length, take, arith}
use Rattle.std.proofs.{lemmas.List.take_rest, lemmas.List.length-drop, lemmas.Result.err_from_is_err_and}
use Rattle.rules.proofs.LinesRead.{read_more, read_refused}
use Rattle.rules.proofs.reading.lines.add_lines.Goals as goal

pub loop-start-preserved : goal.loop-start-preserved
loop-start-preserved c =
    let text = c.args.text.now in
    let start = c.loop-start.start in
    let end = c.line_length-end.result in
    let rest = take_rest text start in
    let place = rw rest at c.line_length-end.ensures.is in
    let size = ap length rest ∙ length-drop start text in
    record {
      within = omega arith;
      counted = omega arith;
      read = read_more text _ _ _ c.loop-start.number start end (omega arith) place (ap (take end) rest)
          c.in_ok-add_line.ensures.ok c.loop-start.invariant.read;
    }

pub returns-in_err-add_line-clause-err : goal.returns-in_err-add_line-clause-err
returns-in_err-add_line-clause-err c =
    let text = c.args.text.now in
    let start = c.loop-start.start in
    let end = c.line_length-end.result in
    let rest = take_rest text start in
    let place = rw rest at c.line_length-end.ensures.is in
    let p = err_from_is_err_and c.from_residual.result c.from_residual.ensures.1 in
    rw (p.1, p.2)
    (λ other. read_refused text _ _ c.loop-start.number start end c.in_err-add_line.field-0.0 (omega arith) place
    (ap (take end) rest) (c.in_err-add_line.ensures.err other) c.loop-start.invariant.read)
