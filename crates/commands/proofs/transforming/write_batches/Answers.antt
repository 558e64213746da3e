use Rattle.std.proofs.Common.{arith, inl, inr}
use Rattle.command_line.specs.Calls.{names_of}
use Rattle.commands.proofs.FileLaws.{wrote, wrote_none, many_names}
use Rattle.commands.proofs.transforming.write_batches.Goals as goal

pub returns-in-Ok-clause-written : goal.returns-in-Ok-clause-written
returns-in-Ok-clause-written g c = λ tells bytes known.
    wrote _ _ c.run-ended.result c.run-ended.new.stream (record {
      law = c.rows_of_a_log.ensures;
      new = c.in-Ok.ensures.fresh tells;
      reader_is = known;
      start_is = c.new-stream.ensures;
    }) (omega (arith, many_names c.args.words.now, c.in-Ok.ensures.count)) c.run-ended.ensures _ _
    (g.F.Files.bytes c.finish.new.files) _ c.in-Ok.ensures.kept
    (rw c.ending_of-ending.ensures at (c.finish.ensures.held (c.in-Ok.ensures.apart tells)))
    (rw c.ending_of-ending.ensures at (c.finish.ensures.each (c.in-Ok.ensures.apart tells)))

pub returns-in-Err-clause-written : goal.returns-in-Err-clause-written
returns-in-Err-clause-written g c = λ tells bytes known.
    wrote_none c.args.program.now bytes (names_of c.args.words.now) _ c.in-Err.ensures.err c.in-Err.ensures.kept

pub returns-in-Ok-clause-parts : goal.returns-in-Ok-clause-parts
returns-in-Ok-clause-parts g c = λ tells. inr (c.in-Ok.ensures.apart tells)

pub returns-in-Err-clause-parts : goal.returns-in-Err-clause-parts
returns-in-Err-clause-parts g c = λ tells. inl c.in-Err.ensures.kept
