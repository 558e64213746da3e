use Rattle.batch_text.specs.Lines.{time_part}
use Rattle.batch_text.proofs.TextLaws.{pushed, time_is}
use Rattle.batch_text.proofs.fields.push_times.Goals as goal

pub returns : goal.returns
returns c =
    pushed c.push_long-2.result _ _ _ _ _ (time_part c.args.bytes.now) c.in_ok-push_long.ensures c.push_long-2.ensures
    (time_is c.args.bytes.now)
