use Rattle.batch_text.specs.Lines.{producer_part}
use Rattle.batch_text.proofs.TextLaws.{pushed_four, producer_is}
use Rattle.batch_text.proofs.fields.push_producer.Goals as goal

pub returns : goal.returns
returns c =
    pushed_four c.push_int-2.result _ _ _ _ _ _ _ _ _ (producer_part c.args.bytes.now) c.in_ok-push_int.ensures
    c.in_ok-push_long.ensures c.in_ok-push_short.ensures c.push_int-2.ensures (producer_is c.args.bytes.now)
