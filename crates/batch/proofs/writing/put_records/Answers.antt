use Rattle.batch.proofs.Written.{items_more}
use Rattle.batch.proofs.writing.put_records.Goals as goal

pub loop-place-preserved : goal.loop-place-preserved
loop-place-preserved c =
    items_more c.args.records.now c.loop-place.place c.index-records-place.result c.args.out.now.items
    c.loop-place.out.items c.put_record.new.out.items c.loop-place-test.true c.index-records-place.is
    c.loop-place.invariant c.in_ok-put_record.ensures
