use Rattle.std.proofs.Common.{arith}
use Rattle.batch.proofs.Written.{length_more}
use Rattle.batch.proofs.limits.records_len.Goals as goal

pub loop-place-preserved : goal.loop-place-preserved
loop-place-preserved c =
    record {
      size = length_more c.args.records.now c.loop-place.place c.loop-place.len c.record_len-len.result
          c.index-records-place.result c.loop-place-test.true c.index-records-place.is c.loop-place.invariant.size
          c.record_len-len.ensures.size;
      small = omega (arith, c.loop-place.invariant.small, c.record_len-len.ensures.small);
    }
