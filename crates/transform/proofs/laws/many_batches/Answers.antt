use Rattle.transform.proofs.FollowLaws.{none_follows, one_follows, one_stops, end_finishes, end_counts, end_stops}
use Rattle.transform.proofs.laws.many_batches.Goals as goal

pub returns : goal.returns
returns c = record {
  none = none_follows;
  more = one_follows;
  stop = one_stops;
  end = end_finishes;
  counts = end_counts;
  end_stop = end_stops;
}
