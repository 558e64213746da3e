-- A call that moves a walk on moves it by one item.
use Rattle.std.proofs.Common.{Bool, true, false}
use Rattle.part_log.specs.Parts.{Log, CellNote}
use Rattle.worker.specs.Walks.{NextIs}
use Rattle.broker_fixtures.specs.Advances.{Advances}

pub advances : (old : Log) (note : CellNote) (moves : Bool) (new : Log) (after : CellNote) →
    NextIs old note moves new after → Advances old moves new
advances old note true new after next = (next.0, next.2)
advances old note false new after next = next.1
