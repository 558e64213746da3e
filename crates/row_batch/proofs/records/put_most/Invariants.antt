use Rattle.row_batch.proofs.{Places.part, RoomLaws.SoFar}
use Rattle.row_batch.proofs.records.put_most.Given as goal

-- the first rows so far are at the end, and have room in one batch
abbrev pub invariant-loop-count : goal.invariant-loop-count
invariant-loop-count g l =
    SoFar l.base (part (g.L.RowList.rows l.rows) l.first l.most) l.count l.latest l.fn.out.items l.out.items
