use Rattle.std.proofs.Common.{◌≡◌, ◌+◌, take}
use Rattle.item_rows.specs.Blocks.{places_from}
use Rattle.item_rows.proofs.batch_run.BatchRun.places.Given as goal

abbrev pub invariant-loop-given : goal.invariant-loop-given
invariant-loop-given l =
    (l.next ≡ l.offset + l.given-index)
    × (l.places.items ≡ places_from l.self.origin.now.input l.self.origin.now.outputs l.self.batch.now l.offset
    (take l.given-index l.records))
