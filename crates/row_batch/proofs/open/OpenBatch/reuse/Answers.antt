use Rattle.std.proofs.Common.{◌∙◌}
use Rattle.row_batch.proofs.OpenLaws.{still_none}
use Rattle.row_batch.proofs.open.OpenBatch.reuse.Goals as goal

pub returns : goal.returns
returns c =
    let inside = c.self.inside in
    still_none inside.base inside.count inside.latest inside.bytes.items c.truncate.new.self.items c.self.invariant
    (c.self.view_is ∙ c.requires)
