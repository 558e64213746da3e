use Rattle.std.proofs.Common.{◌≡◌, ◌-◌, ◌++◌, take, replicate, ◌∙◌, length, rules}
use Rattle.row_batch.proofs.OpenLaws.{padded_short}
use Rattle.row_batch.proofs.front.ready.Goals as goal

pub returns-in_ok-resize-clause-ok : goal.returns-in_ok-resize-clause-ok
returns-in_ok-resize-clause-ok c =
    let old = c.args.bytes.now.items in
    let filled : c.resize.new.self.items ≡ take 61 old ++ replicate (61 - length old) 0 = search rules in
    filled ∙ padded_short old (search rules)
