use Rattle.std.proofs.Common.{◌∙◌, lit<, lit≤}
use Rattle.crc32c.proofs.Sparse.{near_multiple}
use Rattle.crc32c.proofs.window.after_some.Goals as goal

pub shortened-requires : goal.shortened-requires
shortened-requires c = (lit< tt, (near_multiple, (lit≤ tt, (lit≤ tt, (lit≤ tt, c.requires)))))

pub returns : goal.returns
returns c = c.after_blocks.ensures ∙ c.shortened.ensures.sum
