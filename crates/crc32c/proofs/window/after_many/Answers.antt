use Rattle.std.proofs.Common.{◌∙◌, lit<, lit≤}
use Rattle.crc32c.proofs.Folding.{after_window-none}
use Rattle.crc32c.proofs.Sparse.{far_multiple}
use Rattle.crc32c.proofs.window.after_many.Goals as goal

pub shortened-requires : goal.shortened-requires
shortened-requires c = (lit< tt, (far_multiple, (lit≤ tt, (lit≤ tt, (lit≤ tt, c.requires)))))

pub returns : goal.returns
returns c =
    let are = c.shortened.ensures.blocks in
    c.after_some.ensures ∙ after_window-none 14 39 54 144 0 c.shortened.result are.0 are.1 ∙ c.shortened.ensures.sum
