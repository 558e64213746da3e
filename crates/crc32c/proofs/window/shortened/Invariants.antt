use Rattle.std.proofs.Common.{◌≡◌, ◌≤◌, length}
use Rattle.crc32c.specs.Window.{after_window, window_at}
use Rattle.crc32c.proofs.window.shortened.Given as goal

abbrev pub invariant-loop-blocks : goal.invariant-loop-blocks
invariant-loop-blocks g l = record {
  left : after_window g.row.A g.row.B g.row.C g.row.D 0 (window_at g.row.REACH 0 l.space) l.blocks
      ≡ after_window g.row.A g.row.B g.row.C g.row.D l.fn.r 0 l.fn.blocks;
  enough : g.row.LAST ≤ length l.blocks;
}

abbrev pub decreases-loop-blocks : goal.decreases-loop-blocks
decreases-loop-blocks g l = length l.blocks
