use Rattle.std.proofs.Common.{◌≡◌, ◌*◌, ◌<◌, drop, take}
use Rattle.std.specs.{List.concat, Simd.Lanes.Each1}
use Rattle.crc32c.specs.Register.{register_after}
use Rattle.crc32c.specs.Window.{AreBlocks, after_window, window_at, later}
use Rattle.crc32c.proofs.window.with_window.Given as goal

abbrev pub invariant-loop-count : goal.invariant-loop-count
invariant-loop-count g l = record {
  left : after_window g.row.A g.row.B g.row.C g.row.D (register_after 0 (concat (take l.count l.sums)))
      (window_at g.row.REACH (16 * l.count) l.space) (drop l.count l.blocks)
      ≡ after_window g.row.A g.row.B g.row.C g.row.D 0 (window_at g.row.REACH 0 l.fn.space) l.fn.blocks;
  emptied : window_at g.row.REACH (16 * l.count) l.space ≡ later (16 * l.count) (window_at g.row.REACH 0 l.fn.space);
  bytes : Each1 (λ b. b < 256) l.fn.space;
  blocks : AreBlocks (take l.count l.sums);
}
