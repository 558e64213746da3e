use Rattle.std.proofs.Common.{◌≡◌, ◌≤◌, ◌+◌, ◌-◌, ◌*◌, List, ◌++◌, length, drop, ℕ}
use Rattle.std.specs.Simd.Lanes.{chunk}
use Rattle.crc32c.specs.Window.{after_window, window_at}
use Rattle.crc32c.proofs.window.fold.Given as goal

abbrev pub invariant-loop-count : goal.invariant-loop-count
invariant-loop-count g l = record {
  same : (rest : List (List ℕ)) → g.row.REACH ≤ 16 * length rest
      → after_window g.row.A g.row.B g.row.C g.row.D 0 (window_at g.row.REACH (16 * l.count) l.space)
      (drop l.count l.blocks ++ rest)
      ≡ after_window g.row.A g.row.B g.row.C g.row.D 0 (window_at g.row.REACH 0 l.fn.space) (l.fn.blocks ++ rest);
  before : l.before ≡ chunk (16 * l.count + (g.row.REACH - 32)) 16 l.space;
  last : l.last ≡ chunk (16 * l.count + (g.row.REACH - 16)) 16 l.space;
}
