use Rattle.std.proofs.Common.{◌∙◌, ap, arith}
use Rattle.crc32c.specs.Window.{after_window}
use Rattle.crc32c.proofs.Folding.{after_window-start}
use Rattle.crc32c.proofs.window.shortened.Goals as goal

pub loop-blocks-init : goal.loop-blocks-init
loop-blocks-init g c =
    record {
      left = ap (λ w. after_window g.row.A g.row.B g.row.C g.row.D 0 w c.args.blocks.now) c.put_register.ensures
          ∙ after_window-start c.requires.multiple c.args.r c.args.blocks.now (omega arith);
      enough = omega arith;
    }
