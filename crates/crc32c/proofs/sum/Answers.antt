use Rattle.std.proofs.Common.{◌≡◌, arith, ◌∙◌, length, ◌/◌}
use Rattle.std.specs.List.{concat}
use Rattle.crc32c.specs.Register.{register_after}
use Rattle.crc32c.proofs.{Folding.after_window-none, Steps.checksum_is, Steps.each_below, Blocks.after-blocks}
use Rattle.crc32c.proofs.Blocks.{blocks-are}
use Rattle.crc32c.proofs.sum.Goals.{then-blocks-lt-SOME, else-blocks-lt-SOME+then-blocks-lt-MANY}
use Rattle.crc32c.proofs.sum.Goals.{else-blocks-lt-SOME+else-blocks-lt-MANY}
use Rattle.crc32c.proofs.sum.Goals as goal

pub returns : goal.returns
returns c =
    let bytes = c.args.bytes.now in
    let blocks = c.as_chunks.result.0.now in
    let rest = c.as_chunks.result.1.now in
    let are = blocks-are (length bytes / 16) bytes blocks c.as_chunks.ensures.front (omega arith)
    (each_below bytes (λ i. omega (arith, c.type_inv.bytes i))) in
    let r-is : c.if-blocks-lt-SOME.r ≡ register_after 0xFFFF_FFFF (concat blocks) =
    elim c.if-blocks-lt-SOME.branch [
      | then-blocks-lt-SOME w ↦ w.r-is ∙ w.after_blocks-r.ensures
      | else-blocks-lt-SOME+then-blocks-lt-MANY w ↦ w.r-is ∙ w.after_some.ensures
          ∙ after_window-none 14 39 54 144 0xFFFF_FFFF blocks are.0 are.1
      | else-blocks-lt-SOME+else-blocks-lt-MANY w ↦ w.r-is ∙ w.after_many.ensures
          ∙ after_window-none 127 366 945 961 0xFFFF_FFFF blocks are.0 are.1
    ] in
    let whole = after-blocks 0xFFFF_FFFF 16 (length bytes / 16) bytes rest blocks c.as_chunks.ensures.front
    c.as_chunks.ensures.back in
    cc (checksum_is bytes (λ i. omega (arith, c.type_inv.bytes i)))
