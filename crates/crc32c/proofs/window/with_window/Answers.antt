use Rattle.std.proofs.Common.{◌≡◌, ◌+◌, ◌-◌, ◌*◌, ◌≤◌, [], ◌∷◌, length, get_or, drop, take, replicate, refl, sym}
use Rattle.std.proofs.Common.{◌∙◌, ap, arith, div-one, drop_of_length-le}
use Rattle.std.proofs.{Math.Seq.take-length, lemmas.List.drop_more, lemmas.Grind.take-set_at}
use Rattle.std.specs.List.{concat}
use Rattle.crc32c.specs.Register.{register_after}
use Rattle.crc32c.specs.Window.{window_at}
use Rattle.crc32c.proofs.{Folding.after_window-end, Steps.each_below, Blocks.after-one_more, Blocks.blocks-more}
use Rattle.crc32c.proofs.Places.{after-block_number, later-one, put-stored, window_at-below, window_at-emptied}
use Rattle.crc32c.proofs.window.with_window.Goals as goal

pub loop-count-init : goal.loop-count-init
unfolding register_after
loop-count-init g c =
    record {
      left = refl;
      emptied = sym (div-one (window_at g.row.REACH 0 c.args.space.now));
      bytes = each_below c.args.space.now (λ i. omega (arith, c.type_inv.space i));
      blocks = (refl, tt);
    }

pub loop-count-preserved : goal.loop-count-preserved
loop-count-preserved g c =
    let n = g.row.REACH in
    let count = c.loop-count.count in
    let place = 16 * count in
    let end = place + n in
    let space = c.loop-count.space in
    let sums = c.loop-count.sums in
    let blocks = c.args.blocks.now in
    let taken = c.folded.result in
    let others = drop (count + 1) blocks in
    let room : length space ≡ length c.args.space.now = c.loop-count.auto.space in
    let many : length sums ≡ length c.args.sums.now = c.loop-count.auto.sums in
    let within : end + 16 ≤ length space = omega arith in
    let on : 16 * (count + 1) ≡ place + 16 = omega arith in
    let split : drop count blocks ≡ get_or blocks count [] ∷ others =
    drop_more blocks count [] c.loop-count-test.true in
    let stored = put-stored end (end + 16 - end) space (replicate 16 0) c.copy_from_slice.new.self within
    c.copy_from_slice.ensures.after refl in
    let gone = window_at-emptied n place space _ (omega arith) within c.folded.ensures.bytes stored in
    let more = take-set_at sums count (count + 1) taken refl (omega arith) in
    let r = register_after 0 (concat (take count sums)) in
    let next = after-one_more 0 (take count sums) taken ∙ after-block_number r taken c.folded.ensures.fits in
    rw (on, more) (record {
      left = rw (next, gone, ← c.folded.ensures.next r others, ← split) c.loop-count.invariant.left;
      emptied = rw (gone, c.loop-count.invariant.emptied, later-one);
      bytes = c.loop-count.invariant.bytes;
      blocks = blocks-more (take count sums) taken c.loop-count.invariant.blocks c.folded.ensures.fits;
    })

pub returns : goal.returns
returns g c =
    let n = g.row.REACH in
    let count = c.loop-count.count in
    let sums = c.loop-count.sums in
    let blocks = c.args.blocks.now in
    let window = window_at n 0 c.args.space.now in
    let many : length sums ≡ length c.args.sums.now = c.loop-count.auto.sums in
    let all : count ≡ length sums = omega arith in
    let whole : take count sums ≡ sums = ap (λ k. take k sums) all ∙ take-length sums in
    let none : drop count blocks ≡ [] = drop_of_length-le blocks (omega arith) in
    let below = window_at-below n 0 c.args.space.now (omega arith) c.loop-count.invariant.bytes in
    let end = after_window-end g.row.A g.row.B g.row.C g.row.D n (16 * count)
    (register_after 0 (concat (take count sums))) window (omega arith) below in
    let left = rw (c.loop-count.invariant.emptied, none) at c.loop-count.invariant.left in
    record {
      sum = ap (λ l. register_after 0 (concat l)) (sym whole) ∙ sym end ∙ left;
      blocks = rw whole at c.loop-count.invariant.blocks;
    }
