use Rattle.std.proofs.Common.{◌≡◌, ◌+◌, ◌-◌, ◌*◌, ◌≤◌, [], ◌∷◌, ◌++◌, length, get_or, drop, sym, ◌∙◌, ap, arith}
use Rattle.std.proofs.Common.{length-append, drop_of_length-le}
use Rattle.std.proofs.lemmas.List.{drop_more}
use Rattle.std.specs.Simd.Lanes.{chunk}
use borrow.Rule.Slice.PartMut.{put_mid}
use Rattle.crc32c.specs.Window.{after_window, window_at}
use Rattle.crc32c.proofs.Places.{fold-step, put-stored, last-stored, before-stored, window_at-front}
use Rattle.crc32c.proofs.window.fold.Goals as goal

pub loop-count-preserved : goal.loop-count-preserved
loop-count-preserved g c =
    let is = c.requires.multiple in
    let n = g.row.REACH in
    let count = c.loop-count.count in
    let place = 16 * count in
    let end = place + n in
    let space = c.loop-count.space in
    let blocks = c.args.blocks.now in
    let block = get_or blocks count [] in
    let taken = c.folded-taken.result in
    let room : length space ≡ length c.args.space.now = c.loop-count.auto.space in
    let within : end + 16 ≤ length space = omega arith in
    let after = put_mid end (end + 16 - end) space c.copy_from_slice.new.self in
    let on : place + 16 ≡ 16 * (count + 1) = omega arith in
    let before-on : place + (n - 16) ≡ 16 * (count + 1) + (n - 32) = omega arith in
    let last-on : end ≡ 16 * (count + 1) + (n - 16) = omega arith in
    let stored = put-stored end (end + 16 - end) space taken c.copy_from_slice.new.self within
    c.copy_from_slice.ensures.after c.folded-taken.ensures.fits.0 in
    let split : drop count blocks ≡ block ∷ drop (count + 1) blocks =
    drop_more blocks count [] c.loop-count-test.true in
    record {
      same = λ rest long.
          let others = drop (count + 1) blocks ++ rest in
          let enough : n ≤ 16 * length others = omega (arith, length-append (drop (count + 1) blocks) rest) in
          ap (λ p. after_window g.row.A g.row.B g.row.C g.row.D 0 (window_at n p after) others) (sym on)
          ∙ fold-step is place space block taken after others within c.folded-taken.ensures.bytes
          c.folded-taken.ensures.fits stored enough (c.folded-taken.ensures.next 0 others)
          ∙ rw split at (c.loop-count.invariant.same rest long);
      before = c.loop-count.invariant.last
          ∙ sym (before-stored end (place + (n - 16)) space taken after within (omega arith) stored)
          ∙ ap (λ p. chunk p 16 after) before-on;
      last = sym (last-stored end space taken after within stored) ∙ ap (λ p. chunk p 16 after) last-on;
    }

pub returns : goal.returns
returns g c rest long =
    let n = g.row.REACH in
    let count = c.loop-count.count in
    let space = c.loop-count.space in
    let blocks = c.args.blocks.now in
    let k = length blocks in
    let room : length space ≡ length c.args.space.now = c.loop-count.auto.space in
    let all : k ≡ count = omega arith in
    let none : drop count blocks ≡ [] = drop_of_length-le blocks (omega arith) in
    let front = window_at-front n (16 * k) (16 * k + n - 16 * k) space (omega arith) (omega arith) in
    rw (c.copy_within.ensures.after, front, all) (rw none at (c.loop-count.invariant.same rest long))
