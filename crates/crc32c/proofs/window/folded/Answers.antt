use Rattle.std.proofs.Common.{◌+◌, ◌≤◌, ℕ, arith, rules}
use Rattle.std.specs.Simd.Lanes.{chunk}
use Rattle.crc32c.specs.Window.{IsBlock}
use Rattle.crc32c.proofs.{Places.block_at, Places.folded_is, Places.six_blocks, Steps.each_below}
use Rattle.crc32c.proofs.window.folded.Goals as goal

pub returns : goal.returns
returns g c =
    let is = c.requires.multiple in
    let place = c.args.place in
    let space = c.args.space.now in
    let block = c.args.block.now in
    let fits = each_below space (λ i. omega (arith, c.type_inv.space i)) in
    let block-is : IsBlock block = (search rules, each_below block c.fits-block) in
    let at = λ (o : ℕ) (within : o + 16 ≤ g.row.REACH). block_at (place + o) space (omega arith) fits in
    let six = six_blocks (chunk place 16 space) (chunk (place + g.row.A) 16 space) (chunk (place + g.row.B) 16 space)
    (chunk (place + g.row.C) 16 space) (chunk (place + g.row.D) 16 space) block
    (block_at place space (omega arith) fits) (at g.row.A (omega arith)) (at g.row.B (omega arith))
    (at g.row.C (omega arith)) (at g.row.D (omega arith)) block-is in
    rw (c.load.ensures, c.load-2.ensures, c.load-3.ensures, c.load_or.ensures, c.load_or-2.ensures) (record {
      bytes = fits;
      fits = six.0;
      next = folded_is is place _ space block (omega arith) fits block-is six.1;
    })
