use Rattle.std.proofs.Common.{arith, ◌<◌, ◌+◌, ◌*◌, length}
use Rattle.script.proofs.Reading.{pair-read, pairs-odd}
use Rattle.script.proofs.pairs.decoded.Goals as goal

pub loop-place-preserved : goal.loop-place-preserved
loop-place-preserved c =
    let inside : 2 * c.loop-place.place + 1 < length c.args.text.now = omega arith in
    rw c.in_ok-push.ensures.items (pair-read c.args.text.now c.loop-place.bytes.items c.loop-place.place c.in-Some.byte
    inside c.loop-place.invariant c.in-Some.ensures)

pub returns-then-text-eq1 : goal.returns-then-text-eq1
returns-then-text-eq1 c = pairs-odd c.args.text.now c.loop-place.bytes.items c.loop-place.place (omega arith)
    c.loop-place.invariant
