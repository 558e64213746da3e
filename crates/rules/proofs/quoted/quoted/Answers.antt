use Rattle.std.proofs.Common.{sym}
use Rattle.rules.proofs.Quotes.{closes, is_bad, goes_on, is_long}
use Rattle.rules.proofs.quoted.quoted.Goals as goal

pub returns-in-Some : goal.returns-in-Some
returns-in-Some c =
    closes c.loop.bytes.items c.args.room c.loop.counter c.args.left c.loop.rest.now c.in-Some.after.now _
    c.loop.invariant c.loop-test.true (sym c.in-Some.ensures)

pub returns-in_default-char_at : goal.returns-in_default-char_at
returns-in_default-char_at c =
    λ other. is_bad c.loop.bytes.items c.args.room c.loop.counter c.args.left c.loop.rest.now _ c.loop.invariant
    c.loop-test.true (sym c.in_default.ensures) (sym c.in_default-char_at.ensures)

pub loop-preserved : goal.loop-preserved
loop-preserved c =
    rw c.in_ok-push.ensures.items (goes_on c.loop.bytes.items c.args.room c.loop.counter c.args.left
    c.in-Some-char_at.byte c.loop.rest.now c.in-Some-char_at.after.now _ c.loop.invariant c.loop-test.true
    (sym c.in_default.ensures) (sym c.in-Some-char_at.ensures))

pub returns : goal.returns
returns c = λ other. is_long c.loop.bytes.items c.args.room c.loop.counter c.args.left c.loop.rest.now _
    c.loop.invariant c.loop-test.false
