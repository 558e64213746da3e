use Rattle.std.proofs.Common.{ap, ◌∙◌, arith, cond, get_or, false, None}
use Rattle.notes.proofs.Steps.{none_done, one_done, old_claim, if_marked}
use Rattle.notes.proofs.settling.keep_marked.Goals as goal

pub loop-k-init : goal.loop-k-init
loop-k-init c = none_done c.args.states.now (if_marked c.args.marks.now c.args.states.now)

pub loop-k-preserved : goal.loop-k-preserved
loop-k-preserved c =
    let old = c.args.states.now in
    let new = if_marked c.args.marks.now old in
    one_done old c.loop-k.states new c.loop-k.k c.if_marked.result
    (omega (arith, c.loop-k.invariant.long, c.loop-k-test.true))
    (c.if_marked.ensures ∙ ap (λ o. cond (get_or c.args.marks.now c.loop-k.k false) o None)
    (c.state_of.ensures ∙ old_claim old c.loop-k.states new c.loop-k.k c.loop-k.invariant)) c.loop-k.invariant
