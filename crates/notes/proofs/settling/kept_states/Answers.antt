use Rattle.std.proofs.Common.{◌∙◌, arith, get_or, false}
use Rattle.notes.proofs.Steps.{kept_step, kept_all}
use Rattle.notes.proofs.settling.kept_states.Goals as goal

pub loop-k-preserved : goal.loop-k-preserved
loop-k-preserved c =
    kept_step c.args.code.now c.args.states.now c.loop-k.k (get_or c.args.targets.now c.loop-k.k false)
    c.state_of.result c.loop-k.kept.items c.push_kept.new.kept.items
    (omega (arith, c.requires.long, c.len-k-end.ensures.is_length, c.loop-k-test.true))
    (c.requires.targets.each c.loop-k.k (omega (arith, c.len-k-end.ensures.is_length, c.loop-k-test.true)))
    c.state_of.ensures c.in_ok-push_kept.ensures c.loop-k.invariant

pub returns : goal.returns
returns c = c.shrink_to_fit.ensures.items
    ∙ kept_all c.args.code.now c.args.states.now c.loop-k.k c.loop-k.kept.items
    (omega (arith, c.requires.long, c.len-k-end.ensures.is_length)) c.loop-k.invariant
