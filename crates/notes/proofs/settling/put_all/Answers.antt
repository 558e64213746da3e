use Rattle.std.proofs.Common.{refl, ◌∙◌}
use Rattle.notes.proofs.Steps.{none_put, put_more}
use Rattle.notes.proofs.settling.put_all.Goals as goal

pub loop-pair-init : goal.loop-pair-init
loop-pair-init c = record { long = refl; each = none_put c.args.states.now c.requires }

pub loop-pair-preserved : goal.loop-pair-preserved
loop-pair-preserved c = record {
  long = c.put.ensures.length ∙ c.loop-pair.invariant.long;
  each = put_more c.args.pairs.now c.loop-pair.states c.put.new.states c.loop-pair.pair-index c.pair-item.result
      c.loop-pair-test.true c.pair-item.is c.put.ensures.length c.put.ensures.each c.loop-pair.invariant.each;
}
