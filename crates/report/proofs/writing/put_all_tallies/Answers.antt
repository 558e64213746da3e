use Rattle.std.proofs.Common.{refl}
use Rattle.report.specs.Texts.{tally_text}
use Rattle.std.specs.List.{flat_map}
use Rattle.report.proofs.WrittenLaws.{taken_more, writes_fault, next_begun}
use Rattle.report.proofs.writing.put_all_tallies.Goals as goal

pub loop-tally-preserved : goal.loop-tally-preserved
loop-tally-preserved g c =
    taken_more tally_text c.args.tallies.now c.loop-tally.tally-index c.tally-item.result
    (g.W.Write.contents c.args.out.now) (g.W.Write.contents c.loop-tally.out)
    (g.W.Write.contents c.put_tally.new.out)
    (tally_text c.tally-item.result) c.loop-tally-test.true c.tally-item.is c.loop-tally.invariant
    c.in_ok-put_tally.ensures refl

pub returns-in_err-put_tally : goal.returns-in_err-put_tally
returns-in_err-put_tally g c =
    let start = g.W.Write.contents c.args.out.now in let before = g.W.Write.contents c.loop-tally.out in let after =
    g.W.Write.contents c.put_tally.new.out in
    writes_fault start after (flat_map tally_text c.args.tallies.now) c.from_residual.result c.from_residual.ensures.0
    (next_begun tally_text c.args.tallies.now c.loop-tally.tally-index c.tally-item.result start before after
    c.loop-tally-test.true c.tally-item.is c.loop-tally.invariant c.in_err-put_tally.ensures)
