use Rattle.std.proofs.Common.{false, sym, ◌∙◌}
use Rattle.command_line.proofs.CallLaws.{one_distinct}
use Rattle.command_line.proofs.transforms.has_twice.Goals as goal

pub loop-index-preserved : goal.loop-index-preserved
loop-index-preserved c =
    one_distinct c.args.words.now c.loop-index.index c.index-words-index.result c.loop-index-test.true
    c.index-words-index.is (sym c.contains.ensures.value ∙ c.if-contains.false) c.loop-index.invariant
