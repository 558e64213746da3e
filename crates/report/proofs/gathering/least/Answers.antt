use Rattle.std.proofs.Common.{◌<◌, List, length, sym, ◌∙◌, arith}
use Rattle.report.specs.Holdings.{Held}
use Rattle.report.proofs.PlaceLaws.{least_start, least_more, holdings_count, partition_at, held_from}
use Rattle.report.proofs.gathering.least.Goals as goal

pub loop-holdings-init : goal.loop-holdings-init
loop-holdings-init g c =
    let outputs : List (List Held) = c.args.outputs.now in let i = c.args.input in let holdings : List Held =
    c.index-outputs-0.result in let h : Held = c.at-first.result.now in
    let of = partition_at g.Id.Names.inputs g.Id.Names.outputs i 0 outputs holdings c.requires.outputs c.requires.some
    c.index-outputs-0.is h c.at-first.ensures in
    let at = held_from g.Id.Names.inputs g.Id.Names.outputs i 0 outputs holdings c.requires.outputs c.requires.some
    c.index-outputs-0.is h c.at-first.ensures in
    least_start outputs i 0 h at of

pub at-requires : goal.at-requires
at-requires g c =
    let count = holdings_count g.Id.Names.inputs g.Id.Names.outputs c.args.input c.loop-holdings.holdings-index
    c.args.outputs.now c.holdings-item.result c.requires.outputs c.loop-holdings-test.true c.holdings-item.is in
    omega (arith, count, c.requires.input)

pub shorter-first-requires : goal.shorter-first-requires
shorter-first-requires g c =
    let of = partition_at g.Id.Names.inputs g.Id.Names.outputs c.args.input c.loop-holdings.holdings-index
    c.args.outputs.now c.holdings-item.result c.requires.outputs c.loop-holdings-test.true c.holdings-item.is
    c.at.result.now c.at.ensures in
    of ∙ sym c.loop-holdings.invariant.partition_is

pub loop-holdings-preserved : goal.loop-holdings-preserved
loop-holdings-preserved g c =
    let outputs : List (List Held) = c.args.outputs.now in let i = c.args.input in let k =
    c.loop-holdings.holdings-index in let h : Held = c.at.result.now in
    let lt : k < length outputs = c.loop-holdings-test.true in
    let of = partition_at g.Id.Names.inputs g.Id.Names.outputs i k outputs c.holdings-item.result c.requires.outputs lt
    c.holdings-item.is h c.at.ensures in
    let at = held_from g.Id.Names.inputs g.Id.Names.outputs i k outputs c.holdings-item.result c.requires.outputs lt
    c.holdings-item.is h c.at.ensures in
    least_more outputs k i c.loop-holdings.first.now.done c.shorter-first.result.now.done h c.loop-holdings.invariant at
    of c.shorter-first.ensures
