use Rattle.std.proofs.Common.{rules, ◌≡◌, ◌+◌, ◌<◌, length}
use Rattle.std.proofs.lemmas.List.{length-map}
use Rattle.commands.proofs.RecheckLaws.{next_told, stopped}
use Rattle.commands.proofs.rechecking.recheck_lines.Goals as goal

pub returns-in-Err-clause-told : goal.returns-in-Err-clause-told
returns-in-Err-clause-told g c =
    let shorter : c.loop-index.index < length c.args.lines.now = search rules in
    let number : c.saturating_add-line.result ≡ c.loop-index.index + 1 = search rules in
    stopped c.recheck_line.new.host _ _ c.loop-index.invariant (rw length-map shorter) c.piece.ensures
    c.in-Err.ensures.told number

pub loop-index-preserved : goal.loop-index-preserved
loop-index-preserved g c =
    let shorter : c.loop-index.index < length c.args.lines.now = search rules in
    next_told _ _ c.loop-index.invariant (rw length-map shorter) c.piece.ensures c.in-Ok.ensures.kept
    c.in-Ok.ensures.told
