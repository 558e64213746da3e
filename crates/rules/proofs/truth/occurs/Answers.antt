use Rattle.std.proofs.Common.{sym, ◌∙◌, arith}
use Rattle.std.proofs.lemmas.List.{take_rest}
use Rattle.rules.proofs.Searches.{occurs_more}
use Rattle.rules.proofs.truth.occurs.Goals as goal

pub loop-place-preserved : goal.loop-place-preserved
loop-place-preserved c =
    let answer = sym c.starts_with.ensures.value ∙ c.if-starts_with.false in
    let fails = rw (take_rest c.args.bytes.now c.loop-place.place) at answer in
    occurs_more c.args.text.now c.args.bytes.now c.loop-place.place (omega arith) fails c.loop-place.invariant
