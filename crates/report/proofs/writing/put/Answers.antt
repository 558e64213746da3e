use Rattle.std.proofs.Common.{◌≤◌, List, ℕ, length, take, drop, subst, arith, length-drop}
use Rattle.std.specs.Io.KnownBytes.{Appends}
use Rattle.report.proofs.WrittenLaws.{writes_fault, rest_is}
use Rattle.report.proofs.writing.put.Goals as goal
use Rattle.wire_spec.proofs.Beginnings.{written_on, begun_on}
use Rattle.wire_spec.specs.Writing.{HasBegun}

pub returns-in_err-done : goal.returns-in_err-done
returns-in_err-done g c =
    let b : List ℕ = c.as_bytes-bytes.result.now in let text : List ℕ = c.args.text.now in let done = c.loop.done in
    let before = g.W.Write.contents c.loop.out in let after = g.W.Write.contents c.put_some.new.out in
    let begun : HasBegun before after (drop done text) =
    subst (λ (bs : List ℕ). HasBegun before after bs) (rest_is b text done c.as_bytes-bytes.ensures.value)
    c.in_err-done.ensures in
    writes_fault (g.W.Write.contents c.args.out.now) after text c.from_residual.result c.from_residual.ensures.0
    (begun_on (g.W.Write.contents c.args.out.now) before after done text c.loop.invariant.1 begun)

pub loop-preserved : goal.loop-preserved
loop-preserved g c =
    let b : List ℕ = c.as_bytes-bytes.result.now in let text : List ℕ = c.args.text.now in let done = c.loop.done in
    let count = c.in_ok-done.field-0 in
    let before = g.W.Write.contents c.loop.out in let after = g.W.Write.contents c.put_some.new.out in
    let some = subst (λ (bs : List ℕ). (count ≤ length bs) × Appends before after (take count bs))
    (rest_is b text done c.as_bytes-bytes.ensures.value) c.in_ok-done.ensures in (
      omega (arith, some.0, length-drop done text, c.loop.invariant.0),
      written_on (g.W.Write.contents c.args.out.now) before after done count text c.loop.invariant.1 some.1,
    )
