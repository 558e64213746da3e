use Rattle.std.proofs.Common.{◌≡◌, ◌≤◌, List, ℕ, length, take, drop, Result, Err, subst, sym, rules, arith, length-drop}
use Rattle.std.specs.Io.KnownBytes.{Appends}
use Rattle.std.proofs.lemmas.List.{take_rest}
use Rattle.transform.specs.{declared.outlet.OutletFault.OutletFault, Outlets.Writes}
use Rattle.transform.proofs.outlet.put_batch.Goals as goal
use Rattle.wire_spec.proofs.Beginnings.{written_on, begun_on}
use Rattle.wire_spec.specs.Writing.{HasBegun}

pub returns-in_err-done : goal.returns-in_err-done
returns-in_err-done g c =
    let start = g.W.Write.contents c.args.writer.now in let before = g.W.Write.contents c.loop.writer in
    let after = g.W.Write.contents c.put_some.new.writer in let bytes : List ℕ = c.args.bytes.now in
    let done = c.loop.done in let ended = c.in_err-done.ensures in
    let begun : HasBegun before after (drop done bytes) =
    subst (λ (bs : List ℕ). HasBegun before after bs) (take_rest bytes done) ended.0 in
    let result_is : c.from_residual.result ≡ Err c.in_err-done.field-0.0 = search rules in
    subst (λ (r : Result (Unit {0}) OutletFault). Writes start after bytes r) (sym result_is)
    (begun_on start before after done bytes c.loop.invariant.1 begun, ended.1)

pub loop-preserved : goal.loop-preserved
loop-preserved g c =
    let start = g.W.Write.contents c.args.writer.now in let before = g.W.Write.contents c.loop.writer in
    let after = g.W.Write.contents c.put_some.new.writer in let bytes : List ℕ = c.args.bytes.now in
    let done = c.loop.done in let count = c.in_ok-done.field-0 in
    let some = subst (λ (bs : List ℕ). (count ≤ length bs) × Appends before after (take count bs))
    (take_rest bytes done) c.in_ok-done.ensures in (
      omega (arith, some.0, length-drop done bytes, c.loop.invariant.0),
      written_on start before after done count bytes c.loop.invariant.1 some.1,
    )
