use Rattle.std.proofs.Common.{◌≡◌, ℕ, ◌+◌, ◌<◌, List, [], Option, length, take, get_or, ap, sym, ◌∙◌, arith}
use Rattle.std.specs.Prelude.{unwrap_or}
use Rattle.std.proofs.lemmas.{List.Sums.sum_by_more, Option.get_or_from_slice_get}
use Rattle.transform.specs.{Outlets.Outflow, Transformed.bytes_in, Transformed.bytes_written}
use Rattle.transform.proofs.memory.bytes_written.Goals as goal

pub loop-output-preserved : goal.loop-output-preserved
loop-output-preserved c =
    let outputs = c.args.stream.now.outputs in let k = c.loop-output.output in let one = c.outlet.result.now in
    let inv = c.loop-output.invariant in
    let lt : k < length outputs = omega (arith, c.loop-output-test.true, c.outputs-output-end.ensures) in
    let at : get_or outputs k one ≡ one = get_or_from_slice_get outputs k one one c.outlet.ensures in
    let size : length (bytes_in one) ≡ c.len.result =
    ap (λ (w : Option (List ℕ)). length (unwrap_or w [])) (sym c.writer.ensures)
    ∙ (sym c.writer.result.now.ok.0 ∙ sym c.len.ensures) in
    let more : bytes_written (take (k + 1) outputs) ≡ bytes_written (take k outputs) + length (bytes_in one) =
    sum_by_more (λ (o : Outflow). length (bytes_in o)) outputs k one lt
    ∙ ap (λ (o : Outflow). bytes_written (take k outputs) + length (bytes_in o)) at in
    (omega (arith, inv.0, more, size), omega (arith, inv.1))
