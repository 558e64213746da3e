-- Batches that were pushed one after the other.
use Rattle.std.proofs.Common.{◌≡◌, ℕ, ◌+◌, ◌<◌, List, [], ◌∷◌, ◌++◌, length, Some, Result, Ok, Err, refl, sym, ap}
use Rattle.std.proofs.Common.{subst, ◌∙◌, arith}
use Rattle.wire_spec.specs.declared.record.Batch.{Batch}
use Rattle.machine_spec.specs.Image.{Program}
use Rattle.log_spec.specs.{declared.row.Row.Row, Logs.Records, Logs.IsItemRows}
use Rattle.item_rows.specs.ItemRows.{rows_in, AreItemRows}
use Rattle.fates.specs.Totals.{Totals}
use Rattle.transform.specs.declared.{outlet.OutletFault.OutletFault, flow.TransformFault.TransformFault}
use Rattle.transform.specs.declared.flow.TransformFault.TheVariants as fault
use Rattle.transform.specs.{Backlogs.Waiting, Backlogs.with_rows, Outlets.Outflow, Outlets.WroteFull}
use Rattle.transform.specs.Transforms.{Flow, output_at, Fills, FillsSome, FillsFirst, StopsFilling, StopsFirst, Pushes}
use Rattle.transform.specs.Transforms.{EndsFlow, AreFlowRows}
use Rattle.transform.specs.Transforms.{CountsBatches, Follows, Finished, Broken, origin_of, records_of}
use Rattle.transform.proofs.{ShownLaws.none_with, ShownLaws.more_with, LogOfLaws.rows_more, CountLaws.adds_none}
use Rattle.transform.proofs.CountLaws.{counts_more}
use Rattle.transform.proofs.OutletLaws.{full_none, full_stops, wrote_batches, wrote_with, wrote_then}
use Rattle.transform.proofs.OutletLaws.{wrote_then_batches, wrote_then_stops, wrote_then_stops_full}

-- ---- one output partition

-- what was written of the rows so far, with rows more that come later
pub filled_with : (rows more : List Row) (x y : Outflow) → Fills rows x y →
    WroteFull (with_rows x.waits (rows ++ more)) x.written (with_rows y.waits more) y.written
filled_with rows more x y fills =
    subst (λ (w : Waiting). WroteFull w x.written (with_rows y.waits more) y.written) (more_with x.waits rows more)
    (wrote_with (with_rows x.waits rows) y.waits x.written y.written more fills)

pub fills_then : (rows more : List Row) (x y z : Outflow) → Fills rows x y → Fills more y z → Fills (rows ++ more) x z
fills_then rows more x y z one two =
    wrote_then (with_rows x.waits (rows ++ more)) (with_rows y.waits more) z.waits x.written y.written z.written
    (filled_with rows more x y one) two

fills_then_some : (rows more : List Row) (x y z : Outflow) → Fills rows x y → FillsFirst more y z →
    FillsSome (rows ++ more) x z
fills_then_some rows more x y z one two = (
  two.0,
  wrote_batches (with_rows x.waits (rows ++ more)) two.0 x.written z.written
      (wrote_then (with_rows x.waits (rows ++ more)) (with_rows y.waits more) two.0 x.written y.written z.written
      (filled_with rows more x y one) two.1),
)

fills_then_stops : (rows more : List Row) (x y z : Outflow) (why : OutletFault) → Fills rows x y →
    StopsFirst more y why z → StopsFilling (rows ++ more) x why z
fills_then_stops rows more x y z why one two =
    full_stops (with_rows x.waits (rows ++ more)) x.written z.written why
    (wrote_then_stops_full (with_rows x.waits (rows ++ more)) (with_rows y.waits more) x.written y.written z.written why
    (filled_with rows more x y one) two)

-- ---- all output partitions

pub fills_nothing : (x : Outflow) → Fills [] x x
fills_nothing x =
    subst (λ (w : Waiting). WroteFull w x.written x.waits x.written) (sym (none_with x.waits))
    (full_none x.waits x.written)

pub none_follows : (start : Flow) (program : Program) → Follows start program [] start
none_follows start program = record {
  input = refl;
  offset = omega arith;
  count = refl;
  each = λ q lt. ([], refl, fills_nothing (output_at start.outputs q));
  counts = ([], refl, adds_none start.counts);
}

-- the rows of one more batch
rows_then : (start old : Flow) (program : Program) (batches : List Batch) (batch : Batch)
    (q : ℕ) (all : List (List Row))
    (rows : List Row) → Follows start program batches old → AreItemRows (origin_of old)
    (Some program) (Records batch) all →
    q < length start.outputs → AreFlowRows start program batches q rows →
    AreFlowRows start program (batches ++ batch ∷ []) q (rows ++ rows_in all q)
rows_then start old program batches batch q all rows follows are lt before =
    let here = are.each q (omega (arith, lt, follows.count)) in
    let with_input = subst (λ (i : ℕ). IsItemRows i q (length old.outputs) (Some program) old.offset (Records batch)
    (rows_in all q)) follows.input here in
    let with_count = subst (λ (n : ℕ). IsItemRows start.input q n (Some program) old.offset (Records batch)
    (rows_in all q)) follows.count with_input in
    let with_offset = subst (λ (o : ℕ). IsItemRows start.input q (length start.outputs) (Some program) o (Records batch)
    (rows_in all q)) follows.offset with_count in
    rows_more start.input q (length start.outputs) program start.offset batches batch rows (rows_in all q) before
    with_offset

pub total_more : (batches : List Batch) (batch : Batch) →
    records_of (batches ++ batch ∷ []) ≡ records_of batches + length batch.records
total_more [] batch = omega arith
total_more (first ∷ batches) batch = omega (arith, total_more batches batch)

pub one_follows : (start old new : Flow) (program : Program) (batches : List Batch) (batch : Batch) →
    Follows start program batches old → Pushes program batch old (Ok tt) new →
    Follows start program (batches ++ batch ∷ []) new
one_follows start old new program batches batch follows (all, are, put, input, offset, counts) = record {
  input = input ∙ follows.input;
  offset = omega (arith, offset, follows.offset, total_more batches batch);
  count = put.count ∙ follows.count;
  each = λ q lt.
      let before = follows.each q lt in (
        before.0 ++ rows_in all q,
        rows_then start old program batches batch q all before.0 follows are lt before.1,
        fills_then before.0 (rows_in all q) (output_at start.outputs q) (output_at old.outputs q)
            (output_at new.outputs q) before.2 (put.each q (omega (arith, lt, follows.count))),
      );
  counts = counts_more start old program batches batch new.counts follows.input follows.count follows.offset
      follows.counts counts;
}

pub one_stops : (start old new : Flow) (program : Program) (batches : List Batch) (batch : Batch) (output : ℕ)
    (why : OutletFault) → Follows start program batches old → Pushes program batch old
    (Err (fault.Output output why)) new →
    Broken start program (batches ++ batch ∷ []) new.outputs output why
one_stops start old new program batches batch output why follows (all, are, put) =
    let within : output < length start.outputs = omega (arith, put.within, follows.count) in record {
      count = put.count ∙ follows.count;
      within = within;
      here =
          let before = follows.each output within in (
            before.0 ++ rows_in all output,
            rows_then start old program batches batch output all before.0 follows are within before.1,
            fills_then_stops before.0 (rows_in all output) (output_at start.outputs output)
                (output_at old.outputs output) (output_at new.outputs output) why before.2 put.here,
          );
      others = λ q lt not.
          let before = follows.each q lt in (
            before.0 ++ rows_in all q,
            rows_then start old program batches batch q all before.0 follows are lt before.1,
            fills_then_some before.0 (rows_in all q) (output_at start.outputs q) (output_at old.outputs q)
                (output_at new.outputs q) before.2 (put.others q (omega (arith, lt, follows.count)) not),
          );
    }

pub end_finishes : (start old new : Flow) (program : Program) (batches : List Batch) →
    Follows start program batches old →
    EndsFlow old (Ok tt) new → Finished start program batches new.outputs
end_finishes start old new program batches follows (ends, stays) = record {
  count = ends.count ∙ follows.count;
  each = λ q lt.
      let before = follows.each q lt in
      let here = ends.each q (omega (arith, lt, follows.count)) in (
        before.0,
        before.1,
        (
          wrote_then_batches (with_rows (output_at start.outputs q).waits before.0) (output_at old.outputs q).waits
              (output_at new.outputs q).waits (output_at start.outputs q).written (output_at old.outputs q).written
              (output_at new.outputs q).written before.2 here.0,
          here.1,
        ),
      );
}

pub end_counts : (start old new : Flow) (program : Program) (batches : List Batch)
    (result : Result (Unit {0}) TransformFault) → Follows start program batches old → EndsFlow old result new →
    CountsBatches start program batches new.counts
end_counts start old new program batches result follows (ends, stays) =
    let same : new.counts ≡ old.counts = ap (λ (f : Flow). f.counts) stays in
    subst (λ (c : Totals). CountsBatches start program batches c) (sym same) follows.counts

pub end_stops : (start old new : Flow) (program : Program) (batches : List Batch) (output : ℕ) (why : OutletFault) →
    Follows start program batches old → EndsFlow old (Err (fault.Output output why)) new →
    Broken start program batches new.outputs output why
end_stops start old new program batches output why follows (ends, stays) =
    let within : output < length start.outputs = omega (arith, ends.within, follows.count) in record {
      count = ends.count ∙ follows.count;
      within = within;
      here =
          let before = follows.each output within in (
            before.0,
            before.1,
            wrote_then_stops (with_rows (output_at start.outputs output).waits before.0)
                (output_at old.outputs output).waits (output_at start.outputs output).written
                (output_at old.outputs output).written (output_at new.outputs output).written why before.2 ends.here.1,
          );
      others = λ q lt not.
          let before = follows.each q lt in
          let here = ends.others q (omega (arith, lt, follows.count)) not in (
            before.0,
            before.1,
            (
              here.0,
              wrote_then_batches (with_rows (output_at start.outputs q).waits before.0)
                  (output_at old.outputs q).waits here.0 (output_at start.outputs q).written
                  (output_at old.outputs q).written (output_at new.outputs q).written before.2 here.1,
            ),
          );
    }
