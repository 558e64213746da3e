-- The records of a batch, pushed one part after the other.
use Rattle.std.proofs.Common.{◌≡◌, ℕ, zero, suc, ◌+◌, ◌<◌, ◌≤◌, List, [], ◌∷◌, ◌++◌, length, take, drop, Some, Result}
use Rattle.std.proofs.Common.{Ok, Err, OnOk, refl, sym, ap, subst, ◌∙◌, append_assoc, arith, inr}
use Rattle.std.specs.List.{AllByRecursion}
use Rattle.std.proofs.lemmas.List.{length-take-le, take-append-drop, take_all}
use Rattle.wire_spec.specs.declared.{record.Record.Record, record.Batch.Batch}
use Rattle.wire_spec.specs.declared.limits.TheConstants.{TIMESTAMP_END, MAX_RECORDS}
use Rattle.machine_spec.specs.Image.{Program}
use Rattle.log_spec.specs.{declared.row.Row.Row, Logs.FitsRecord, Logs.FitsLog, Logs.IsRecordsRows}
use Rattle.log_spec.proofs.FittingRows.{batch_rows_fit}
use Rattle.fates.specs.{declared.fate.Fate.Fate, Fates.AreRecordsFates, Totals.Totals, Totals.AreCounts}
use Rattle.item_rows.specs.declared.{origin.Origin.Origin, part.Part.Part}
use Rattle.item_rows.specs.ItemRows.{rows_in}
use Rattle.item_rows.specs.Blocks.{records_from, with_records, ArePartRows, GiveRows}
use Rattle.item_rows.proofs.BlockLaws.{rows_joined, fates_joined, all_first, is_part}
use Rattle.item_rows.proofs.PartLaws.{rows_with, fates_with, part_fits}
use Rattle.transform.specs.declared.{flow.TransformFault.TransformFault, outlet.OutletFault.OutletFault}
use Rattle.transform.specs.declared.flow.TransformFault.TheVariants as fault
use Rattle.transform.specs.{Backlogs.Waiting, Backlogs.with_rows, Outlets.Outflow, Outlets.WroteFull, Outlets.StopsFull}
use Rattle.transform.specs.Transforms.{Flow, flow, IsFlow, origin_of, output_at, Fills, FillsFirst, StopsFirst, PutsEach}
use Rattle.transform.specs.Transforms.{AddsCounts, PushesWhole, first_of, Pushes}
use Rattle.transform.specs.Parts.{CountsPart, PutsPart, PushesPart}
use Rattle.transform.proofs.{ShownLaws.more_with, CountLaws.adds_none}
use Rattle.transform.proofs.FollowLaws.{filled_with, fills_then, fills_nothing}
use Rattle.transform.proofs.OutletLaws.{wrote_with, wrote_then, wrote_then_stops_full, stops_with}

-- ---- one part

-- no output partition is lost, also where one failed
pub as_many : (all : List (List Row)) (old new : List Outflow) (result : Result (Unit {0}) TransformFault) →
    PutsEach all old result new → length new ≡ length old
as_many all old new (Ok done) put = put.count
as_many all old new (Err (fault.Output output why)) put = put.count
as_many all old new (Err fault.Full) put = absurd put
as_many all old new (Err fault.Memory) put = absurd put

-- the numbers of a stream are in range still
pub still_flow : (old : Flow) (more : ℕ) (outputs : List Outflow) (counts : Totals) → IsFlow old →
    length outputs ≡ length old.outputs → counts.records ≡ old.counts.records + more →
    old.offset + more ≤ TIMESTAMP_END → IsFlow (flow old.input (old.offset + more) outputs counts)
still_flow old more outputs counts is count counted room = record {
  input = is.input;
  offset = room;
  some_output = omega (arith, is.some_output, count);
  outputs = omega (arith, is.outputs, count);
  counted = omega (arith, is.counted, counted);
}

pub part_put : (program : Program) (origin : Origin) (batch : Batch) (part : Part) (old new : Flow)
    (all : List (List Row)) (result : Result (Unit {0}) TransformFault) →
    ArePartRows origin (Some program) batch part.first part.count all → PutsEach all old.outputs result new.outputs →
    new.input ≡ old.input → new.offset ≡ old.offset + part.count →
    CountsPart program origin batch part old.counts new.counts → PutsPart program origin batch part old result new
part_put program origin batch part old new all (Ok done) rows put input offset counts =
    (all, rows, put, input, offset, counts)
part_put program origin batch part old new all (Err (fault.Output output why)) rows put input offset counts =
    (all, rows, put)
part_put program origin batch part old new all (Err fault.Full) rows put input offset counts = absurd put
part_put program origin batch part old new all (Err fault.Memory) rows put input offset counts = absurd put

-- what holds holds where a call went well
pub where_ok : {P : Type 0} (result : Result (Unit {0}) TransformFault) → P → OnOk result P
where_ok (Ok done) holds = holds
where_ok (Err why) holds = tt

-- all of a list
take_whole : {A : Type 0} (xs : List A) (count : ℕ) → count ≡ length xs → take count xs ≡ xs
take_whole xs count all = take_all count xs (omega (arith, all))

-- ---- a list for each output

record Listed (count : ℕ) (Holds : ℕ → List Row → Type 0) : Type 0 where
  all : List (List Row)
  many : length all ≡ count
  each : (q : ℕ) → q < count → Holds q (rows_in all q)

listed : (count : ℕ) (Holds : ℕ → List Row → Type 0) → ((q : ℕ) → q < count → (rows : List Row) × Holds q rows) →
    Listed count Holds
listed zero Holds made = record { all = []; many = refl; each = λ q lt. absurd (omega (arith, lt)) }
listed (suc count) Holds made =
    let first = made 0 (omega arith) in
    let rest = listed count (λ q. Holds (suc q)) (λ q lt. made (suc q) (omega (arith, lt))) in
    let all = first.0 ∷ rest.all in
    let each : (q : ℕ) → q < suc count → Holds q (rows_in all q) = each_of first.0 rest.all first.1 rest.each in
    record { all = all; many = ap suc rest.many; each = each }
  where
    each_of : (here : List Row) (others : List (List Row)) → Holds 0 here →
        ((q : ℕ) → q < count → Holds (suc q) (rows_in others q)) → (q : ℕ) → q < suc count →
        Holds q (rows_in (here ∷ others) q)
    each_of here others holds each zero lt = holds
    each_of here others holds each (suc q) lt = each q (omega (arith, lt))

-- ---- one part after the other

module _ (program : Program) (batch : Batch) (old : Flow) where
  abbrev Rows : ℕ → ℕ → List Record → List Row → Type 0
  Rows q offset given rows = IsRecordsRows old.input q (length old.outputs) (Some program) batch offset given rows

  abbrev Fates : ℕ → List Record → List Fate → Type 0
  Fates offset given fates = AreRecordsFates old.input (length old.outputs) (Some program) batch offset given fates

  -- the first records of a batch were pushed
  pub record Begun (done : ℕ) (now : Flow) : Type 0 where
    pub input : now.input ≡ old.input
    pub offset : now.offset ≡ old.offset + done
    pub count : length now.outputs ≡ length old.outputs
    pub each : (q : ℕ) → q < length old.outputs → (rows : List Row) × Rows q old.offset (take done batch.records) rows
        × Fills rows (output_at old.outputs q) (output_at now.outputs q)
    pub fates : (fates : List Fate) × Fates old.offset (take done batch.records) fates
        × AddsCounts old.counts fates now.counts

  pub begun_none : Begun 0 old
  begun_none = record {
    input = refl;
    offset = omega arith;
    count = refl;
    each = λ q lt. ([], refl, fills_nothing (output_at old.outputs q));
    fates = ([], refl, adds_none old.counts);
  }

  module _ (done : ℕ) (part : Part) (mid : Flow) (le : done + part.count ≤ length batch.records) (at : part.first ≡ done)
      (so_far : Begun done mid) where
    abbrev front : List Record
    front = take done batch.records

    abbrev here : List Record
    here = records_from part.first part.count batch.records

    abbrev both : List Record
    both = take (done + part.count) batch.records

    next_is : old.offset + part.first ≡ old.offset + length front
    next_is = omega (arith, at, length-take-le done batch.records (omega (arith, le)))

    longer : front ++ here ≡ both
    longer = ap (λ (f : ℕ). front ++ records_from f part.count batch.records) at
        ∙ sym (is_part batch.records done part.count le).more

    -- the rows of an output
    rows_then : (q : ℕ) (before later : List Row) → Rows q old.offset front before →
        Rows q (old.offset + part.first) here later → Rows q old.offset both (before ++ later)
    rows_then q before later first next =
        subst (λ (gs : List Record). Rows q old.offset gs (before ++ later)) longer
        (rows_joined old.input (length old.outputs) (Some program) batch old.offset q front here before later first
        (subst (λ (o : ℕ). Rows q o here later) next_is next))

    pub begun_more : (new : Flow) → PutsPart program (origin_of old) batch part mid (Ok tt) new →
        Begun (done + part.count) new
    begun_more new (all, are, put, input, offset, (fates, met, adds)) = record {
      input = input ∙ so_far.input;
      offset = omega (arith, offset, so_far.offset);
      count = put.count ∙ so_far.count;
      each = λ q lt.
          let before = so_far.each q lt in (
            before.0 ++ rows_in all q,
            rows_then q before.0 (rows_in all q) before.1 (are.each q lt),
            fills_then before.0 (rows_in all q) (output_at old.outputs q) (output_at mid.outputs q)
                (output_at new.outputs q) before.2 (put.each q (omega (arith, lt, so_far.count))),
          );
      fates =
          let before = so_far.fates in (
            before.0 ++ fates,
            subst (λ (gs : List Record). Fates old.offset gs (before.0 ++ fates)) longer
                (fates_joined old.input (length old.outputs) (Some program) batch old.offset front here before.0 fates
                before.1 (subst (λ (o : ℕ). Fates o here fates) next_is met)),
            λ was were. subst (λ (fs : List Fate). AreCounts fs new.counts) (append_assoc was before.0 fates)
                (adds (was ++ before.0) (before.2 was were)),
          );
    }

    -- ---- an output partition failed

    module _ (fits : FitsLog batch) (new : Flow) (output : ℕ) (why : OutletFault)
        (stops : PutsPart program (origin_of old) batch part mid (Err (fault.Output output why)) new)
        (rest : GiveRows (origin_of old) program batch (part.first + part.count)) where
      -- the rows of an output: those of the records before, of these and of those after them
      record Split (q : ℕ) (rows : List Row) : Type 0 where
        before : List Row
        later : List Row
        are : rows ≡ (before ++ rows_in stops.0 q) ++ later
        fills : Fills before (output_at old.outputs q) (output_at mid.outputs q)
        all : Rows q old.offset batch.records rows

      split : (q : ℕ) → q < length old.outputs → (rows : List Row) × Split q rows
      split q lt =
          let first = so_far.each q lt in let here_rows = rows_in stops.0 q in let last = rest q in
          let rows = (first.0 ++ here_rows) ++ last.0 in
          let after : old.offset + (part.first + part.count) ≡ old.offset + length both =
          omega (arith, at, length-take-le (done + part.count) batch.records le) in
          let same : part.first + part.count ≡ done + part.count = omega (arith, at) in
          let left : List Record = drop (done + part.count) batch.records in
          let next = subst (λ (n : ℕ). Rows q (old.offset + (part.first + part.count)) (drop n batch.records) last.0) same
          last.1 in
          let joined = rows_joined old.input (length old.outputs) (Some program) batch old.offset q both left
          (first.0 ++ here_rows) last.0 (rows_then q first.0 here_rows first.1 (stops.1.each q lt))
          (subst (λ (o : ℕ). Rows q o left last.0) after next) in (
            rows,
            record {
              before = first.0;
              later = last.0;
              are = refl;
              fills = first.2;
              all = subst (λ (gs : List Record). Rows q old.offset gs rows)
                  (take-append-drop (done + part.count) batch.records) joined;
            },
          )

      -- rows more came later
      first_with : (x y : Outflow) (rows more : List Row) → FillsFirst rows x y → FillsFirst (rows ++ more) x y
      first_with x y rows more (left, wrote) = (
        with_rows left more,
        subst (λ (w : Waiting). WroteFull w x.written (with_rows left more) y.written) (more_with x.waits rows more)
            (wrote_with (with_rows x.waits rows) left x.written y.written more wrote),
      )

      first_stops_with : (x y : Outflow) (rows more : List Row) → StopsFirst rows x why y →
          StopsFirst (rows ++ more) x why y
      first_stops_with x y rows more stopped =
          subst (λ (w : Waiting). StopsFull w x.written why y.written) (more_with x.waits rows more)
          (stops_with (with_rows x.waits rows) x.written y.written why more stopped)

      pub begun_stops : Pushes program batch old (Err (fault.Output output why)) new
      begun_stops =
          let made = listed (length old.outputs) Split split in let put = stops.2 in
          let within : output < length old.outputs = omega (arith, put.within, so_far.count) in (
            made.all,
            record {
              outputs = made.many;
              each = λ q lt. (made.each q lt).all;
              fit = λ q lt. batch_rows_fit old.input q (length old.outputs) (Some program) batch old.offset
                  (rows_in made.all q) fits (made.each q lt).all;
            },
            record {
              count = put.count ∙ so_far.count;
              within = within;
              here =
                  let s = made.each output within in let x = output_at old.outputs output in
                  let y = output_at mid.outputs output in let z = output_at new.outputs output in
                  let rows = rows_in stops.0 output in
                  subst (λ (rs : List Row). StopsFirst rs x why z) (sym s.are)
                  (first_stops_with x z (s.before ++ rows) s.later
                  (wrote_then_stops_full (with_rows x.waits (s.before ++ rows)) (with_rows y.waits rows) x.written
                  y.written z.written why (filled_with s.before rows x y s.fills) put.here));
              others = λ q lt not.
                  let s = made.each q lt in let x = output_at old.outputs q in let y = output_at mid.outputs q in
                  let z = output_at new.outputs q in let rows = rows_in stops.0 q in
                  let last = put.others q (omega (arith, lt, so_far.count)) not in
                  subst (λ (rs : List Row). FillsFirst rs x z) (sym s.are)
                  (first_with x z (s.before ++ rows) s.later (
                    last.0,
                    wrote_then (with_rows x.waits (s.before ++ rows)) (with_rows y.waits rows) last.0 x.written
                        y.written z.written (filled_with s.before rows x y s.fills) last.1,
                  ));
            },
          )

  -- ---- some or all records were pushed

  pub begun_all : FitsLog batch → (done : ℕ) (now : Flow) → done ≤ length batch.records → Begun done now →
      PushesWhole program (first_of done batch) old now
  begun_all fits done now le so_far =
      let given = take done batch.records in
      let long : length given ≡ done = length-take-le done batch.records le in
      let few : length given ≤ MAX_RECORDS = omega (arith, long, le, fits.count) in
      let each_fits : AllByRecursion (FitsRecord batch) given = all_first (FitsRecord batch) given
      (drop done batch.records)
      (subst (λ (gs : List Record). AllByRecursion (FitsRecord batch) gs) (sym (take-append-drop done batch.records))
      fits.each) in
      let made = listed (length old.outputs) (λ q rows. Rows q old.offset given rows
      × Fills rows (output_at old.outputs q) (output_at now.outputs q))
      (λ q lt. let is = so_far.each q lt in (is.0, (is.1, is.2))) in
      let fates = so_far.fates in (
        made.all,
        record {
          outputs = made.many;
          each = λ q lt. rows_with old.input (length old.outputs) (Some program) batch given q old.offset given
              (rows_in made.all q) (made.each q lt).0;
          fit = λ q lt. part_fits old.input q (length old.outputs) (Some program) batch old.offset given
              (rows_in made.all q) each_fits few (made.each q lt).0;
        },
        record { count = so_far.count; each = λ q lt. (made.each q lt).1 },
        so_far.input,
        omega (arith, so_far.offset, long),
        (
          fates.0,
          fates_with old.input (length old.outputs) (Some program) batch given old.offset given fates.0 fates.1,
          fates.2,
        ),
      )

  -- all were
  pub begun_whole : FitsLog batch → (done : ℕ) (now : Flow) → done ≡ length batch.records → Begun done now →
      Pushes program batch old (Ok tt) now
  begun_whole fits done now all so_far =
      let whole : take done batch.records ≡ batch.records = take_whole batch.records done all in
      subst (λ (gs : List Record). PushesWhole program (with_records batch gs) old now) whole
      (begun_all fits done now (omega (arith, all)) so_far)

  -- and at one part it failed
  pub begun_faults : FitsLog batch → (done : ℕ) (part : Part) (mid new : Flow) (why : TransformFault) →
      done < length batch.records → done + part.count ≤ length batch.records → part.first ≡ done → Begun done mid →
      PushesPart program (origin_of old) batch part mid (Err why) new → Pushes program batch old (Err why) new
  begun_faults fits done part mid new (fault.Output output why) lt le at so_far (stops, rest) =
      begun_stops done part mid le at so_far fits new output why stops rest
  begun_faults fits done part mid new fault.Full lt le at so_far (never, rest) = absurd never
  begun_faults fits done part mid new fault.Memory lt le at so_far (same, rest) =
      inr (done, lt, begun_all fits done new (omega (arith, lt)) (subst (Begun done) (sym same) so_far))
