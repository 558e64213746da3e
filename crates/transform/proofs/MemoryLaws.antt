-- What a program makes of record batches in memory.
use Rattle.std.proofs.Common.{◌≡◌, ◌≢◌, ℕ, ◌+◌, ◌<◌, ◌≤◌, ◌^◌, List, [], length, map, Option, Some, None, Ok}
use Rattle.std.proofs.Common.{Err, refl, sym, ap, subst, ◌∙◌, arith, rules, slice_get, append-nil, option_map, ⊎_elim}
use Rattle.std.specs.{Prelude.replicate, Prelude.unwrap_or, Prelude.sum_by, List.concat, Io.KnownBytes.Appends}
use Rattle.std.specs.{Io.KnownBytes.IsAtEnd}
use Rattle.std.proofs.{lemmas.List.Folds.fold-map, Math.ListN.get_or-map}
use Rattle.std.proofs.lemmas.List.{length-map, length-replicate, get_or-replicate}
use Rattle.std.proofs.lemmas.Map.Keys.{sorted_from_strictly_increasing}
use Rattle.std.proofs.lemmas.Option.{same_Some, slice_get-map, slice_get-get_or, slice_get_within}
use Rattle.wire_spec.specs.{declared.record.Batch.Batch}
use Rattle.machine_spec.specs.Image.{Program}
use Rattle.log_spec.specs.declared.row.Row.{Row}
use Rattle.batch.specs.{Batches.AreBatches as Begins, Streams.Open}
use Rattle.batch_reader.specs.declared.reader.Position.{Position}
use Rattle.batch_reader.specs.declared.reader.ReadFault.TheVariants as read
use Rattle.batch_reader.specs.Readings.{Inlet, inlet, left_of, none_given}
use Rattle.fates.specs.{Totals.AreCounts}
use Rattle.item_rows.specs.declared.origin.Origin.{Origin}
use Rattle.transform.specs.declared.{stream.StreamFault.StreamFault, memory.Stop.Stop, memory.Transformed.Transformed}
use Rattle.transform.specs.declared.memory.OutputBatches.{OutputBatches}
use Rattle.transform.specs.declared.memory.Stop.TheVariants as stop
use Rattle.transform.specs.declared.stream.StreamFault.TheVariants as fault
use Rattle.transform.specs.declared.flow.TransformFault.TheVariants as cause
use Rattle.transform.specs.{Backlogs.waiting, Backlogs.with_rows, Outlets.Outflow, Outlets.outflow}
use Rattle.transform.specs.Tellings.{Telling, AddsTellings}
use Rattle.transform.specs.Transforms.{Flow, flow, none_counted, output_at, EndsFlow, AreRows, AreFates, AreFlowRows}
use Rattle.transform.specs.Transforms.{FillsSome, FillsAll}
use Rattle.transform.specs.Streams.{Gave}
use Rattle.transform.specs.Transformed.{Content, content_of, content_in, IsStopOf, IsMadeOf, AreOutputBatches}
use Rattle.transform.specs.Transformed.{IsTransformed, EndsAt, StopsAt, BeginsOutput, Exceeds, size_of, bytes_in}
use Rattle.transform.specs.Transformed.{bytes_written, PushesTo, PushesPast}
use Rattle.transform.proofs.OutletLaws.{total, batches_counted, wrote_batches}
use Rattle.transform.proofs.StreamLaws.{no_more, written, Underway}

-- the counts of no record
none_are_counted : AreCounts [] none_counted
none_are_counted = record {
  records_are = refl;
  unprogrammed_are = refl;
  kept_are = refl;
  rising = sorted_from_strictly_increasing [] (search rules);
  rejects_are = λ code. refl;
}

-- ---- one output partition

-- an output partition in memory without rows
abbrev fresh : Outflow
fresh = outflow (Some []) (waiting 0 [])

held_at : (outputs : List Outflow) (mades : List OutputBatches) (k : ℕ) (one : OutputBatches) →
    map content_in mades ≡ map content_of outputs → slice_get mades k ≡ Some one → k < length outputs →
    content_of (output_at outputs k) ≡ content_in one
held_at outputs mades k one same at within =
    let there = slice_get-get_or outputs k (outflow None (waiting 0 [])) within in
    let here : Some (content_of (output_at outputs k)) ≡ Some (content_in one) =
    sym (slice_get-map content_of outputs k ∙ ap (option_map content_of) there)
    ∙ (ap (λ (cs : List Content). slice_get cs k) (sym same)
    ∙ (slice_get-map content_in mades k ∙ ap (option_map content_in) at)) in
    same_Some (content_of (output_at outputs k)) (content_in one) here

appended : (bytes more : List ℕ) (written : Option (List ℕ)) → written ≡ Some bytes → Appends (Some []) written more →
    bytes ≡ more
appended bytes more written is appends =
    subst (λ (w : Option (List ℕ)). Appends (Some []) w more) is appends

sum_by-map : {X Y : Type 0} (g : Y → ℕ) (h : X → Y) (xs : List X) →
    sum_by g (map h xs) ≡ sum_by (λ x. g (h x)) xs
sum_by-map g h xs = fold-map (λ a y. a + g y) h 0 xs

-- nobody listens
pub unheard : (more : List Telling) → AddsTellings None more None
unheard more all is = absurd cc

-- batches with which more bytes than the limit are written
pub past : (program : Program) (limit : ℕ) (reader : Inlet) (start : Flow) (after : Inlet) (now : Flow)
    (place : Position) → Underway program reader start None after now None place → limit < bytes_written now.outputs →
    PushesPast program limit reader start now place
past program limit reader start after now place so_far more = record {
  batches = so_far.batches;
  mid = after;
  gave = so_far.gave;
  follows = so_far.follows;
  placed = so_far.placed;
  more = more;
}

all_known : (written : Option (List ℕ)) (more : List ℕ) → Appends (Some []) written more → unwrap_or written [] ≡ more
all_known None more appends = absurd appends
all_known (Some bytes) more is = is

-- what is made has as many bytes as output partitions have written
abbrev sizes : List Content → ℕ
sizes contents = sum_by (λ c. length (unwrap_or c.bytes [])) contents

made_size : (last : Flow) (made : Transformed) {batches : ℕ} → IsMadeOf batches last made →
    size_of made ≡ bytes_written last.outputs
made_size last made is =
    sym (sum_by-map (λ (c : Content). length (unwrap_or c.bytes [])) content_in made.outputs.items)
    ∙ (ap sizes is.outputs_are
    ∙ sum_by-map (λ (c : Content). length (unwrap_or c.bytes [])) content_of last.outputs)

-- a stream before its first batch
abbrev pub start_of : Origin → Flow
start_of origin = flow origin.input origin.offset (replicate origin.outputs fresh) none_counted

-- a reader of bytes before it
abbrev pub reader_of : List ℕ → Inlet
reader_of bytes = inlet (Open bytes) (Some []) none_given

module _ (program : Program) (origin : Origin) where
  output_made : (batches : List Batch) (output : ℕ) (rows : List Row) (new : Outflow) (one : OutputBatches) →
      AreRows origin.input output origin.outputs program origin.offset batches rows → FillsAll rows fresh new →
      content_of new ≡ content_in one → AreOutputBatches origin program batches output one
  output_made batches output rows new one are (wrote, none) same = record {
    rows = rows;
    rows_are = are;
    written = wrote.batches;
    rest = new.waits;
    written_are = wrote.are;
    none_left = none;
    bytes_are = appended one.bytes.items (concat wrote.batches) new.written (ap (λ (c : Content). c.bytes) same)
        wrote.written;
    count_is =
        let all = total (waiting 0 rows) new.waits wrote.batches wrote.are in
        omega (arith, all, ap (λ (c : Content). c.rows) same);
    batches_are =
        let all = batches_counted (waiting 0 rows) new.waits wrote.batches wrote.are in
        omega (arith, all, ap (λ (c : Content). c.batches) same);
  }

  -- ---- more than the limit

  -- an output partition has written a beginning of its rows' batches
  output_begun : (batches : List Batch) (output : ℕ) (rows : List Row) (new : Outflow) →
      AreRows origin.input output origin.outputs program origin.offset batches rows → FillsSome rows fresh new →
      BeginsOutput origin program batches output (bytes_in new)
  output_begun batches output rows new are (rest, wrote) = record {
    rows = rows;
    rows_are = are;
    written = wrote.batches;
    rest = rest;
    written_are = wrote.are;
    bytes_are = all_known new.written (concat wrote.batches) wrote.written;
  }

  exceeds : (limit : ℕ) (batches : List Batch) (outputs : List Outflow) →
      length outputs ≡ length (start_of origin).outputs → limit < bytes_written outputs →
      ((output : ℕ) → output < length (start_of origin).outputs → (rows : List Row)
      × AreFlowRows (start_of origin) program batches output rows
      × FillsSome rows (output_at (start_of origin).outputs output) (output_at outputs output)) →
      Exceeds limit origin program batches
  exceeds limit batches outputs long more each =
      let count : length (start_of origin).outputs ≡ origin.outputs = length-replicate origin.outputs fresh in record {
        begun = map bytes_in outputs;
        count_is = length-map outputs bytes_in ∙ (long ∙ count);
        each = λ output lt.
            let within : output < length (start_of origin).outputs = omega (arith, lt, count) in
            let filled = each output within in
            let none_yet : output_at (start_of origin).outputs output ≡ fresh =
            get_or-replicate origin.outputs output fresh (outflow None (waiting 0 [])) lt in
            subst (BeginsOutput origin program batches output)
            (sym (get_or-map bytes_in outputs output (outflow None (waiting 0 []))))
            (output_begun batches output filled.0 (output_at outputs output)
            (subst (λ (n : ℕ). AreRows origin.input output n program origin.offset batches filled.0) count filled.1)
            (subst (λ (o : Outflow). FillsSome filled.0 o (output_at outputs output)) none_yet filled.2));
        more = subst (λ (n : ℕ). limit < n) (sym (sum_by-map (λ (bs : List ℕ). length bs) bytes_in outputs)) more;
      }

  -- ---- all batches

  module _ (bytes : List ℕ) (few : length bytes < 2 ^ 64) where
    -- what a reader gave of the bytes
    record IsGiven (batches : List Batch) (mid : Inlet) : Type 0 where
      rest : List ℕ
      are : Begins bytes batches rest
      left : left_of mid ≡ Some rest
      batch_is : mid.given.batches ≡ length batches
      byte_is : mid.given.bytes + length rest ≡ length bytes

    given : (batches : List Batch) (mid : Inlet) → Gave (reader_of bytes) batches mid → IsGiven batches mid
    given batches mid gave =
        let known : left_of (reader_of bytes) ≡ Some bytes = ap (λ (bs : List ℕ). Some bs) (append-nil bytes) in
        let begins = gave.begins bytes known in record {
          rest = begins.0;
          are = begins.1;
          left = begins.2;
          batch_is = omega (arith, gave.batches (omega (arith, few, no_more bytes batches begins.0 begins.1)));
          byte_is = omega (arith, gave.bytes bytes begins.0 known begins.2 (omega (arith, few)));
        }

    -- where a transform stops
    abbrev Stops : ℕ → Position → Stop → Type 0
    Stops limit place stops = (batches : List Batch) × (rest : List ℕ)
        × EndsAt bytes (record { batch = place.batches; byte = place.bytes }) batches rest
        × StopsAt program origin limit batches rest stops

    ends : (batches : List Batch) (mid : Inlet) (place : Position) (gives : IsGiven batches mid) → place ≡ mid.given →
        EndsAt bytes (record { batch = place.batches; byte = place.bytes }) batches gives.rest
    ends batches mid place gives placed = record {
      batches_are = gives.are;
      batch_is = ap (λ (p : Position). p.batches) placed ∙ gives.batch_is;
      byte_is = ap (λ (p : Position). p.bytes + length gives.rest) placed ∙ gives.byte_is;
    }

    -- why a transform stops
    pub stopped : (limit : ℕ) (after : Inlet) (now : Flow) (place : Position) (why : StreamFault) (stops : Stop) →
        PushesTo program (reader_of bytes) (start_of origin) (Err why) after now place →
        IsStopOf why stops → stops ≢ stop.Memory → Stops limit place stops
    stopped limit after now place why stops to is other = by_fault why to is
      where
        by_fault : (why : StreamFault) →
            PushesTo program (reader_of bytes) (start_of origin) (Err why) after now place → IsStopOf why stops →
            Stops limit place stops
        by_fault (fault.Read (read.Batch why)) watched is =
            let all = watched.all in let gives = given all.0 all.1 all.2 in
            ⊎_elim (λ memory. absurd (other memory.1)) (λ batch.
            let refused = all.3.0 gives.rest gives.left batch.0 in (
              all.0,
              gives.rest,
              ends all.0 all.1 place gives (watched.placed refl),
              subst (StopsAt program origin limit all.0 gives.rest) (sym batch.1) (λ known. refused.0, refused.1),
            )) is
        by_fault (fault.Transform cause.Full) watched is =
            let all = watched.all in let gives = given all.0 all.1 all.2 in (
              all.0,
              gives.rest,
              ends all.0 all.1 place gives (watched.placed refl),
              subst (StopsAt program origin limit all.0 gives.rest) (sym is) all.3.0,
            )
        by_fault (fault.Read read.Read) watched is = absurd (other is)
        by_fault (fault.Read read.Memory) watched is = absurd (other is)
        by_fault (fault.Transform cause.Memory) watched is = absurd (other is)
        by_fault (fault.Transform (cause.Output output why)) watched is = absurd (other is)

    -- more bytes than the limit are written after a batch
    pub passed : (limit : ℕ) (now : Flow) (place : Position) →
        PushesPast program limit (reader_of bytes) (start_of origin) now place → Stops limit place stop.Limit
    passed limit now place so_far =
        let gives = given so_far.batches so_far.mid so_far.gave in (
          so_far.batches,
          gives.rest,
          ends so_far.batches so_far.mid place gives so_far.placed,
          exceeds limit so_far.batches now.outputs so_far.follows.count so_far.more (λ output lt.
              let filled = so_far.follows.each output lt in let new = output_at now.outputs output in
              let old = output_at (start_of origin).outputs output in (
                filled.0,
                filled.1,
                (new.waits, wrote_batches (with_rows old.waits filled.0) new.waits old.written new.written filled.2),
              )),
        )

    -- or at the end
    pub passed_last : (limit : ℕ) (after : Inlet) (now last : Flow) (place : Position) →
        PushesTo program (reader_of bytes) (start_of origin) (Ok tt) after now place → EndsFlow now (Ok tt) last →
        limit < bytes_written last.outputs → Stops limit place stop.Limit
    passed_last limit after now last place to ended more =
        let all = to.all in let gives = given all.0 all.1 all.2 in
        let done = written (start_of origin) now last program all.0 all.4 ended in (
          all.0,
          gives.rest,
          ends all.0 all.1 place gives (to.placed refl),
          exceeds limit all.0 last.outputs done.outputs.count more (λ output lt.
              let filled = done.outputs.each output lt in
              (filled.0, filled.1, ((output_at last.outputs output).waits, filled.2.0))),
        )

    -- and what it makes where it doesn't stop
    all_transformed : (after : Inlet) (now last : Flow) (place : Position) (made : Transformed) →
        PushesTo program (reader_of bytes) (start_of origin) (Ok tt) after now place →
        EndsFlow now (Ok tt) last → IsMadeOf place.batches last made → IsTransformed program origin bytes made
    all_transformed after now last place made watched ended is =
        let all = watched.all in let gives = given all.0 all.1 all.2 in
        let none : gives.rest ≡ [] = subst IsAtEnd gives.left all.3.0 in
        let done = written (start_of origin) now last program all.0 all.4 ended in
        let count : length (start_of origin).outputs ≡ origin.outputs = length-replicate origin.outputs fresh in
        let outputs : length made.outputs.items ≡ length last.outputs =
        sym (length-map made.outputs.items content_in)
        ∙ (ap (λ (cs : List Content). length cs) is.outputs_are ∙ length-map last.outputs content_of) in record {
          batches = all.0;
          batches_are = subst (Begins bytes all.0) none gives.are;
          count_is = is.batches_are ∙ (ap (λ (p : Position). p.batches) (watched.placed refl) ∙ gives.batch_is);
          counts_are = record {
            fates = done.counts.0;
            fates_are = subst (λ (n : ℕ). AreFates origin.input n program origin.offset all.0 done.counts.0) count
                done.counts.1;
            counts_are = subst (AreCounts done.counts.0) (sym is.counts_are) (done.counts.2 [] none_are_counted);
          };
          rejects_are = is.rejects_are;
          outputs_are = outputs ∙ (done.outputs.count ∙ count);
          each = λ output one at.
              let within : output < length (start_of origin).outputs =
              omega (arith, slice_get_within made.outputs.items output one at, outputs, done.outputs.count) in
              let filled = done.outputs.each output within in
              let none_yet : output_at (start_of origin).outputs output ≡ fresh =
              get_or-replicate origin.outputs output fresh (outflow None (waiting 0 [])) (omega (arith, within, count))
              in
              output_made all.0 output filled.0 (output_at last.outputs output) one
              (subst (λ (n : ℕ). AreRows origin.input output n program origin.offset all.0 filled.0) count filled.1)
              (subst (λ (o : Outflow). FillsAll filled.0 o (output_at last.outputs output)) none_yet filled.2)
              (held_at last.outputs made.outputs.items output one is.outputs_are at
              (omega (arith, within, done.outputs.count)));
        }

    -- in at most so many bytes
    pub all_made : (limit : ℕ) (after : Inlet) (now last : Flow) (place : Position) (made : Transformed) →
        PushesTo program (reader_of bytes) (start_of origin) (Ok tt) after now place →
        EndsFlow now (Ok tt) last → bytes_written last.outputs ≤ limit → IsMadeOf place.batches last made →
        IsTransformed program origin bytes made × (size_of made ≤ limit)
    all_made limit after now last place made to ended within is = (
      all_transformed after now last place made to ended is,
      subst (λ (n : ℕ). n ≤ limit) (sym (made_size last made is)) within,
    )
