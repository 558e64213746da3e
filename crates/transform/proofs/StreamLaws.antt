-- Batches of a reader that are pushed one after the other, and the end.
use Rattle.std.proofs.Common.{◌≡◌, ℕ, ◌+◌, ◌-◌, ◌≤◌, true, false, List, [], ◌∷◌, ◌++◌, length, take, drop, Option, Some}
use Rattle.std.proofs.Common.{None, Result, Ok, Err, refl, sym, ap, subst, ◌∙◌, ◌⊎◌, inl, inr, arith, ◌^◌, min}
use Rattle.std.proofs.Common.{slice_get, append_assoc, append-nil}
use Rattle.std.proofs.{Math.Nat.min-eq_left, lemmas.List.length-drop, lemmas.List.length_push, lemmas.Option.same_Some}
use Rattle.std.proofs.lemmas.List.{same_from_push}
use Rattle.std.proofs.{lemmas.List.take_all, lemmas.List.take-append-le, lemmas.Option.slice_get_within}
use Rattle.wire_spec.specs.{declared.record.Batch.Batch, BatchReading.batch_at}
use Rattle.machine_spec.specs.Image.{Program}
use Rattle.log_spec.proofs.LogLaws.{pushed}
use Rattle.batch.specs.Batches.{AreBatches}
use Rattle.batch.proofs.FeedLaws.{batch_at-taken}
use Rattle.batch_reader.specs.declared.{reader.Position.Position, reader.ReadFault.ReadFault}
use Rattle.batch_reader.specs.declared.reader.ReadFault.TheVariants as read
use Rattle.batch_reader.specs.Readings.{Inlet, left_of, IsOpen, LosesBatch, ReadsBatch}
use Rattle.transform.specs.declared.{stream.StreamFault.StreamFault, flow.TransformFault.TransformFault}
use Rattle.transform.specs.declared.outlet.OutletFault.{OutletFault}
use Rattle.transform.specs.declared.stream.StreamFault.TheVariants as fault
use Rattle.transform.specs.declared.flow.TransformFault.TheVariants as stop
use Rattle.transform.specs.Transforms.{Flow, Follows, Pushes, PushesFirst, EndsFlow, first_of, records_of}
use Rattle.transform.specs.Tellings.{Telling, telling, AddsTellings}
use Rattle.transform.specs.Streams.{Begins, Gave, EndsAt, AreCut, PushedFirst, Pushed, is_broken, is_cut}
use Rattle.transform.specs.Streams.{Completed, Transformed, IsToldAfter}
use Rattle.transform.specs.Streams.{AreTellings, ArePushed, PushesAll, Tells, PushesWatched, TransformsWatched}
use Rattle.transform.specs.Transformed.{PushesTo}
use Rattle.transform.proofs.FollowLaws.{none_follows, one_follows, one_stops, end_finishes, end_counts, end_stops}
use Rattle.transform.proofs.FollowLaws.{total_more}

-- ---- what a reader gave

one_more : (bytes : List ℕ) (batches : List Batch) (rest : List ℕ) (batch : Batch) (used : ℕ) →
    AreBatches bytes batches rest → batch_at rest ≡ Ok (batch, used) →
    AreBatches bytes (batches ++ batch ∷ []) (drop used rest)
one_more bytes [] rest batch used is found =
    (used, subst (λ (bs : List ℕ). batch_at bs ≡ Ok (batch, used)) is found, ap (drop used) is)
one_more bytes (first ∷ batches) rest batch used are found =
    (are.0, are.1, one_more (drop are.0 bytes) batches rest batch used are.2 found)

-- a batch has a byte at least
pub no_more : (bytes : List ℕ) (batches : List Batch) (rest : List ℕ) → AreBatches bytes batches rest →
    length batches + length rest ≤ length bytes
no_more bytes [] rest is = omega (arith, ap length is)
no_more bytes (first ∷ batches) rest are =
    let size = batch_at-taken bytes first are.0 are.1 in
    omega (
      arith,
      no_more (drop are.0 bytes) batches rest are.2,
      size.least,
      size.there,
      length-drop are.0 bytes,
    )

-- the same bytes begin with one batch alone
same_used : (bytes : List ℕ) (batch : Batch) (m n : ℕ) → batch_at bytes ≡ Ok (batch, m) →
    batch_at bytes ≡ Ok (batch, n) → m ≡ n
same_used bytes batch m n one two =
    ap (λ (x : Batch × ℕ). x.1) (same_ok (batch, m) (batch, n) (sym one ∙ two))
  where
    same_ok : {A E : Type 0} (x y : A) → ◌≡◌ {A = Result A E} (Ok x) (Ok y) → x ≡ y
    same_ok x y h = cc

pub gave_none : (reader : Inlet) → Gave reader [] reader
gave_none reader = record {
  begins = λ bytes known. (bytes, refl, known);
  batches = λ few. omega arith;
  bytes = λ known rest before after short. omega (arith, ap length (same_Some known rest (sym before ∙ after)));
}

begins_more : (before mid after : Option (List ℕ)) (batches : List Batch) (batch : Batch) → Begins before batches mid →
    LosesBatch mid batch after → Begins before (batches ++ batch ∷ []) after
begins_more before mid after batches batch begins loses bytes known =
    let so_far = begins bytes known in
    let next = loses so_far.0 so_far.2 in
    (drop next.0 so_far.0, one_more bytes batches so_far.0 batch next.0 so_far.1 next.1, next.2)

gave_more : (old mid new : Inlet) (given : List Batch) (batch : Batch) → Gave old given mid →
    ReadsBatch mid (Ok (Some batch)) new → Gave old (given ++ batch ∷ []) new
gave_more old mid new given batch gave (going, loses, counts) = record {
  begins = begins_more (left_of old) (left_of mid) (left_of new) given batch gave.begins loses;
  batches = λ few.
      let so_far = gave.batches (omega (arith, few, length_push given batch)) in
      let one : new.given.batches ≡ min (mid.given.batches + 1) (2 ^ 64 - 1) =
      ap (λ (p : Position). p.batches) counts.counted in
      omega (
        arith,
        one ∙ min-eq_left (omega (arith, few, so_far, length_push given batch)),
        so_far,
        length_push given batch,
      );
  bytes = λ known rest before after short.
      let so_far = gave.begins known before in
      let next = loses so_far.0 so_far.2 in
      let used : counts.used ≡ next.0 =
      same_used so_far.0 batch counts.used next.0 (counts.at_front so_far.0 so_far.2) next.1 in
      let there = (batch_at-taken so_far.0 batch next.0 next.1).there in
      let rest_is : length rest + next.0 ≡ length so_far.0 =
      omega (
        arith,
        there,
        length-drop next.0 so_far.0,
        ap length (same_Some (drop next.0 so_far.0) rest (sym next.2 ∙ after)),
      ) in
      let fewer = no_more known given so_far.0 so_far.1 in
      let counted = gave.bytes known so_far.0 before so_far.2 (omega (arith, short, rest_is)) in
      let one : new.given.bytes ≡ min (mid.given.bytes + counts.used) (2 ^ 64 - 1) =
      ap (λ (p : Position). p.bytes) counts.counted in
      omega (
        arith,
        one ∙ min-eq_left (omega (arith, short, counted, used, rest_is)),
        counted,
        used,
        rest_is,
      );
}

-- ---- what a watcher is told

adds_nothing : (told : Option (List Telling)) → AddsTellings told [] told
adds_nothing told all is = (all, is, sym (append-nil all))

adds_then : (one two three : Option (List Telling)) (first later : List Telling) → AddsTellings one first two →
    AddsTellings two later three → AddsTellings one (first ++ later) three
adds_then one two three first later adds more all is =
    let late = more all is in
    let early = adds late.0 late.1 in (
      early.0,
      early.1,
      late.2 ∙ ap (λ (ts : List Telling). ts ++ later) early.2 ∙ append_assoc early.0 first later,
    )

none_told : (reader : Inlet) (start : Flow) → AreTellings reader start [] []
none_told reader start = record { count = refl; each = λ k told at. absurd cc }

one_told : (reader mid : Inlet) (start : Flow) (batches : List Batch) (batch : Batch) (tellings : List Telling)
    (place : Position) (records : ℕ) → AreTellings reader start batches tellings →
    Gave reader (batches ++ batch ∷ []) mid → place ≡ mid.given →
    records ≡ start.counts.records + records_of (batches ++ batch ∷ []) →
    AreTellings reader start (batches ++ batch ∷ []) (tellings ++ telling place records ∷ [])
one_told reader mid start batches batch tellings place records so_far gave placed counted =
    let last = telling place records in
    let all = batches ++ batch ∷ [] in
    let AtCount : ℕ → Telling → Type 0 = λ n told. IsToldAfter reader start (take n all) told in
    let whole : take (1 + length tellings) all ≡ all =
    take_all (1 + length tellings) all (omega (arith, length_push batches batch, so_far.count)) in
    let here : IsToldAfter reader start all last = record {
      mid = mid;
      gave = gave;
      position = placed;
      records = counted;
    } in
    let before : (k : ℕ) (told : Telling) → slice_get tellings k ≡ Some told → AtCount (1 + k) told = λ k told at.
    let same : take (1 + k) all ≡ take (1 + k) batches =
    take-append-le (1 + k) batches (batch ∷ [])
    (omega (arith, slice_get_within tellings k told at, so_far.count)) in
    subst (λ (bs : List Batch). IsToldAfter reader start bs told) (sym same) (so_far.each k told at) in record {
      count = omega (arith, length_push batches batch, length_push tellings last, so_far.count);
      each = pushed AtCount tellings 1 last before
          (subst (λ (bs : List Batch). IsToldAfter reader start bs last) (sym whole) here);
    }

-- The batches that a reader gave were pushed, and a watcher was told of them. This much had been given with them,
-- unless an output partition failed.
pub record PushesTold (program : Program) (reader : Inlet) (start : Flow) (result : Result (Unit {0}) StreamFault)
    (after : Inlet) (now : Flow) (old new : Option (List Telling)) (place : Position) : Type 0 where
  all : PushesAll program reader start result after now
  told : Tells reader start program all.0 result now old new
  placed : is_cut result ≡ false → place ≡ all.1.given

pub was_told : {program : Program} {reader : Inlet} {start : Flow} {result : Result (Unit {0}) StreamFault}
    {after : Inlet} {now : Flow} {old new : Option (List Telling)} {place : Position} →
    PushesTold program reader start result after now old new place →
    PushesWatched program reader start result after now old new
was_told ends = record { all = ends.all; told = ends.told }

pub was_placed : {program : Program} {reader : Inlet} {start : Flow} {result : Result (Unit {0}) StreamFault}
    {after : Inlet} {now : Flow} {old new : Option (List Telling)} {place : Position} →
    PushesTold program reader start result after now old new place →
    PushesTo program reader start result after now place
was_placed ends = record { all = ends.all; placed = ends.placed }

-- What is known after some batches. The place is how much was given with them.
pub record Underway (program : Program) (first : Inlet) (start : Flow) (old : Option (List Telling)) (reader : Inlet)
    (now : Flow) (new : Option (List Telling)) (place : Position) : Type 0 where
  pub batches : List Batch
  pub follows : Follows start program batches now
  pub gave : Gave first batches reader
  pub is_open : IsOpen reader
  pub counted : now.counts.records ≡ start.counts.records + records_of batches
  pub tellings : List Telling
  pub are : AreTellings first start batches tellings
  pub told : AddsTellings old tellings new
  pub placed : place ≡ reader.given

module _ (program : Program) (first : Inlet) (start : Flow) (old : Option (List Telling)) where
  pub begun : (place : Position) → IsOpen first → place ≡ first.given →
      Underway program first start old first start old place
  begun place is_open placed = record {
    batches = [];
    follows = none_follows start program;
    gave = gave_none first;
    is_open = is_open;
    counted = omega arith;
    tellings = [];
    are = none_told first start;
    told = adds_nothing old;
    placed = placed;
  }

  module _ (mid after : Inlet) (before now : Flow) (so_told new : Option (List Telling)) (place : Position)
      (so_far : Underway program first start old mid before so_told place) where
    pub goes_on : (batch : Batch) (next : Position) → ReadsBatch mid (Ok (Some batch)) after →
        Pushes program batch before (Ok tt) now →
        now.counts.records ≡ before.counts.records + length batch.records → next ≡ after.given →
        AddsTellings so_told (telling next now.counts.records ∷ []) new →
        Underway program first start old after now new next
    goes_on batch next reads pushes more placed tells =
        let gave = gave_more first mid after so_far.batches batch so_far.gave reads in
        let counted : now.counts.records ≡ start.counts.records + records_of (so_far.batches ++ batch ∷ []) =
        omega (arith, more, so_far.counted, total_more so_far.batches batch) in record {
          batches = so_far.batches ++ batch ∷ [];
          follows = one_follows start before now program so_far.batches batch so_far.follows pushes;
          gave = gave;
          is_open = reads.0;
          counted = counted;
          tellings = so_far.tellings ++ telling next now.counts.records ∷ [];
          are = one_told first after start so_far.batches batch so_far.tellings next now.counts.records so_far.are gave
              placed counted;
          told = adds_then old so_told new so_far.tellings (telling next now.counts.records ∷ []) so_far.told tells;
          placed = placed;
        }

    -- ---- how that ends

    abbrev Ends : Result (Unit {0}) StreamFault → Type 0
    Ends result = PushesTold program first start result after now old so_told place

    -- nothing more was pushed
    ends : (result : Result (Unit {0}) StreamFault) → EndsAt start so_far.batches mid result after →
        Pushed start program so_far.batches result now →
        ArePushed start program so_far.batches result now so_far.batches → Ends result
    ends result at pushed are = record {
      all = (so_far.batches, mid, so_far.gave, at, pushed);
      told = (so_far.batches, so_far.tellings, are, so_far.are, so_far.told);
      placed = λ whole. so_far.placed;
    }

    still : now ≡ before → Follows start program so_far.batches now
    still same = subst (λ (f : Flow). Follows start program so_far.batches f) (sym same) so_far.follows

    pub at_end : ReadsBatch mid (Ok None) after → now ≡ before → Ends (Ok tt)
    at_end reads same = ends (Ok tt) reads (still same) refl

    pub unread : (why : ReadFault) (result : Result (Unit {0}) StreamFault) → ReadsBatch mid (Err why) after →
        now ≡ before → result ≡ Err (fault.Read why) → Ends result
    unread why result reads same is = subst Ends (sym is) (ends (Err (fault.Read why)) reads (still same) refl)

    pub unpushed : (batch : Batch) (why : TransformFault) (result : Result (Unit {0}) StreamFault) →
        ReadsBatch mid (Ok (Some batch)) after → Pushes program batch before (Err why) now →
        result ≡ Err (fault.Transform why) → Ends result
    unpushed batch why result reads pushes is = subst Ends (sym is) (by_fault why pushes)
      where
        by_fault : (why : TransformFault) → Pushes program batch before (Err why) now →
            Ends (Err (fault.Transform why))
        by_fault (stop.Output output cause) pushes = record {
          all = (
            so_far.batches ++ batch ∷ [],
            after,
            gave_more first mid after so_far.batches batch so_far.gave reads,
            inl refl,
            one_stops start before now program so_far.batches batch output cause so_far.follows pushes,
          );
          told = (
            so_far.batches,
            so_far.tellings,
            (before, so_far.follows, inr (batch, refl, inl pushes)),
            so_far.are,
            so_far.told,
          );
          placed = λ whole. absurd cc;
        }
        by_fault stop.Full (top, same) =
            ends (Err (fault.Transform stop.Full)) (omega (arith, top, so_far.follows.offset), batch, reads)
            (still same) refl
        by_fault stop.Memory pushes = record {
          all = (
            so_far.batches ++ batch ∷ [],
            after,
            gave_more first mid after so_far.batches batch so_far.gave reads,
            refl,
            record {
              before = so_far.batches;
              last = batch;
              are = refl;
              mid = before;
              follows = so_far.follows;
              pushes = pushes;
            },
          );
          told = (so_far.batches, so_far.tellings, (batch, refl), so_far.are, so_far.told);
          placed = λ whole. absurd cc;
        }

-- ---- and what waits is written

pub written : (start mid new : Flow) (program : Program) (batches : List Batch) → Follows start program batches mid →
    EndsFlow mid (Ok tt) new → Completed start program batches new
written start mid new program batches follows ends = record {
  input = ap (λ (f : Flow). f.input) ends.1 ∙ follows.input;
  offset = ap (λ (f : Flow). f.offset) ends.1 ∙ follows.offset;
  outputs = end_finishes start mid new program batches follows ends;
  counts = end_counts start mid new program batches (Ok tt) follows ends;
}

-- no batch more was given where one isn't read
none_more : (old new : Inlet) (why : ReadFault) → ReadsBatch old (Err why) new → new.given ≡ old.given
none_more old new (read.Batch cause) reads = reads.1
none_more old new read.Read reads = reads
none_more old new read.Memory reads = reads

-- batches that were pushed, where memory ran out at the last one
record Kept (start : Flow) (program : Program) (given : List Batch) (mid : Flow) : Type 0 where
  kept : List Batch
  follows : Follows start program kept mid
  cut : AreCut given kept

kept_first : (start : Flow) (program : Program) (given : List Batch) (mid : Flow) →
    PushedFirst start program given mid → Kept start program given mid
kept_first start program given mid first = by_pushes first.pushes
  where
    by_pushes : PushesFirst program first.last first.mid mid → Kept start program given mid
    by_pushes (inl same) = record {
      kept = first.before;
      follows = subst (λ (f : Flow). Follows start program first.before f) (sym same) first.follows;
      cut = record { before = first.before; last = first.last; given_are = first.are; pushed_are = inl refl };
    }
    by_pushes (inr (count, lt, pushes)) = record {
      kept = first.before ++ first_of count first.last ∷ [];
      follows = one_follows start first.mid mid program first.before (first_of count first.last) first.follows pushes;
      cut = record {
        before = first.before;
        last = first.last;
        given_are = first.are;
        pushed_are = inr (count, lt, refl);
      };
    }

-- what waits is written, or an output partition fails there
abbrev WhereEnded : Flow → Program → List Batch → List Batch → Flow → Flow → Type 0
WhereEnded start program given pushed mid now = (output : ℕ) (why : OutletFault) →
    EndsFlow mid (Err (stop.Output output why)) now →
    Transformed start program given (Err (fault.Transform (stop.Output output why))) now
    × ArePushed start program given (Err (fault.Transform (stop.Output output why))) now pushed

-- What is known where no output partition failed before the end.
record Unbroken (start : Flow) (program : Program) (given pushed : List Batch) (result : Result (Unit {0}) StreamFault)
    (mid now : Flow) (last after : Inlet) : Type 0 where
  done : EndsFlow mid (Ok tt) now → Transformed start program given result now
  told : EndsFlow mid (Ok tt) now → ArePushed start program given result now pushed
  failed : WhereEnded start program given pushed mid now
  ended : (after.given ≡ last.given) ⊎ ((batch : Batch) × ReadsBatch last (Ok (Some batch)) after)

-- an output partition failed at the end of all batches
all_failed : (start : Flow) (program : Program) (given pushed : List Batch) (mid now : Flow) →
    Follows start program given mid → given ≡ pushed → WhereEnded start program given pushed mid now
all_failed start program given pushed mid now follows same output why ends = (
  (given, record { are = inl refl; all = λ full. refl }, end_stops start mid now program given output why follows ends),
  (mid, subst (λ (bs : List Batch). Follows start program bs mid) same follows, inl (same, ends)),
)

-- or where memory had run out
cut_failed : (start : Flow) (program : Program) (given pushed : List Batch) (mid now : Flow) →
    PushedFirst start program given mid → (failed : Batch) → given ≡ pushed ++ failed ∷ [] →
    WhereEnded start program given pushed mid now
cut_failed start program given pushed mid now first failed is output why ends =
    let kept = kept_first start program given mid first in
    let same = same_from_push first.before pushed first.last failed (sym first.are ∙ is) in (
      (
        kept.kept,
        record { are = inr kept.cut; all = λ full. absurd (ends.0.here.0 full) },
        end_stops start mid now program kept.kept output why kept.follows ends,
      ),
      (
        first.mid,
        subst (λ (bs : List Batch). Follows start program bs first.mid) same.0 first.follows,
        inr (
          failed,
          is,
          inr (mid, subst (λ (b : Batch). PushesFirst program b first.mid mid) same.1 first.pushes, ends),
        ),
      ),
    )

unbroken : (start : Flow) (program : Program) (given pushed : List Batch) (result : Result (Unit {0}) StreamFault)
    (mid now : Flow) (last after : Inlet) → is_broken result ≡ false → EndsAt start given last result after →
    Pushed start program given result mid → ArePushed start program given result mid pushed →
    Unbroken start program given pushed result mid now last after
unbroken start program given pushed (Ok done) mid now last after is at follows are = record {
  done = written start mid now program given follows;
  told = λ ends. are;
  failed = all_failed start program given pushed mid now follows are;
  ended = inl at.2;
}
unbroken start program given pushed (Err (fault.Read why)) mid now last after is at follows are = record {
  done = written start mid now program given follows;
  told = λ ends. are;
  failed = all_failed start program given pushed mid now follows are;
  ended = inl (none_more last after why at);
}
unbroken start program given pushed (Err (fault.Transform stop.Full)) mid now last after is at follows are = record {
  done = written start mid now program given follows;
  told = λ ends. are;
  failed = all_failed start program given pushed mid now follows are;
  ended = inr (at.1, at.2);
}
unbroken start program given pushed (Err (fault.Transform stop.Memory)) mid now last after is at first are =
    let kept = kept_first start program given mid first in record {
      done = λ ends. (kept.kept, kept.cut, written start mid now program kept.kept kept.follows ends);
      told = λ ends. are;
      failed = cut_failed start program given pushed mid now first are.0 are.1;
      ended = inl (ap (λ (i : Inlet). i.given) at);
    }
unbroken start program given pushed (Err (fault.Transform (stop.Output output why))) mid now last after is at follows
    are = absurd cc

module _ (program : Program) (first : Inlet) (start : Flow) (result : Result (Unit {0}) StreamFault) (after : Inlet)
    (mid now : Flow) (old new : Option (List Telling))
    (watched : PushesWatched program first start result after mid old new) where
  known : is_broken result ≡ false →
      Unbroken start program watched.all.0 watched.told.0 result mid now watched.all.1 after
  known whole = unbroken start program watched.all.0 watched.told.0 result mid now watched.all.1 after whole
      watched.all.3 watched.all.4 watched.told.2

  pub all_written : is_broken result ≡ false → EndsFlow mid (Ok tt) now →
      TransformsWatched program first start result after now old new
  all_written whole ends =
      let all = watched.all in let tells = watched.told in let is = known whole in record {
        all = (all.0, all.1, all.2, all.3, is.done ends);
        told = (tells.0, tells.1, is.told ends, tells.3, tells.4);
      }

  -- an output partition failed at the end
  pub unwritten : (why : TransformFault) → is_broken result ≡ false → EndsFlow mid (Err why) now →
      TransformsWatched program first start (Err (fault.Transform why)) after now old new
  unwritten stop.Full whole ends = absurd ends.0
  unwritten stop.Memory whole ends = absurd ends.0
  unwritten (stop.Output output why) whole ends =
      let all = watched.all in let tells = watched.told in let is = known whole in
      let both = is.failed output why ends in record {
        all = (all.0, all.1, all.2, is.ended, both.0);
        told = (tells.0, tells.1, both.1, tells.3, tells.4);
      }

-- an output partition failed before the end, so that nothing more is written
pub stays_broken : (program : Program) (first : Inlet) (start : Flow) (result : Result (Unit {0}) StreamFault)
    (after : Inlet) (now : Flow) (old new : Option (List Telling)) → is_broken result ≡ true →
    PushesWatched program first start result after now old new →
    TransformsWatched program first start result after now old new
stays_broken program first start (Err (fault.Transform (stop.Output output why))) after now old new is watched =
    let all = watched.all in record {
      all = (all.0, all.1, all.2, all.3, (all.0, record { are = inl refl; all = λ full. refl }, all.4));
      told = watched.told;
    }
stays_broken program first start (Ok done) after now old new is watched = absurd cc
stays_broken program first start (Err (fault.Read why)) after now old new is watched = absurd cc
stays_broken program first start (Err (fault.Transform stop.Full)) after now old new is watched = absurd cc
stays_broken program first start (Err (fault.Transform stop.Memory)) after now old new is watched = absurd cc
