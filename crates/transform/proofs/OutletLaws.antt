-- Batches of the rows of an output, one after the other, and what a writer has of them.
use Rattle.std.proofs.Common.{◌≡◌, ℕ, ◌+◌, ◌<◌, ◌≤◌, List, [], ◌∷◌, ◌++◌, length, take, Option, refl, sym, ap, subst}
use Rattle.std.proofs.Common.{◌∙◌, append_assoc, ⊎_elim, inl, inr, arith}
use Rattle.std.specs.{List.concat, Io.KnownBytes.Appends}
use Rattle.std.proofs.{KnownBytes.Appends-nil, KnownBytes.Appends-trans, lemmas.List.Folds.concat-append}
use Rattle.std.proofs.lemmas.List.{take-append-le, drop-append-le, length-append, length-drop}
use Rattle.wire_spec.specs.{BatchSpelling.batch_spelling, BatchSpelling.BatchFits}
use Rattle.wire_spec.specs.{declared.limits.TheConstants.MAX_BATCH, Writing.HasBegun}
use Rattle.log_spec.specs.declared.row.Row.{Row}
use Rattle.row_batch.specs.RowBatches.{batch_of}
use Rattle.transform.specs.declared.outlet.OutletFault.{OutletFault}
use Rattle.transform.specs.declared.outlet.OutletFault.TheVariants as cause
use Rattle.transform.specs.Backlogs.{Waiting, having, with_rows, ShowsSame, rest_after, IsBatchOf, IsFull}
use Rattle.transform.specs.Outlets.{AreFull, AreBatches, WroteFull, WroteBatches, WrotePart, Stops, StopsFull}
use Rattle.transform.proofs.ShownLaws.{same_length, full_from, batches_from, full_to, with_same}
use Rattle.wire_spec.proofs.Beginnings.{begun_then}

-- full batches are batches
all_batches : (old new : Waiting) (batches : List (List ℕ)) → AreFull old batches new → AreBatches old batches new
all_batches old new [] are = are
all_batches old new (bytes ∷ others) are =
    (are.0, are.1, λ lt. are.2, all_batches (rest_after old are.0) new others are.3)

-- as many rows as waited wait or are in batches
pub total : (old new : Waiting) (batches : List (List ℕ)) → AreBatches old batches new →
    new.place + length new.rows ≡ old.place + length old.rows
total old new [] is = omega (arith, same_length old new is, ap (λ (w : Waiting). w.place) is)
total old new (bytes ∷ others) are =
    let later = total (rest_after old are.0) new others are.3 in
    omega (arith, later, are.1.there, length-drop are.0 old.rows)

-- as many batches more as were written
pub batches_counted : (old new : Waiting) (batches : List (List ℕ)) → AreBatches old batches new →
    new.batches ≡ old.batches + length batches
batches_counted old new [] is = omega (arith, ap (λ (w : Waiting). w.batches) is)
batches_counted old new (bytes ∷ others) are =
    omega (arith, batches_counted (rest_after old are.0) new others are.3)

-- ---- what a writer has

pub full_none : (w : Waiting) (a : Option (List ℕ)) → WroteFull w a w a
full_none w a = record { batches = []; are = refl; written = Appends-nil a }

pub batches_none : (w : Waiting) (a : Option (List ℕ)) → WroteBatches w a w a
batches_none w a = record { batches = []; are = refl; written = Appends-nil a }

pub wrote_batches : (old new : Waiting) (before after : Option (List ℕ)) → WroteFull old before new after →
    WroteBatches old before new after
wrote_batches old new before after wrote = record {
  batches = wrote.batches;
  are = all_batches old new wrote.batches wrote.are;
  written = wrote.written;
}

pub wrote_to : (old mid new : Waiting) (before after : Option (List ℕ)) → WroteFull old before mid after →
    ShowsSame new mid → WroteFull old before new after
wrote_to old mid new before after wrote same = record {
  batches = wrote.batches;
  are = full_to old mid new wrote.batches wrote.are same;
  written = wrote.written;
}

-- ---- rows that come later

-- the first rows are the same with rows more behind them
same_first : (rows more : List Row) (count : ℕ) → count ≤ length rows → take count rows ≡ take count (rows ++ more)
same_first rows more count le = sym (take-append-le count rows more le)

pub batch_with : (w : Waiting) (more : List Row) (count : ℕ) (bytes : List ℕ) → IsBatchOf w count bytes →
    IsBatchOf (with_rows w more) count bytes
batch_with w more count bytes is =
    let same = same_first w.rows more count is.there in record {
      some = is.some;
      there = omega (arith, is.there, length-append w.rows more);
      fits = subst (λ (rs : List Row). BatchFits (batch_of w.place rs)) same is.fits;
      bytes_are = is.bytes_are ∙ ap (λ (rs : List Row). batch_spelling (batch_of w.place rs)) same;
    }

pub full_with : (w : Waiting) (more : List Row) (count : ℕ) → IsFull w count → IsFull (with_rows w more) count
full_with w more count full = ⊎_elim (λ many. inl many) (λ large.
    let same = same_first w.rows more (count + 1) (omega (arith, large.0)) in
    inr (
      omega (arith, large.0, length-append w.rows more),
      subst (λ (rs : List Row). MAX_BATCH < length (batch_spelling (batch_of w.place rs))) same large.1,
    )) full

rest_with : (w : Waiting) (more : List Row) (count : ℕ) → count ≤ length w.rows →
    with_rows (rest_after w count) more ≡ rest_after (with_rows w more) count
rest_with w more count le = ap (having (rest_after w count)) (sym (drop-append-le count w.rows more le))

all_with : (old new : Waiting) (more : List Row) (batches : List (List ℕ)) → AreFull old batches new →
    AreFull (with_rows old more) batches (with_rows new more)
all_with old new more [] is = with_same old new more is
all_with old new more (bytes ∷ others) are = (
  are.0,
  batch_with old more are.0 bytes are.1,
  full_with old more are.0 are.2,
  subst (λ (w : Waiting). AreFull w others (with_rows new more)) (rest_with old more are.0 are.1.there)
      (all_with (rest_after old are.0) new more others are.3),
)

pub wrote_with : (old new : Waiting) (before after : Option (List ℕ)) (more : List Row) →
    WroteFull old before new after →
    WroteFull (with_rows old more) before (with_rows new more) after
wrote_with old new before after more wrote = record {
  batches = wrote.batches;
  are = all_with old new more wrote.batches wrote.are;
  written = wrote.written;
}

-- ---- batches after batches

full_then : (old mid new : Waiting) (first last : List (List ℕ)) → AreFull old first mid → AreFull mid last new →
    AreFull old (first ++ last) new
full_then old mid new [] last same are = full_from old mid new last same are
full_then old mid new (bytes ∷ others) last first are =
    (first.0, first.1, first.2, full_then (rest_after old first.0) mid new others last first.3 are)

batches_then : (old mid new : Waiting) (first last : List (List ℕ)) → AreBatches old first mid →
    AreBatches mid last new → AreBatches old (first ++ last) new
batches_then old mid new [] last same are = batches_from old mid new last same are
batches_then old mid new (bytes ∷ others) last first are =
    (first.0, first.1, first.2, batches_then (rest_after old first.0) mid new others last first.3 are)

written_then : (a b c : Option (List ℕ)) (first last : List (List ℕ)) → Appends a b (concat first) →
    Appends b c (concat last) → Appends a c (concat (first ++ last))
written_then a b c first last one two =
    subst (λ (bs : List ℕ). Appends a c bs) (sym (concat-append first last))
    (Appends-trans a b c (concat first) (concat last) one two)

pub wrote_then : (old mid new : Waiting) (a b c : Option (List ℕ)) → WroteFull old a mid b → WroteFull mid b new c →
    WroteFull old a new c
wrote_then old mid new a b c one two = record {
  batches = one.batches ++ two.batches;
  are = full_then old mid new one.batches two.batches one.are two.are;
  written = written_then a b c one.batches two.batches one.written two.written;
}

pub wrote_then_batches : (old mid new : Waiting) (a b c : Option (List ℕ)) → WroteFull old a mid b →
    WroteBatches mid b new c → WroteBatches old a new c
wrote_then_batches old mid new a b c one two = record {
  batches = one.batches ++ two.batches;
  are = batches_then old mid new one.batches two.batches (all_batches old mid one.batches one.are) two.are;
  written = written_then a b c one.batches two.batches one.written two.written;
}

wrote_then_part : (old mid : Waiting) (a b c : Option (List ℕ)) → WroteFull old a mid b → WrotePart mid b c →
    WrotePart old a c
wrote_then_part old mid a b c one two =
    let all : concat one.batches ++ (concat two.batches ++ two.next) ≡ concat (one.batches ++ two.batches) ++ two.next =
    sym (append_assoc (concat one.batches) (concat two.batches) two.next)
    ∙ ap (λ (bs : List ℕ). bs ++ two.next) (sym (concat-append one.batches two.batches)) in
    record {
      batches = one.batches ++ two.batches;
      rest = two.rest;
      are = full_then old mid two.rest one.batches two.batches one.are two.are;
      count = two.count;
      next = two.next;
      next_is = two.next_is;
      written = subst (λ (bs : List ℕ). HasBegun a c bs) all
          (begun_then a b c (concat one.batches) (concat two.batches ++ two.next) one.written two.written);
    }

pub wrote_then_stops : (old mid : Waiting) (a b c : Option (List ℕ)) (why : OutletFault) → WroteFull old a mid b →
    Stops mid b why c → Stops old a why c
wrote_then_stops old mid a b c cause.Write one two = wrote_then_part old mid a b c one two
wrote_then_stops old mid a b c cause.Full one (many, rest, two) =
    let same = total old mid one.batches (all_batches old mid one.batches one.are) in
    (omega (arith, many, same), rest, wrote_then_batches old mid rest a b c one two)
wrote_then_stops old mid a b c cause.Memory one (rest, two) = (rest, wrote_then_batches old mid rest a b c one two)

-- ---- full batches before a fault

pub wrote_then_stops_full : (old mid : Waiting) (a b c : Option (List ℕ)) (why : OutletFault) → WroteFull old a mid b →
    StopsFull mid b why c → StopsFull old a why c
wrote_then_stops_full old mid a b c cause.Write one two = wrote_then_part old mid a b c one two
wrote_then_stops_full old mid a b c cause.Full one (many, rest, two) =
    let same = total old mid one.batches (all_batches old mid one.batches one.are) in
    (omega (arith, many, same), rest, wrote_then old mid rest a b c one two)
wrote_then_stops_full old mid a b c cause.Memory one (rest, two) = (rest, wrote_then old mid rest a b c one two)

-- rows that come later change nothing
pub stops_with : (w : Waiting) (a b : Option (List ℕ)) (why : OutletFault) (more : List Row) → StopsFull w a why b →
    StopsFull (with_rows w more) a why b
stops_with w a b cause.Write more stops = record {
  batches = stops.batches;
  rest = with_rows stops.rest more;
  are = all_with w stops.rest more stops.batches stops.are;
  count = stops.count;
  next = stops.next;
  next_is = batch_with stops.rest more stops.count stops.next stops.next_is;
  written = stops.written;
}
stops_with w a b cause.Full more (many, rest, wrote) =
    (omega (arith, many, length-append w.rows more), with_rows rest more, wrote_with w rest a b more wrote)
stops_with w a b cause.Memory more (rest, wrote) = (with_rows rest more, wrote_with w rest a b more wrote)

-- whole batches were written then too
pub full_stops : (w : Waiting) (a b : Option (List ℕ)) (why : OutletFault) → StopsFull w a why b → Stops w a why b
full_stops w a b cause.Write stops = stops
full_stops w a b cause.Full (many, rest, wrote) = (many, rest, wrote_batches w rest a b wrote)
full_stops w a b cause.Memory (rest, wrote) = (rest, wrote_batches w rest a b wrote)
