-- The rows that wait are one batch that is being filled: what adding a row and writing the batch do.
use Rattle.std.proofs.Common.{◌≡◌, ℕ, suc, ◌+◌, ◌<◌, ◌≤◌, ◌^◌, Bool, true, false, List, [], ◌∷◌, length, drop, Option}
use Rattle.std.proofs.Common.{Result, Ok, Err, slice_get, slice_index_or, Some, refl, sym, ap, subst, ◌∙◌}
use Rattle.std.proofs.Common.{append-nil, drop-cons, arith}
use Rattle.std.specs.Io.KnownBytes.{Appends}
use Rattle.std.proofs.lemmas.List.{drop_at, drop_all, length-append, length-drop}
use Rattle.std.proofs.lemmas.Option.{get_or_from_slice_get}
use Rattle.log_spec.specs.declared.row.Row.{Row}
use Rattle.transform.specs.declared.outlet.OutletFault.{OutletFault}
use Rattle.transform.specs.declared.outlet.OutletFault.TheVariants as fault
use Rattle.transform.specs.Backlogs.{Waiting, having, with_rows, as_shown, rest_after, none_after}
use Rattle.transform.specs.Backlogs.{IsBatchOf, IsFull, TakesRow}
use Rattle.transform.specs.Outlets.{WroteFull, WroteBatches, FailsFull, PutsAll, PutsOpen}
use Rattle.transform.proofs.ShownLaws.{one_shown, more_with}
use Rattle.transform.proofs.OutletLaws.{full_none, batches_none, wrote_batches, wrote_to, wrote_then}
use Rattle.transform.proofs.OutletLaws.{wrote_then_stops_full, batch_with, full_with, total}

-- ---- one row

-- the batch that waits has no room for the row
record IsTooMuch (old : Waiting) (row : Row) (others : List Row) (bytes : List ℕ) : Type 0 where
  pub batch : IsBatchOf (with_rows old (row ∷ others)) (length old.rows) bytes
  pub full : IsFull (with_rows old (row ∷ others)) (length old.rows)

too_much : (old : Waiting) (row : Row) (others : List Row) (bytes : List ℕ) →
    IsFull (with_rows old (row ∷ [])) (length old.rows) → IsBatchOf old (length old.rows) bytes →
    IsTooMuch old row others bytes
too_much old row others bytes full batch = record {
  batch = batch_with old (row ∷ others) (length old.rows) bytes batch;
  full = subst (λ (w : Waiting). IsFull w (length old.rows)) (more_with old (row ∷ []) others)
      (full_with (with_rows old (row ∷ [])) others (length old.rows) full);
}

-- what waits after the batch
rest_is : (old : Waiting) (more : List Row) →
    rest_after (with_rows old more) (length old.rows) ≡ having (none_after old) more
rest_is old more = ap (having (none_after old)) (drop_at old.rows more (length old.rows) refl)

-- the batch was written, and the row waits
wrote_open : (old : Waiting) (row : Row) (others : List Row) (before after : Option (List ℕ)) (bytes : List ℕ) →
    IsTooMuch old row others bytes → Appends before after bytes →
    WroteFull (with_rows old (row ∷ others)) before (having (none_after old) (row ∷ others)) after
wrote_open old row others before after bytes much written = record {
  batches = bytes ∷ [];
  are = (
    length old.rows,
    much.batch,
    much.full,
    ap as_shown (sym (rest_is old (row ∷ others))),
  );
  written = subst (λ (bs : List ℕ). Appends before after bs) (sym (append-nil bytes)) written;
}

-- what is known of a call of which nothing had changed before
opened : (old mid new : Waiting) (row : Row) (before after : Option (List ℕ)) (result : Result (Unit {0}) OutletFault) →
    TakesRow false old row mid → PutsOpen mid before result new after → PutsOpen old before result new after
opened old mid new row before after result full puts =
    subst (λ (w : Waiting). PutsOpen w before result new after) full.0 puts

pub put_after : (old same mid new : Waiting) (row : Row) (others : List Row) (before after : Option (List ℕ)) →
    TakesRow false old row same → PutsOpen same before (Ok tt) mid after → (added : Bool) → TakesRow added mid row new →
    WroteFull (with_rows old (row ∷ others)) before (with_rows new others) after
put_after old same mid new row others before after full puts true takes =
    let wrote : PutsOpen old before (Ok tt) mid after = opened old same mid row before after (Ok tt) full puts in
    let empty : Waiting = none_after old in
    let takes' : TakesRow true empty row new = subst (λ (w : Waiting). TakesRow true w row new) wrote.1.1 takes in
    wrote_to (with_rows old (row ∷ others)) (with_rows empty (row ∷ others)) (with_rows new others) before after
    (wrote_open old row others before after wrote.0 (too_much old row others wrote.0 full.2 wrote.1.0) wrote.2)
    (one_shown empty new row others takes')
put_after old same mid new row others before after full (bytes, given, written) false takes =
    let none : length mid.rows ≡ 0 = ap (λ (w : Waiting). length w.rows) given.1 in
    absurd (omega (arith, none, takes.1))

-- memory ran out before the row was added
pub stops_before : (old : Waiting) (rows : List Row) (held : Option (List ℕ)) →
    FailsFull (with_rows old rows) held fault.Memory held
stops_before old rows held = (λ e. absurd cc, (with_rows old rows, full_none (with_rows old rows) held))

-- or after the batch was written
pub stops_after : (old same mid : Waiting) (row : Row) (others : List Row) (before after : Option (List ℕ)) →
    TakesRow false old row same → PutsOpen same before (Ok tt) mid after →
    FailsFull (with_rows old (row ∷ others)) before fault.Memory after
stops_after old same mid row others before after full puts =
    let wrote : PutsOpen old before (Ok tt) mid after = opened old same mid row before after (Ok tt) full puts in (
      λ e. absurd cc,
      (
        having (none_after old) (row ∷ others),
        wrote_open old row others before after wrote.0 (too_much old row others wrote.0 full.2 wrote.1.0) wrote.2,
      ),
    )

-- or the batch was not written
pub stops_open : (old same mid : Waiting) (row : Row) (others : List Row) (before after : Option (List ℕ))
    (why : OutletFault) → TakesRow false old row same → PutsOpen same before (Err why) mid after →
    FailsFull (with_rows old (row ∷ others)) before why after
stops_open old same mid row others before after why full puts =
    by_fault why (opened old same mid row before after (Err why) full puts)
  where
    by_fault : (why : OutletFault) → PutsOpen old before (Err why) mid after →
        FailsFull (with_rows old (row ∷ others)) before why after
    by_fault fault.Write (bytes, batch, begun) = (
      λ e. absurd cc,
      record {
        batches = [];
        rest = with_rows old (row ∷ others);
        are = refl;
        count = length old.rows;
        next = bytes;
        next_is = batch_with old (row ∷ others) (length old.rows) bytes batch;
        written = begun;
      },
    )
    by_fault fault.Memory kept =
        subst (λ (h : Option (List ℕ)). FailsFull (with_rows old (row ∷ others)) before fault.Memory h) (sym kept)
        (stops_before old (row ∷ others) before)
    by_fault fault.Full never = absurd never

-- ---- all rows

-- there is room for one more
pub room_for : (old mid : Waiting) (rows : List Row) (index : ℕ) (before after : Option (List ℕ)) →
    WroteFull (with_rows old rows) before (with_rows mid (drop index rows)) after → index < length rows →
    old.place + length old.rows + length rows ≤ 2 ^ 63 → mid.place + length mid.rows < 2 ^ 63
room_for old mid rows index before after wrote more room =
    let all = wrote_batches (with_rows old rows) (with_rows mid (drop index rows)) before after wrote in
    let same = total (with_rows old rows) (with_rows mid (drop index rows)) all.batches all.are in
    omega (
      arith,
      same,
      length-append old.rows rows,
      length-append mid.rows (drop index rows),
      length-drop index rows,
      more,
      room,
    )

-- a row of a list
pub row_is : (rows : List Row) (index : ℕ) (row : Row) → slice_get rows index ≡ Some row →
    row ≡ slice_index_or rows index row
row_is rows index row at = sym (get_or_from_slice_get rows index row row at)

-- the first of the rows that are left, and the others
pub first_left : (rows : List Row) (index : ℕ) (row : Row) → index < length rows → row ≡ slice_index_or rows index row →
    drop index rows ≡ row ∷ drop (index + 1) rows
first_left rows index row more is =
    let next : suc index ≡ index + 1 = omega arith in
    drop-cons rows index row more
    ∙ (ap (λ (r : Row). r ∷ drop (suc index) rows) (sym is) ∙ ap (λ (n : ℕ). row ∷ drop n rows) next)

-- one row more, or none
pub put_next : (old mid new : Waiting) (rows : List Row) (index : ℕ) (a b c : Option (List ℕ)) →
    WroteFull (with_rows old rows) a (with_rows mid (drop index rows)) b →
    WroteFull (with_rows mid (drop index rows)) b (with_rows new (drop (index + 1) rows)) c →
    WroteFull (with_rows old rows) a (with_rows new (drop (index + 1) rows)) c
put_next old mid new rows index a b c so_far next =
    wrote_then (with_rows old rows) (with_rows mid (drop index rows)) (with_rows new (drop (index + 1) rows)) a b c
    so_far next

pub put_stops : (old mid : Waiting) (rows : List Row) (index : ℕ) (a b c : Option (List ℕ)) (why : OutletFault) →
    WroteFull (with_rows old rows) a (with_rows mid (drop index rows)) b →
    FailsFull (with_rows mid (drop index rows)) b why c → FailsFull (with_rows old rows) a why c
put_stops old mid rows index a b c why so_far next = (
  next.0,
  wrote_then_stops_full (with_rows old rows) (with_rows mid (drop index rows)) a b c why so_far next.1,
)

-- ---- the end

all_open : (old new : Waiting) (before after : Option (List ℕ)) → PutsOpen old before (Ok tt) new after →
    WroteBatches old before new after
all_open old new before after (bytes, given, written) =
    let none : rest_after old (length old.rows) ≡ none_after old =
    ap (having (none_after old)) (drop_all (length old.rows) old.rows (omega arith)) in record {
      batches = bytes ∷ [];
      are = (
        length old.rows,
        given.0,
        λ lt. absurd (omega (arith, lt)),
        ap as_shown (given.1 ∙ sym none),
      );
      written = subst (λ (bs : List ℕ). Appends before after bs) (sym (append-nil bytes)) written;
    }

pub puts_all : (old new : Waiting) (before after : Option (List ℕ)) (result : Result (Unit {0}) OutletFault) →
    PutsOpen old before result new after → PutsAll old before result new after
puts_all old new before after (Ok done) puts =
    (all_open old new before after puts, ap (λ (w : Waiting). w.rows) puts.1.1)
puts_all old new before after (Err fault.Write) (bytes, batch, begun) = (
  λ e. absurd cc,
  record {
    batches = [];
    rest = old;
    are = refl;
    count = length old.rows;
    next = bytes;
    next_is = batch;
    written = begun;
  },
)
puts_all old new before after (Err fault.Memory) same = (
  λ e. absurd cc,
  (
    old,
    subst (λ (h : Option (List ℕ)). WroteBatches old before old h) (sym same)
        (batches_none old before),
  ),
)
puts_all old new before after (Err fault.Full) never = absurd never
