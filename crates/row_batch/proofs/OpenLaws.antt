-- A batch that is being filled: what it has, one row more, and the whole batch.
use Rattle.std.proofs.Common.{◌≡◌, ℕ, zero, suc, ◌+◌, ◌-◌, ◌^◌, ◌<◌, ◌≤◌, pos, max, Bool, true, false, List, [], ◌∷◌}
use Rattle.std.proofs.Common.{◌++◌, length, take, drop, map, get_or, replicate, refl, sym, ap, subst, ◌∙◌, inl, inr}
use Rattle.std.proofs.Common.{arith, ℤ, All, if◌then◌else◌}
use Rattle.std.specs.Int.{w32, to_be_bytes}
use Rattle.std.proofs.{lemmas.Bool.ne_eqb, lemmas.List.Elements.All-append, lemmas.List.Elements.All-nil}
use Rattle.std.proofs.Math.Seq.{get_or-append_seam}
use Rattle.std.proofs.lemmas.List.{length-append, length-replicate, append-nil, take_all, take-append-le, map_push}
use Rattle.std.proofs.lemmas.List.{length-take}
use Rattle.wire_spec.specs.declared.limits.TheConstants.{MAX_BATCH, MAX_RECORDS}
use Rattle.wire_spec.specs.{declared.record.Batch.Batch, RecordSpelling.record_spelling, Checksum.checksum}
use Rattle.wire_spec.specs.BatchSpelling.{timestamps, greatest, records_spelling, batch_spelling, BatchFits}
use Rattle.log_spec.specs.{declared.row.Row.Row, Logs.RowFits}
use Rattle.batch.specs.Heads.{front_of, header_of}
use Rattle.row_batch.specs.RowBatches.{record_of, first_timestamp, head_of, batch_of}
use Rattle.row_batch.specs.FirstRows.{size_with, IsMeasured, PutsIfRoom, HasPut}
use Rattle.row_batch.specs.OpenBatches.{shown, AddsIfRoom, rows_in, HasRows, IsOpen, base_with, padded}
use Rattle.row_batch.proofs.RowLaws.{batch_size, one_row, first_is, written_is}
use Rattle.row_batch.proofs.RoomLaws.{SoFar, none_so_far, one_more_put, no_more_put, all_put, front_long, front_put}
use Rattle.row_batch.proofs.ShownLaws.{shown_batch, in_shown, none_in, all_in}

-- ---- what a batch that is being filled has

pub count_in : (base count latest : ℕ) (bytes : List ℕ) → IsOpen base count latest bytes →
    length (rows_in base count bytes) ≡ count
count_in base zero latest bytes kept = ap length (none_in base bytes)
count_in base (suc n) latest bytes (inl without) = absurd (omega (arith, without.none))
count_in base (suc n) latest bytes (inr has) = sym has.count_is

pub few_in : (base count latest : ℕ) (bytes : List ℕ) → IsOpen base count latest bytes → count ≤ MAX_RECORDS
few_in base count latest bytes (inl without) = omega (arith, without.none)
few_in base count latest bytes (inr has) = has.few

-- where there is no row, there is none with other bytes
pub still_none : (base count latest : ℕ) (bytes other : List ℕ) → IsOpen base count latest bytes →
    rows_in base count bytes ≡ [] → rows_in base count other ≡ []
still_none base count latest bytes other kept none =
    let zero_is : count ≡ 0 = sym (count_in base count latest bytes kept) ∙ ap length none in
    ap (λ (n : ℕ). rows_in base n other) zero_is ∙ none_in base other

-- where there is a row, the bytes are those of the rows
pub some_in : (base count latest : ℕ) (bytes : List ℕ) (rows : List Row) → IsOpen base count latest bytes →
    rows_in base count bytes ≡ rows → 1 ≤ length rows → HasRows base count latest bytes rows
some_in base count latest bytes rows (inl without) seen some =
    let kept : IsOpen base count latest bytes = inl without in
    absurd (omega (arith, without.none, count_in base count latest bytes kept, ap length seen, some))
some_in base count latest bytes rows (inr has) seen some = subst (HasRows base count latest bytes) seen has

pub long_enough : (bytes : List ℕ) → length (take 61 bytes) ≡ 61 → 61 ≤ length bytes
long_enough bytes before = omega (arith, before, length-take 61 bytes)

-- ---- bytes with room for what is before the records

pub padded_short : (bytes : List ℕ) → length bytes < 61 →
    take 61 bytes ++ replicate (61 - length bytes) 0 ≡ padded bytes
padded_short bytes short =
    ap (λ (front : List ℕ). front ++ replicate (61 - length bytes) 0) (take_all 61 bytes (omega (arith, short)))

pub padded_long : (bytes : List ℕ) → 61 ≤ length bytes → padded bytes ≡ bytes
padded_long bytes long =
    let none : 61 - length bytes ≡ 0 = omega (arith, long) in
    ap (λ (n : ℕ). bytes ++ replicate n 0) none ∙ append-nil bytes

padded_size : (bytes : List ℕ) → length bytes ≤ 61 → length (padded bytes) ≡ 61
padded_size bytes short =
    omega (
      arith,
      short,
      length-append bytes (replicate (61 - length bytes) 0),
      length-replicate {A = ℕ} (61 - length bytes) 0,
    )

pub padded_in : (base count latest : ℕ) (bytes : List ℕ) → IsOpen base count latest bytes →
    rows_in base count (padded bytes) ≡ rows_in base count bytes
padded_in base zero latest bytes kept = none_in base (padded bytes) ∙ sym (none_in base bytes)
padded_in base (suc n) latest bytes (inl without) = absurd (omega (arith, without.none))
padded_in base (suc n) latest bytes (inr has) =
    ap (rows_in base (suc n)) (padded_long bytes (long_enough bytes has.before))

-- ---- one row more

-- the bytes are ready for one row more, with which the base timestamp is this one
pub record IsReady (base count latest : ℕ) (out : List ℕ) (rows : List Row) (row : Row) : Type 0 where
  pub count_is : count ≡ length rows
  pub fit : All RowFits rows
  pub base_is : base ≡ first_timestamp (rows ++ shown row ∷ [])
  pub before : length (take 61 out) ≡ 61
  pub so_far : SoFar base (rows ++ shown row ∷ []) count latest (take 61 out) out

first_more : (rows more : List Row) → 1 ≤ length rows → first_timestamp rows ≡ first_timestamp (rows ++ more)
first_more [] more some = absurd (omega (arith, some))
first_more (row ∷ rows) more some = refl

none_ready : (base latest : ℕ) (out : List ℕ) (rows : List Row) (row : Row) → length out ≡ 61 → latest ≡ 0 →
    rows ≡ [] → base ≡ row.timestamp → IsReady base 0 latest out rows row
none_ready base latest out rows row long earliest none same =
    let front : take 61 out ≡ out = take_all 61 out (omega (arith, long)) in
    let before : length (take 61 out) ≡ 61 = ap length front ∙ long in
    let begun : SoFar base (shown row ∷ []) 0 0 (take 61 out) (take 61 out) =
    none_so_far base (shown row ∷ []) (take 61 out) before in
    let written : SoFar base (shown row ∷ []) 0 0 (take 61 out) out =
    subst (SoFar base (shown row ∷ []) 0 0 (take 61 out)) front begun in
    subst (λ (rs : List Row). IsReady base 0 latest out rs row) (sym none)
    (subst (λ (n : ℕ). IsReady base 0 n out [] row) (sym earliest) (record {
      count_is = refl;
      fit = All-nil RowFits;
      base_is = same;
      before = before;
      so_far = written;
    }))

some_ready : (base count latest : ℕ) (bytes : List ℕ) (rows : List Row) (row : Row) →
    HasRows base count latest bytes rows → IsReady base count latest bytes rows row
some_ready base count latest bytes rows row has =
    let both = rows ++ shown row ∷ [] in
    let some : 1 ≤ length rows = omega (arith, has.some, has.count_is) in
    let same : take count rows ≡ take count both =
    sym (take-append-le count rows (shown row ∷ []) (omega (arith, has.count_is))) in
    record {
      count_is = has.count_is;
      fit = has.fit;
      base_is = has.base_is ∙ first_more rows (shown row ∷ []) some;
      before = has.before;
      so_far = record {
        up_to = record {
          size_is = has.put.measured.size_is ∙ ap (λ (rs : List Row). size_with (map (record_of base) rs)) same;
          small = has.put.measured.small;
          latest_is = has.put.measured.latest_is
              ∙ ap (λ (rs : List Row). greatest (timestamps (pos base) (map (record_of base) rs))) same;
          in_time = has.put.measured.in_time;
        };
        put_are = has.put.put_are
            ∙ ap (λ (rs : List Row). take 61 bytes ++ records_spelling 0 (map (record_of base) rs)) same;
      };
    }

pub ready : (base count latest : ℕ) (bytes : List ℕ) (row : Row) → IsOpen base count latest bytes →
    IsReady (base_with base count row) count latest (padded bytes) (rows_in base count bytes) row
ready base zero latest bytes row (inl without) =
    none_ready row.timestamp latest (padded bytes) (rows_in base 0 bytes) row (padded_size bytes without.short)
    without.earliest (none_in base bytes) refl
ready base zero latest bytes row (inr has) = absurd (omega (arith, has.some))
ready base (suc n) latest bytes row (inl without) = absurd (omega (arith, without.none))
ready base (suc n) latest bytes row (inr has) =
    let rows = rows_in base (suc n) bytes in
    let other : base_with base (suc n) row ≡ base =
    ap (λ (none : Bool). if none then row.timestamp else base) (ne_eqb (suc n) 0 (omega arith)) in
    subst (λ (b : ℕ). IsReady b (suc n) latest (padded bytes) rows row) (sym other)
    (subst (λ (out : List ℕ). IsReady base (suc n) latest out rows row)
    (sym (padded_long bytes (long_enough bytes has.before))) (some_ready base (suc n) latest bytes rows row has))

one_fits : (row : Row) → RowFits row → All RowFits (shown row ∷ [])
one_fits row fits zero d lt = record { limits = fits.limits; time = fits.time }
one_fits row fits (suc k) d lt = absurd (omega (arith, lt))

module _ (base count latest : ℕ) (out new : List ℕ) (rows : List Row) (row : Row)
    (begun : IsReady base count latest out rows row) where
  there : count + 1 ≡ length (rows ++ shown row ∷ [])
  there = omega (arith, begun.count_is, length-append rows (shown row ∷ []))

  at_end : shown row ≡ get_or (rows ++ shown row ∷ []) count (shown row)
  at_end =
      sym (ap (λ (n : ℕ). get_or (rows ++ shown row ∷ []) n (shown row)) begun.count_is
      ∙ get_or-append_seam rows (shown row) [] (shown row))

  -- the row's record was written
  pub one_added : count < MAX_RECORDS → RowFits row →
      PutsIfRoom true out new (record_spelling (pos count) (record_of base row)) →
      HasRows base (count + 1) (max latest row.timestamp) new (rows ++ shown row ∷ [])
  one_added lt fits put =
      let both = rows ++ shown row ∷ [] in
      let more = record_spelling (pos count) (record_of base row) in
      let next : SoFar base both (count + 1) (max latest row.timestamp) (take 61 out) new =
      one_more_put base both count latest (take 61 out) out new (shown row) begun.so_far (omega (arith, there)) at_end
      put fits.time in
      let whole : HasPut base both (count + 1) (max latest row.timestamp) (take 61 out) new =
      all_put base both (count + 1) (max latest row.timestamp) (take 61 out) new next there in
      let front : take 61 new ≡ take 61 out =
      ap (take 61) put.0 ∙ take-append-le 61 out more (long_enough out begun.before) in
      record {
        some = omega arith;
        count_is = there;
        few = omega (arith, lt);
        fit = All-append RowFits rows (shown row ∷ []) begun.fit (one_fits row fits);
        base_is = begun.base_is;
        before = ap length front ∙ begun.before;
        put = subst (λ (old : List ℕ). HasPut base both (count + 1) (max latest row.timestamp) old new) (sym front)
            whole;
      }

  -- the row's record has no room
  pub none_added : map shown rows ≡ rows →
      MAX_BATCH < length out + length (record_spelling (pos count) (record_of base row)) → (place : ℕ) →
      MAX_BATCH < length (batch_spelling (batch_of place (rows ++ row ∷ [])))
  none_added same large place =
      let both = rows ++ shown row ∷ [] in
      let ended : HasPut base both count latest (take 61 out) out =
      no_more_put base both count latest (take 61 out) out out (shown row) begun.so_far (omega (arith, there)) at_end
      (refl, large) in
      let whole : take (count + 1) both ≡ both = take_all (count + 1) both (omega (arith, there)) in
      let full = ended.measured.full (omega (arith, there)) in
      let all : map shown (rows ++ row ∷ []) ≡ both =
      map_push shown rows row ∙ ap (λ (rs : List Row). rs ++ shown row ∷ []) same in
      let alike : batch_of place both ≡ batch_of place (rows ++ row ∷ []) =
      ap (batch_of place) (sym all) ∙ shown_batch place (rows ++ row ∷ []) in
      let size : length (batch_spelling (batch_of place (rows ++ row ∷ []))) ≡ size_with (map (record_of base) both) =
      ap (λ (b : Batch). length (batch_spelling b)) (sym alike) ∙ (batch_size place both
      ∙ ap (λ (n : ℕ). size_with (map (record_of n) both)) (sym begun.base_is)) in
      omega (arith, full, size, ap (λ (rs : List Row). size_with (map (record_of base) rs)) whole)

-- the rows of the bytes with one row more
added_in : (base count latest : ℕ) (new : List ℕ) (rows : List Row) (row : Row) →
    HasRows base count latest new (rows ++ shown row ∷ []) → map shown rows ≡ rows →
    rows_in base count new ≡ rows ++ shown row ∷ []
added_in base count latest new rows row has same =
    all_in base count latest new (rows ++ shown row ∷ []) has
    ∙ (map_push shown rows (shown row) ∙ ap (λ (rs : List Row). rs ++ shown row ∷ []) same)

module _ (base next count latest : ℕ) (bytes out new : List ℕ) (rows : List Row) (row : Row)
    (kept : IsOpen base count latest bytes) (seen : rows_in base count bytes ≡ rows) (room : out ≡ padded bytes)
    (next_is : next ≡ base_with base count row) where
  pub made_ready : IsReady next count latest out rows row
  made_ready =
      subst (λ (b : ℕ). IsReady b count latest out rows row) (sym next_is)
      (subst (λ (bs : List ℕ). IsReady (base_with base count row) count latest bs rows row) (sym room)
      (subst (λ (rs : List Row). IsReady (base_with base count row) count latest (padded bytes) rs row) seen
      (ready base count latest bytes row kept)))

  pub as_shown : map shown rows ≡ rows
  as_shown = subst (λ (rs : List Row). map shown rs ≡ rs) seen (in_shown base count bytes)

  pub few_rows : length rows ≤ MAX_RECORDS
  few_rows =
      omega (arith, ap length seen, count_in base count latest bytes kept, few_in base count latest bytes kept)

  -- the rows stay where no record is written
  pub none_changed : new ≡ out → rows_in base count new ≡ rows
  none_changed same = ap (rows_in base count) (same ∙ room) ∙ (padded_in base count latest bytes kept ∙ seen)

  module _ (put : Bool) (done : PutsIfRoom put out new (record_spelling (pos count) (record_of next row)))
      (fits : RowFits row) where
    not_done : put ≡ false → PutsIfRoom false out new (record_spelling (pos count) (record_of next row))
    not_done failed =
        subst (λ (p : Bool). PutsIfRoom p out new (record_spelling (pos count) (record_of next row))) failed done

    full : put ≡ false → (place : ℕ) → MAX_BATCH < length (batch_spelling (batch_of place (rows ++ row ∷ [])))
    full failed = none_added next count latest out new rows row made_ready as_shown (not_done failed).1

    pub left_out : put ≡ false → AddsIfRoom false rows row (rows_in base count new)
    left_out failed = (none_changed (not_done failed).0, inr (full failed))

    pub left_few : put ≡ false → length (rows_in base count new) ≤ MAX_RECORDS
    left_few failed = omega (arith, ap length (none_changed (not_done failed).0), few_rows)

    -- the first row has room
    pub not_first : put ≡ false → rows ≡ [] → ⊥
    not_first failed none =
        omega (
          arith,
          full failed 0,
          ap (λ (rs : List Row). length (batch_spelling (batch_of 0 (rs ++ row ∷ [])))) none,
          (one_row 0 row [] (omega arith) fits).few_bytes,
        )

    module _ (yes : put ≡ true) (left : count ≡ MAX_RECORDS → ⊥) where
      has_one : HasRows next (count + 1) (max latest row.timestamp) new (rows ++ shown row ∷ [])
      has_one =
          one_added next count latest out new rows row made_ready
          (omega (arith, left, few_in base count latest bytes kept)) fits
          (subst (λ (p : Bool). PutsIfRoom p out new (record_spelling (pos count) (record_of next row))) yes done)

      pub added_rows : rows_in next (count + 1) new ≡ rows ++ shown row ∷ []
      added_rows = added_in next (count + 1) (max latest row.timestamp) new rows row has_one as_shown

      pub added_few : length (rows_in next (count + 1) new) ≤ MAX_RECORDS
      added_few = omega (arith, ap length added_rows, has_one.count_is, has_one.few)

      pub added_open : (top : ℕ) → top ≡ max latest row.timestamp → IsOpen next (count + 1) top new
      added_open top is =
          subst (λ (n : ℕ). IsOpen next (count + 1) n new) (sym is) (inr (subst
          (HasRows next (count + 1) (max latest row.timestamp) new) (sym added_rows) has_one))

-- ---- the whole batch

pub taken_is : (place base count latest size : ℕ) (g : ℤ) (bytes front whole all : List ℕ) (rows : List Row) →
    place < 2 ^ 63 → HasRows base count latest bytes rows → size ≡ length bytes → g ≡ pos latest →
    front ≡ front_of (head_of place base) size ++ header_of (head_of place base) g count →
    whole ≡ front ++ drop (length front) bytes →
    all ≡ take 17 whole ++ (to_be_bytes w32 (checksum (drop 21 whole)) ++ drop 21 whole) →
    BatchFits (batch_of place rows) × (all ≡ batch_spelling (batch_of place rows))
taken_is place base count latest size g bytes front whole all rows low has long top e1 e2 e3 =
    let first = first_timestamp rows in
    let some : 0 < length rows = omega (arith, has.some, has.count_is) in
    let few : length rows ≤ MAX_RECORDS = omega (arith, has.few, has.count_is) in
    let records = records_spelling 0 (map (record_of first) (take count rows)) in
    let put : HasPut first rows count latest (take 61 bytes) bytes =
    subst (λ (b : ℕ). HasPut b rows count latest (take 61 bytes) bytes) has.base_is has.put in
    let measured : IsMeasured first rows count size latest =
    subst (λ (n : ℕ). IsMeasured first rows count n latest) (sym long) put.measured in
    let begun : front ≡ front_of (head_of place first) size ++ header_of (head_of place first) g count =
    e1 ∙ ap (λ (b : ℕ). front_of (head_of place b) size ++ header_of (head_of place b) g count) has.base_is in
    let front_61 : length front ≡ 61 = ap length begun ∙ front_long (head_of place first) size count g in
    let written : whole ≡ front ++ records =
    front_put front (take 61 bytes) records bytes whole front_61 has.before put.put_are e2 in
    let made = first_is place rows count size latest all low some few has.fit measured
    (written_is place rows count size latest g count front whole all has.some measured top refl begun written e3) in
    let same : take count rows ≡ rows = take_all count rows (omega (arith, has.count_is)) in (
      subst (λ (rs : List Row). BatchFits (batch_of place rs)) same made.fits,
      made.bytes_are ∙ ap (λ (rs : List Row). batch_spelling (batch_of place rs)) same,
    )
