-- Batches of the first rows: what they have, and how they grow.
use Rattle.std.proofs.Common.{◌≡◌, ℕ, zero, suc, ◌+◌, ◌^◌, ◌<◌, ◌≤◌, ℤ, pos, List, [], ◌∷◌, ◌++◌, length, take, drop}
use Rattle.std.proofs.Common.{get_or, map, refl, sym, ap, subst, ◌∙◌, append_assoc, negsuc, ⊎_elim, max, arith, ◌-ℤ◌}
use Rattle.std.proofs.Common.{◌+ℤ◌, ◌≤ℤ◌, ◌<ℤ◌, All, FitsSigned}
use Rattle.std.specs.Int.{w32, w64, int_max, to_be_bytes}
use Rattle.std.specs.List.{AllByRecursion}
use Rattle.std.proofs.{lemmas.Int.ints, lemmas.Int.clamps, lemmas.Bool.cases_lt, lemmas.List.Elements.All-take}
use Rattle.std.proofs.lemmas.List.Sums.{fold-append}
use Rattle.std.proofs.lemmas.List.{length-append, length-map, length-take-le, take-map, take_more, map_push, append-nil}
use Rattle.wire_spec.specs.declared.limits.TheConstants.{TIMESTAMP_END, MAX_BATCH, MAX_RECORDS, MAX_RECORD_SIZE}
use Rattle.wire_spec.specs.declared.limits.TheConstants.{MAX_BODY_SIZE}
use Rattle.wire_spec.specs.declared.{record.Record.Record, record.Batch.Batch}
use Rattle.wire_spec.specs.{Varint.varint, Varint.varlong, Checksum.checksum}
use Rattle.wire_spec.specs.RecordSpelling.{RecordFits, record_parts, record_body, record_spelling}
use Rattle.wire_spec.specs.BatchSpelling.{IsTimestamp, timestamps, greatest, records_spelling, batch_spelling}
use Rattle.wire_spec.specs.BatchSpelling.{BatchFits}
use Rattle.wire_spec.proofs.{Varints.length-varint, RecordLaws.length-record_body, BatchLaws.length-covered}
use Rattle.wire_spec.proofs.BatchLaws.{records_length}
use Rattle.log_spec.specs.{declared.row.Row.Row, Logs.RowFits}
use Rattle.batch.specs.Heads.{front_of, header_of}
use Rattle.batch.proofs.Written.{finished_is}
use Rattle.row_batch.specs.RowBatches.{record_of, first_timestamp, head_of, batch_of, TakesMost}
use Rattle.row_batch.specs.FirstRows.{size_with, IsMeasured, IsFirst}

-- ---- one row

bounded : (z : ℤ) → negsuc TIMESTAMP_END ≤ℤ z → z <ℤ pos TIMESTAMP_END → FitsSigned w64 z
bounded (pos n) low high = record { sfits = omega (arith, ints, high) }
bounded (negsuc n) low high = record { sfits = omega (arith, ints, low) }

fits_delta : (base timestamp : ℕ) → base < TIMESTAMP_END → timestamp < TIMESTAMP_END →
    FitsSigned w64 (pos timestamp -ℤ pos base)
fits_delta base timestamp low high = bounded (pos timestamp -ℤ pos base) (omega (arith, ints)) (omega (arith, ints))

pub record_fits : (base : ℕ) (row : Row) → base < TIMESTAMP_END → RowFits row → RecordFits (record_of base row)
record_fits base row low fits = record {
  timestamp = fits_delta base row.timestamp low fits.time;
  key = fits.limits.key;
  value = fits.limits.value;
  count = fits.limits.count;
  headers = fits.limits.headers;
}

pub stamp_again : (base timestamp : ℕ) → pos base +ℤ (pos timestamp -ℤ pos base) ≡ pos timestamp
stamp_again base timestamp = omega (arith, ints)

is_stamp : (n : ℕ) → n < TIMESTAMP_END → IsTimestamp (pos n)
is_stamp n low = (omega (arith, ints), omega (arith, ints))

-- ---- lists of rows

row_fits : (row : Row) (rows : List Row) → All RowFits (row ∷ rows) → RowFits row
row_fits row rows fit = fit 0 row (omega arith)

tail_of : (row : Row) (rows : List Row) → All RowFits (row ∷ rows) → All RowFits rows
tail_of row rows fit = λ k d lt. fit (suc k) d (omega arith)

pub records_fit : (base : ℕ) (rows : List Row) → base < TIMESTAMP_END → All RowFits rows →
    AllByRecursion RecordFits (map (record_of base) rows)
records_fit base [] low fit = tt
records_fit base (row ∷ rows) low fit =
    (record_fits base row low (row_fits row rows fit), records_fit base rows low (tail_of row rows fit))

records_stamped : (base : ℕ) (rows : List Row) → All RowFits rows →
    AllByRecursion IsTimestamp (timestamps (pos base) (map (record_of base) rows))
records_stamped base [] fit = tt
records_stamped base (row ∷ rows) fit = (
  subst IsTimestamp (sym (stamp_again base row.timestamp)) (is_stamp row.timestamp (row_fits row rows fit).time),
  records_stamped base rows (tail_of row rows fit),
)

pub first_fits : (rows : List Row) → All RowFits rows → first_timestamp rows < TIMESTAMP_END
first_fits [] fit = omega arith
first_fits (row ∷ rows) fit = (row_fits row rows fit).time

-- the first of the first rows is the first
pub same_first : (rows : List Row) (count : ℕ) → 1 ≤ count → first_timestamp (take count rows) ≡ first_timestamp rows
same_first rows zero some = absurd (omega arith)
same_first [] (suc count) some = refl
same_first (row ∷ rows) (suc count) some = refl

-- ---- the bytes

spelling_push : (delta : ℕ) (records : List Record) (given : Record) →
    records_spelling delta (records ++ given ∷ []) ≡ records_spelling delta records
    ++ record_spelling (pos (delta + length records)) given
spelling_push delta [] given =
    let at : delta ≡ delta + 0 = omega arith in
    append-nil (record_spelling (pos delta) given) ∙ ap (λ (n : ℕ). record_spelling (pos n) given) at
spelling_push delta (first ∷ records) given =
    let at : suc delta + length records ≡ delta + length (first ∷ records) = omega arith in
    ap (λ (bytes : List ℕ). record_spelling (pos delta) first ++ bytes) (spelling_push (suc delta) records given)
    ∙ (sym (append_assoc (record_spelling (pos delta) first) (records_spelling (suc delta) records)
    (record_spelling (pos (suc delta + length records)) given))
    ∙ ap (λ (n : ℕ). (record_spelling (pos delta) first ++ records_spelling (suc delta) records)
    ++ record_spelling (pos n) given) at)

spelling_longer : (delta fewer more : ℕ) (records : List Record) → fewer ≤ more →
    length (records_spelling delta (take fewer records)) ≤ length (records_spelling delta (take more records))
spelling_longer delta zero more records le = omega arith
spelling_longer delta (suc fewer) zero records le = absurd (omega arith)
spelling_longer delta (suc fewer) (suc more) [] le = omega arith
spelling_longer delta (suc fewer) (suc more) (given ∷ records) le =
    let rest = spelling_longer (suc delta) fewer more records (omega arith) in
    let a = length-append (record_spelling (pos delta) given) (records_spelling (suc delta) (take fewer records)) in
    let b = length-append (record_spelling (pos delta) given) (records_spelling (suc delta) (take more records)) in
    omega (arith, rest, a, b)

pub batch_size : (place : ℕ) (rows : List Row) →
    length (batch_spelling (batch_of place rows)) ≡ size_with (map (record_of (first_timestamp rows)) rows)
batch_size place rows = omega (arith, length-covered (batch_of place rows), records_length (batch_of place rows))

-- the size of the batch of the first rows, by the first timestamp of all
pub first_size : (place count : ℕ) (rows : List Row) → 1 ≤ count →
    length (batch_spelling (batch_of place (take count rows)))
    ≡ size_with (map (record_of (first_timestamp rows)) (take count rows))
first_size place count rows some =
    batch_size place (take count rows)
    ∙ ap (λ (base : ℕ). size_with (map (record_of base) (take count rows))) (same_first rows count some)

-- ---- a batch that fits

record_small : (delta : ℤ) (given : Record) → RecordFits given → length (record_spelling delta given) ≤ MAX_RECORD_SIZE
record_small delta given fits =
    let body = record_body delta given in
    omega (
      arith,
      length-record_body delta given fits,
      length-append (varint (pos (length body))) body,
      length-varint
          (pos (length body)),
    )

-- one record has room
pub one_small : (base : ℕ) (rows : List Row) → base < TIMESTAMP_END → All RowFits rows →
    size_with (map (record_of base) (take 1 rows)) ≤ MAX_BATCH
one_small base [] low fit = omega arith
one_small base (row ∷ rows) low fit =
    let given = record_of base row in
    let small = record_small (pos 0) given (record_fits base row low (row_fits row rows fit)) in
    let same : length (record_spelling (pos 0) given ++ []) ≡ length (record_spelling (pos 0) given) =
    ap length (append-nil (record_spelling (pos 0) given)) in
    omega (arith, small, same)

pub batch_fits : (place : ℕ) (rows : List Row) → place < 2 ^ 63 → 1 ≤ length rows → length rows ≤ MAX_RECORDS →
    All RowFits rows → length (batch_spelling (batch_of place rows)) ≤ MAX_BATCH → BatchFits (batch_of place rows)
batch_fits place rows low some few fit small =
    let base = first_timestamp rows in
    let count = length-map rows (record_of base) in
    record {
      base_offset = record { sfits = omega arith };
      leader_epoch = record { sfits = omega arith };
      producer_id = record { sfits = omega arith };
      producer_epoch = record { sfits = omega arith };
      base_sequence = record { sfits = omega arith };
      some_records = omega (arith, count, some);
      few_records = omega (arith, count, few);
      records = records_fit base rows (first_fits rows fit) fit;
      base_timestamp = is_stamp base (first_fits rows fit);
      each_timestamp = records_stamped base rows fit;
      few_bytes = small;
    }

one_more : (row : Row) → RowFits row → All RowFits (row ∷ [])
one_more row fits zero d lt = fits
one_more row fits (suc k) d lt = absurd (omega arith)

pub one_row : (place : ℕ) (row : Row) (rows : List Row) → place < 2 ^ 63 → RowFits row →
    BatchFits (batch_of place (take 1 (row ∷ rows)))
one_row place row rows low fits =
    let fit = one_more row fits in
    batch_fits place (row ∷ []) low (omega arith) (omega arith) fit
    (omega (arith, batch_size place (row ∷ []), one_small row.timestamp (row ∷ []) fits.time fit))

-- ---- records one after the other

-- the first rows so far, as records: their size in a batch, which has room for them, and their greatest timestamp
pub record UpTo (base : ℕ) (rows : List Row) (count size latest : ℕ) : Type 0 where
  pub size_is : size ≡ size_with (map (record_of base) (take count rows))
  pub small : size ≤ MAX_BATCH
  pub latest_is : pos latest ≡ greatest (timestamps (pos base) (map (record_of base) (take count rows)))
  pub in_time : latest < TIMESTAMP_END

pub none_yet : (base : ℕ) (rows : List Row) → UpTo base rows 0 61 0
none_yet base rows = record { size_is = refl; small = omega arith; latest_is = refl; in_time = omega arith }

next_records : (base : ℕ) (rows : List Row) (count : ℕ) (row : Row) → count < length rows → row ≡ get_or rows count row
    → map (record_of base) (take (count + 1) rows) ≡ map (record_of base) (take count rows) ++ record_of base row ∷ []
next_records base rows count row lt is =
    ap (map (record_of base)) (take_more rows count row lt ∙ ap (λ (r : Row). take count rows ++ r ∷ []) (sym is))
    ∙ map_push (record_of base) (take count rows) row

-- the bytes of one row more
next_bytes : (base : ℕ) (rows : List Row) (count : ℕ) (row : Row) → count < length rows → row ≡ get_or rows count row
    → records_spelling 0 (map (record_of base) (take (count + 1) rows))
    ≡ records_spelling 0 (map (record_of base) (take count rows)) ++ record_spelling (pos count) (record_of base row)
next_bytes base rows count row lt is =
    let records = map (record_of base) (take count rows) in
    let long : 0 + length records ≡ count =
    omega (arith, length-map (take count rows) (record_of base), length-take-le count rows (omega (arith, lt))) in
    ap (records_spelling 0) (next_records base rows count row lt is)
    ∙ (spelling_push 0 records (record_of base row)
    ∙ ap (λ (n : ℕ). records_spelling 0 records ++ record_spelling (pos n) (record_of base row)) long)

pub row_written : (base : ℕ) (rows : List Row) (place : ℕ) (row : Row) (old out new : List ℕ) → place < length rows →
    row ≡ get_or rows place row → out ≡ old ++ records_spelling 0 (map (record_of base) (take place rows)) →
    new ≡ out ++ record_spelling (pos place) (record_of base row) →
    new ≡ old ++ records_spelling 0 (map (record_of base) (take (place + 1) rows))
row_written base rows place row old out new lt is so_far written =
    let here = record_spelling (pos place) (record_of base row) in
    written ∙ (ap (λ (s : List ℕ). s ++ here) so_far
    ∙ (append_assoc old (records_spelling 0 (map (record_of base) (take place rows))) here
    ∙ ap (λ (s : List ℕ). old ++ s) (sym (next_bytes base rows place row lt is))))

later : (a b : ℕ) → int_max (pos a) (pos b) ≡ pos (max a b)
later a b = omega (arith, ints, clamps)

-- the greatest timestamp with one row more
next_latest : (base : ℕ) (rows : List Row) (count latest : ℕ) (row : Row) → count < length rows →
    row ≡ get_or rows count row →
    pos latest ≡ greatest (timestamps (pos base) (map (record_of base) (take count rows))) →
    pos (max latest row.timestamp)
    ≡ greatest (timestamps (pos base) (map (record_of base) (take (count + 1) rows)))
next_latest base rows count latest row lt is so_far =
    let records = map (record_of base) (take count rows) in
    let stamp : Record → ℤ = λ r. pos base +ℤ r.timestamp_delta in
    let here = stamp (record_of base row) in
    let more : timestamps (pos base) (map (record_of base) (take (count + 1) rows))
    ≡ timestamps (pos base) records ++ here ∷ [] =
    ap (timestamps (pos base)) (next_records base rows count row lt is) ∙ map_push stamp records (record_of base row) in
    let top : greatest (timestamps (pos base) records ++ here ∷ []) ≡ int_max (pos latest) here =
    fold-append int_max (pos 0) (timestamps (pos base) records) (here ∷ []) ∙ rw (← so_far) refl in
    sym (ap greatest more ∙ (top ∙ (ap (int_max (pos latest)) (stamp_again base row.timestamp)
    ∙ later latest row.timestamp)))

module _ (base : ℕ) (rows : List Row) (count size latest len : ℕ) (row : Row)
    (so_far : UpTo base rows count size latest)
    (lt : count < length rows) (is : row ≡ get_or rows count row)
    (len_is : len ≡ length (record_spelling (pos count) (record_of base row))) where
  grown : size + len ≡ size_with (map (record_of base) (take (count + 1) rows))
  grown =
      let records = map (record_of base) (take count rows) in
      let more = ap length (next_bytes base rows count row lt is)
      ∙ length-append (records_spelling 0 records) (record_spelling (pos count) (record_of base row)) in
      omega (arith, so_far.size_is, len_is, more)

  pub next_up_to : size + len ≤ MAX_BATCH → row.timestamp < TIMESTAMP_END →
      UpTo base rows (count + 1) (size + len) (max latest row.timestamp)
  next_up_to small time = record {
    size_is = grown;
    small = small;
    latest_is = next_latest base rows count latest row lt is so_far.latest_is;
    in_time = below latest row.timestamp so_far.in_time time;
  }
    where
      below : (a b : ℕ) → a < TIMESTAMP_END → b < TIMESTAMP_END → max a b < TIMESTAMP_END
      below a b p q = omega (arith, p, q)

  pub ends_before : MAX_BATCH < size + len → IsMeasured base rows count size latest
  ends_before large = record {
    there = omega (arith, lt);
    size_is = so_far.size_is;
    small = so_far.small;
    latest_is = so_far.latest_is;
    in_time = so_far.in_time;
    full = λ some. omega (arith, grown, large);
  }

pub ends_after : (base : ℕ) (rows : List Row) (count size latest : ℕ) → UpTo base rows count size latest →
    count ≡ length rows → IsMeasured base rows count size latest
ends_after base rows count size latest so_far whole = record {
  there = omega (arith, whole);
  size_is = so_far.size_is;
  small = so_far.small;
  latest_is = so_far.latest_is;
  in_time = so_far.in_time;
  full = λ some. absurd (omega (arith, some, whole));
}

-- ---- the batch of the first rows

-- one row has room
pub some_measured : (rows : List Row) (count size latest : ℕ) → 0 < length rows → All RowFits rows →
    IsMeasured (first_timestamp rows) rows count size latest → 1 ≤ count
some_measured rows zero size latest some fit measured =
    absurd (omega (arith, one_small (first_timestamp rows) rows (first_fits rows fit) fit, measured.full some))
some_measured rows (suc count) size latest some fit measured = omega arith

pub first_is : (place : ℕ) (rows : List Row) (count size latest : ℕ) (bytes : List ℕ) → place < 2 ^ 63 →
    0 < length rows → length rows ≤ MAX_RECORDS → All RowFits rows →
    IsMeasured (first_timestamp rows) rows count size latest →
    bytes ≡ batch_spelling (batch_of place (take count rows)) → IsFirst place rows count bytes
first_is place rows count size latest bytes low some few fit measured are =
    let more = some_measured rows count size latest some fit measured in
    let taken : length (take count rows) ≡ count = length-take-le count rows measured.there in
    let small : length (batch_spelling (batch_of place (take count rows))) ≤ MAX_BATCH =
    omega (arith, first_size place count rows more, measured.size_is, measured.small) in
    record {
      some = more;
      there = measured.there;
      fits = batch_fits place (take count rows) low (omega (arith, taken, more))
          (omega (arith, taken, measured.there, few)) (All-take RowFits count rows fit) small;
      bytes_are = are;
      full = λ left. omega (arith, measured.full left, first_size place (count + 1) rows (omega arith));
    }

-- a batch of rows with this base timestamp
based : ℕ → ℕ → List Row → Batch
based place base rows = record {
  base_offset = pos place;
  leader_epoch = pos 0;
  base_timestamp = pos base;
  producer_id = negsuc 0;
  producer_epoch = negsuc 0;
  base_sequence = negsuc 0;
  records = map (record_of base) rows;
}

-- the bytes that were written are those of the batch
pub written_is : (place : ℕ) (rows : List Row) (count size latest : ℕ) (g : ℤ) (n : ℕ) (begun written all : List ℕ) →
    1 ≤ count → IsMeasured (first_timestamp rows) rows count size latest → g ≡ pos latest → n ≡ count →
    begun ≡ front_of (head_of place (first_timestamp rows)) size ++ header_of (head_of place (first_timestamp rows))
    g n →
    written ≡ begun ++ records_spelling 0 (map (record_of (first_timestamp rows)) (take count rows)) →
    all ≡ take 17 written ++ (to_be_bytes w32 (checksum (drop 21 written)) ++ drop 21 written) →
    all ≡ batch_spelling (batch_of place (take count rows))
unfolding based
written_is place rows count size latest g n begun written all some measured top number e1 e2 e3 =
    let base = first_timestamp rows in
    let taken : n ≡ length (map (record_of base) (take count rows)) =
    number ∙ sym (length-map (take count rows) (record_of base) ∙ length-take-le count rows measured.there) in
    finished_is (based place base (take count rows)) size n g begun written all measured.size_is
    (top ∙ measured.latest_is) taken e1 e2 e3
    ∙ ap (λ (b : ℕ). batch_spelling (based place b (take count rows))) (sym (same_first rows count some))

-- ---- the most rows that a batch takes

pub take_less : (more fewer : ℕ) (rows : List Row) → fewer ≤ more → take fewer (take more rows) ≡ take fewer rows
take_less zero zero rows le = refl
take_less zero (suc fewer) rows le = absurd (omega arith)
take_less (suc more) zero rows le = refl
take_less (suc more) (suc fewer) [] le = refl
take_less (suc more) (suc fewer) (row ∷ rows) le =
    ap (λ (rs : List Row). row ∷ rs) (take_less more fewer rows (omega arith))

size_longer : (base fewer more : ℕ) (rows : List Row) → fewer ≤ more →
    size_with (map (record_of base) (take fewer rows)) ≤ size_with (map (record_of base) (take more rows))
size_longer base fewer more rows le =
    let a = ap (λ (rs : List Record). length (records_spelling 0 rs)) (take-map (record_of base) fewer rows) in
    let b = ap (λ (rs : List Record). length (records_spelling 0 rs)) (take-map (record_of base) more rows) in
    omega (arith, spelling_longer 0 fewer more (map (record_of base) rows) le, a, b)

batch_longer : (place fewer more : ℕ) (rows : List Row) → 1 ≤ fewer → fewer ≤ more →
    length (batch_spelling (batch_of place (take fewer rows))) ≤ length
    (batch_spelling (batch_of place (take more rows)))
batch_longer place fewer more rows some le =
    omega (
      arith,
      first_size place fewer rows some,
      first_size place more rows (omega arith),
      size_longer
          (first_timestamp rows) fewer more rows le,
    )

-- no greater number of rows is in one batch
none_greater : (left : List Row) (place most count more : ℕ) (bytes : List ℕ) →
    IsFirst place (take most left) count bytes → most ≤ length left → more ≤ most →
    length (batch_spelling (batch_of place (take more left))) ≤ MAX_BATCH → count < more → ⊥
none_greater left place most count more bytes first there within small lt =
    let long : length (take most left) ≡ most = length-take-le most left there in
    let full = first.full (omega (arith, long, lt, within)) in
    let same : take (count + 1) (take most left) ≡ take (count + 1) left =
    take_less most (count + 1) left (omega (arith, lt, within)) in
    let size = ap (λ (rs : List Row). length (batch_spelling (batch_of place rs))) same in
    let longer = batch_longer place (count + 1) more left (omega arith) (omega (arith, lt)) in
    omega (arith, full, size, longer, small)

pub most_taken : (rows : List Row) (place max most count : ℕ) (bytes : List ℕ) → most ≤ max → most ≤ MAX_RECORDS →
    most ≤ length (drop place rows) →
    ((more : ℕ) → more ≤ max → more ≤ MAX_RECORDS → more ≤ length (drop place rows) → more ≤ most) →
    IsFirst place (take most (drop place rows)) count bytes →
    TakesMost rows place max count × BatchFits (batch_of place (take count (drop place rows)))
    × (bytes ≡ batch_spelling (batch_of place (take count (drop place rows))))
most_taken rows place max most count bytes wanted few there greatest first =
    let left = drop place rows in
    let long : length (take most left) ≡ most = length-take-le most left there in
    let below : count ≤ most = omega (arith, long, first.there) in
    let same : take count (take most left) ≡ take count left = take_less most count left below in
    let fits = subst (λ (rs : List Row). BatchFits (batch_of place rs)) same first.fits in (
      record {
        may = record {
          some = first.some;
          wanted = omega (arith, below, wanted);
          there = omega (arith, below, there);
          few_records = omega (arith, below, few);
          few_bytes = fits.few_bytes;
        };
        most = λ more may. ⊎_elim
            (λ lt. absurd (none_greater left place most count more bytes first there
            (greatest more may.wanted may.few_records may.there) may.few_bytes lt)) (λ le. le)
            (cases_lt count more);
      },
      fits,
      first.bytes_are ∙ ap (λ (rs : List Row). batch_spelling (batch_of place rs)) same,
    )

-- ---- The parts of a row as they are spelled

pub few_parts : (row : Row) (parts : List ℕ) → RowFits row → parts ≡ record_parts row.key row.value row.headers →
    length parts ≤ MAX_BODY_SIZE
few_parts row parts fits is =
    let r : Record = record { timestamp_delta = pos 0; key = row.key; value = row.value; headers = row.headers } in
    let whole : List ℕ = record_parts row.key row.value row.headers in
    omega (
      arith,
      ap length is,
      length-record_body (pos 0) r fits.limits,
      length-append (varint (pos 0)) whole,
      length-append (varlong (pos 0)) (varint (pos 0) ++ whole),
    )
