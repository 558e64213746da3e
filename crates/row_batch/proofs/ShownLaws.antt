-- Rows as a batch shows them, and as they are read again from its bytes.
use Rattle.std.proofs.Common.{◌≡◌, ℕ, ◌+◌, ◌<◌, pos, List, [], ◌∷◌, ◌++◌, length, take, drop, map, refl, sym}
use Rattle.std.proofs.Common.{ap, ◌∙◌, arith, ℤ, unsigned_abs, Result, Ok, Err}
use Rattle.std.proofs.lemmas.List.{length-map, drop_at, take_all}
use Rattle.wire_spec.specs.declared.{limits.TheConstants.TIMESTAMP_END, fault.BatchFault.BatchFault}
use Rattle.wire_spec.specs.declared.{record.Record.Record, record.Batch.Batch}
use Rattle.wire_spec.specs.{BatchReading.records_at, BatchSpelling.records_spelling}
use Rattle.log_spec.specs.declared.row.Row.{Row}
use Rattle.row_batch.specs.RowBatches.{record_of, first_timestamp, batch_of}
use Rattle.row_batch.specs.OpenBatches.{shown, row_from, rows_from, rows_in, HasRows}
use Rattle.row_batch.proofs.RowLaws.{stamp_again, records_fit, first_fits}
use Rattle.wire_spec.proofs.BatchLaws.{records_again}

-- ---- rows as a batch shows them

first_shown : (rows : List Row) → first_timestamp (map shown rows) ≡ first_timestamp rows
first_shown [] = refl
first_shown (row ∷ rows) = refl

records_shown : (base : ℕ) (rows : List Row) → map (record_of base) (map shown rows) ≡ map (record_of base) rows
records_shown base [] = refl
records_shown base (row ∷ rows) = ap (λ (rs : List Record). record_of base row ∷ rs) (records_shown base rows)

-- a batch does not show where its rows' records came from
pub shown_batch : (place : ℕ) (rows : List Row) → batch_of place (map shown rows) ≡ batch_of place rows
shown_batch place rows =
    let based : ℕ → List Record → Batch = λ base records. record (batch_of place rows) {
      base_timestamp = pos base;
      records = records;
    } in
    ap (λ (base : ℕ). based base (map (record_of base) (map shown rows))) (first_shown rows)
    ∙ ap (based (first_timestamp rows)) (records_shown (first_timestamp rows) rows)

-- ---- rows that are read again

at_time : Row → ℤ → Row
at_time row time = record {
  input = 0;
  number = 0;
  offset = 0;
  timestamp = unsigned_abs time;
  key = row.key;
  value = row.value;
  headers = row.headers;
}

row_again : (base : ℕ) (row : Row) → row_from base (record_of base row) ≡ shown row
unfolding at_time
row_again base row = ap (at_time row) (stamp_again base row.timestamp)

rows_again : (base : ℕ) (rows : List Row) → map (row_from base) (map (record_of base) rows) ≡ map shown rows
rows_again base [] = refl
rows_again base (row ∷ rows) = rw (row_again base row, rows_again base rows) refl

from_shown : (base : ℕ) (records : List Record) → map shown (map (row_from base) records) ≡ map (row_from base) records
from_shown base [] = refl
from_shown base (given ∷ records) = ap (λ (rs : List Row). row_from base given ∷ rs) (from_shown base records)

found_shown : (base : ℕ) (found : Result (List Record) BatchFault) →
    map shown (rows_from base found) ≡ rows_from base found
found_shown base (Ok records) = from_shown base records
found_shown base (Err fault) = refl

-- the rows of bytes are as a batch shows them
pub in_shown : (base count : ℕ) (bytes : List ℕ) → map shown (rows_in base count bytes) ≡ rows_in base count bytes
unfolding rows_in
in_shown base count bytes = found_shown base (records_at count 0 (drop 61 bytes))

none_at : (base : ℕ) (bytes : List ℕ) → rows_from base (records_at 0 0 bytes) ≡ []
unfolding records_at
none_at base [] = refl
none_at base (byte ∷ bytes) = refl

-- no record gives no row
pub none_in : (base : ℕ) (bytes : List ℕ) → rows_in base 0 bytes ≡ []
unfolding rows_in
none_in base bytes = none_at base (drop 61 bytes)

-- rows whose records are written are read again
pub all_in : (base count latest : ℕ) (bytes : List ℕ) (rows : List Row) → HasRows base count latest bytes rows →
    rows_in base count bytes ≡ map shown rows
unfolding rows_in
all_in base count latest bytes rows has =
    let records = map (record_of base) rows in
    let low : base < TIMESTAMP_END = omega (arith, has.base_is, first_fits rows has.fit) in
    let whole : take count rows ≡ rows = take_all count rows (omega (arith, has.count_is)) in
    let long : count ≡ length records = has.count_is ∙ sym (length-map rows (record_of base)) in
    let put : bytes ≡ take 61 bytes ++ records_spelling 0 records =
    has.put.put_are ∙ ap (λ (rs : List Row). take 61 bytes ++ records_spelling 0 (map (record_of base) rs)) whole in
    let behind : drop 61 bytes ≡ records_spelling 0 records =
    ap (drop 61) put ∙ drop_at (take 61 bytes) (records_spelling 0 records) 61 has.before in
    let read : records_at count 0 (drop 61 bytes) ≡ Ok records =
    ap (records_at count 0) behind ∙ (ap (λ (n : ℕ). records_at n 0 (records_spelling 0 records)) long
    ∙ records_again 0 records (omega (arith, long, has.few)) (records_fit base rows low has.fit)) in
    ap (rows_from base) read ∙ rows_again base rows
