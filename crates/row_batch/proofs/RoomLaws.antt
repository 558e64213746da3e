-- Rows that are put at the end, as far as one batch has room.
use Rattle.std.proofs.Common.{◌≡◌, ℕ, ◌+◌, ◌-◌, ◌<◌, ◌≤◌, pos, max, List, ◌++◌, length, take, drop, map, get_or, refl}
use Rattle.std.proofs.Common.{sym, ap, subst, ◌∙◌, arith, ℤ}
use Rattle.std.proofs.lemmas.List.{length-append, append-nil, take_at, drop_at}
use Rattle.wire_spec.specs.{RecordSpelling.record_spelling, BatchSpelling.records_spelling, declared.record.Batch.Batch}
use Rattle.wire_spec.specs.declared.limits.TheConstants.{TIMESTAMP_END, MAX_BATCH}
use Rattle.batch.specs.Heads.{front_of, header_of}
use Rattle.log_spec.specs.declared.row.Row.{Row}
use Rattle.row_batch.specs.{RowBatches.record_of, FirstRows.IsMeasured, FirstRows.HasPut}
use Rattle.row_batch.proofs.RowLaws.{UpTo, none_yet, next_up_to, ends_before, ends_after, row_written}

-- bytes that have no room are cut off again
pub cut_back : (old here out new : List ℕ) (end size : ℕ) → end ≡ length old → out ≡ old ++ here → size ≡ length out →
    MAX_BATCH < size → new ≡ take end out → (new ≡ old) × (MAX_BATCH < length old + length here)
cut_back old here out new end size at put long large cut = (
  cut ∙ (ap (take end) put ∙ take_at old here end (sym at)),
  omega (arith, long, large, ap length put, length-append old here),
)

-- bytes that have no room are not put
pub no_room : (old here : List ℕ) (end more : ℕ) → end ≡ length old → more ≡ length here → MAX_BATCH - end < more →
    (old ≡ old) × (MAX_BATCH < length old + length here)
no_room old here end more at long large = (refl, omega (arith, at, long, large))

-- the first rows so far are at the end
pub record SoFar (base : ℕ) (rows : List Row) (count latest : ℕ) (old out : List ℕ) : Type 0 where
  pub up_to : UpTo base rows count (length out) latest
  pub put_are : out ≡ old ++ records_spelling 0 (map (record_of base) (take count rows))

pub none_so_far : (base : ℕ) (rows : List Row) (old : List ℕ) → length old ≡ 61 → SoFar base rows 0 0 old old
none_so_far base rows old begun = record {
  up_to = subst (λ (n : ℕ). UpTo base rows 0 n 0) (sym begun) (none_yet base rows);
  put_are = sym (append-nil old);
}

module _ (base : ℕ) (rows : List Row) (count latest : ℕ) (old out new : List ℕ) (row : Row)
    (so_far : SoFar base rows count latest old out) (lt : count < length rows) (is : row ≡ get_or rows count row) where
  pub one_more_put : (new ≡ out ++ record_spelling (pos count) (record_of base row)) × (length new ≤ MAX_BATCH) →
      row.timestamp < TIMESTAMP_END → SoFar base rows (count + 1) (max latest row.timestamp) old new
  one_more_put put time =
      let long : length out + length (record_spelling (pos count) (record_of base row)) ≡ length new =
      omega (arith, ap length put.0, length-append out (record_spelling (pos count) (record_of base row))) in
      record {
        up_to = subst (λ (n : ℕ). UpTo base rows (count + 1) n (max latest row.timestamp)) long
            (next_up_to base rows count (length out) latest (length (record_spelling (pos count) (record_of base row)))
            row
            so_far.up_to lt is refl (omega (arith, long, put.1)) time);
        put_are = row_written base rows count row old out new lt is so_far.put_are put.0;
      }

  pub no_more_put : (new ≡ out) × (MAX_BATCH < length out + length (record_spelling (pos count) (record_of base row))) →
      HasPut base rows count latest old new
  no_more_put put = record {
    measured = subst (λ (bytes : List ℕ). IsMeasured base rows count (length bytes) latest) (sym put.0)
        (ends_before base rows count (length out) latest (length (record_spelling (pos count) (record_of base row))) row
        so_far.up_to lt is refl put.1);
    put_are = put.0 ∙ so_far.put_are;
  }

pub all_put : (base : ℕ) (rows : List Row) (count latest : ℕ) (old out : List ℕ) →
    SoFar base rows count latest old out →
    count ≡ length rows → HasPut base rows count latest old out
all_put base rows count latest old out so_far whole = record {
  measured = ends_after base rows count (length out) latest so_far.up_to whole;
  put_are = so_far.put_are;
}

-- what is before the records of a batch has 61 bytes
pub front_long : (b : Batch) (size n : ℕ) (g : ℤ) → length (front_of b size ++ header_of b g n) ≡ 61
front_long b size n g = omega arith

-- the records stay where what is before them is written
pub front_put : (front old records out whole : List ℕ) → length front ≡ 61 → length old ≡ 61 → out ≡ old ++ records →
    whole ≡ front ++ drop (length front) out → whole ≡ front ++ records
front_put front old records out whole long begun put is =
    is ∙ ap (λ (bytes : List ℕ). front ++ bytes)
    (ap (drop (length front)) put ∙ drop_at old records (length front) (begun ∙ sym long))
