-- The rows of batches as those of a log.
use Rattle.std.proofs.Common.{◌≡◌, ℕ, zero, suc, ◌+◌, List, [], ◌∷◌, ◌++◌, length, map, Some, slice_get, refl, sym, ap}
use Rattle.std.proofs.Common.{subst, ◌∙◌, append_assoc, append-nil, arith}
use Rattle.std.proofs.lemmas.Option.{same_Some}
use Rattle.wire_spec.specs.declared.record.Batch.{Batch}
use Rattle.machine_spec.specs.Image.{Program}
use Rattle.log_spec.specs.declared.row.Row.{Row}
use Rattle.log_spec.specs.Logs.{Item as LogItem, Records, Marked, in_force, offset_of, IsItemRows, IsRowsOf}
use Rattle.log_spec.proofs.LogLaws.{in_force-next, offset_of-next, rows-next}
use Rattle.transform.specs.Transforms.{AreRows, AreRowsOfALog, log_of, records_of}

-- the items of a log from one on are these batches
abbrev AreFrom : List LogItem → ℕ → List Batch → Type 0
AreFrom items k batches =
    (j : ℕ) (batch : Batch) → slice_get batches j ≡ Some batch → slice_get items (k + j) ≡ Some (Records batch)

rows_from : (input output outputs : ℕ) (program : Program) (items : List LogItem) (k offset : ℕ) (batches : List Batch)
    (before rows : List Row) → AreFrom items k batches → in_force items k ≡ Some program → offset_of items k ≡ offset →
    IsRowsOf input output outputs items k before → AreRows input output outputs program offset batches rows →
    IsRowsOf input output outputs items (k + length batches) (before ++ rows)
rows_from input output outputs program items k offset [] before rows from force at done none =
    let same : k ≡ k + 0 = omega arith in
    let all : before ≡ before ++ rows = sym (ap (λ (rs : List Row). before ++ rs) none ∙ append-nil before) in
    subst (λ (n : ℕ). IsRowsOf input output outputs items n (before ++ rows)) same
    (subst (λ (rs : List Row). IsRowsOf input output outputs items k rs) all done)
rows_from input output outputs program items k offset (batch ∷ batches) before rows from force at done are =
    let first : k + 0 ≡ k = omega arith in
    let item : slice_get items k ≡ Some (Records batch) =
    subst (λ (n : ℕ). slice_get items n ≡ Some (Records batch)) first (from 0 batch refl) in
    let here : IsItemRows input output outputs (in_force items k) (offset_of items k) (Records batch) are.0 =
    subst (λ o. IsItemRows input output outputs (in_force items k) o (Records batch) are.0) (sym at)
    (subst (λ p. IsItemRows input output outputs p offset (Records batch) are.0) (sym force) are.2) in
    let next = rows-next input output outputs items k (Records batch) before are.0 done item here in
    let force' : in_force items (k + 1) ≡ Some program = in_force-next items k (Records batch) item ∙ force in
    let at' : offset_of items (k + 1) ≡ offset + length batch.records =
    offset_of-next items k (Records batch) item ∙ ap (λ (n : ℕ). n + length batch.records) at in
    let move : (j : ℕ) → k + suc j ≡ (k + 1) + j = λ j. omega arith in
    let from' : AreFrom items (k + 1) batches = λ j b e.
    subst (λ (n : ℕ). slice_get items n ≡ Some (Records b)) (move j) (from (suc j) b e) in
    let all = rows_from input output outputs program items (k + 1) (offset + length batch.records) batches
    (before ++ are.0) are.1 from' force' at' next are.3 in
    let long : (k + 1) + length batches ≡ k + length (batch ∷ batches) = omega arith in
    let same : (before ++ are.0) ++ are.1 ≡ before ++ rows =
    append_assoc before are.0 are.1 ∙ ap (λ (rs : List Row). before ++ rs) (sym are.4) in
    subst (λ (n : ℕ). IsRowsOf input output outputs items n (before ++ rows)) long
    (subst (λ (rs : List Row). IsRowsOf input output outputs items ((k + 1) + length batches) rs) same all)

batch_at : (batches : List Batch) (j : ℕ) (batch : Batch) → slice_get batches j ≡ Some batch →
    slice_get (map Records batches) j ≡ Some (Records batch)
batch_at [] j batch e = absurd cc
batch_at (first ∷ batches) zero batch e = let same : first ≡ batch = same_Some first batch e in
    ap (λ (b : Batch). Some (Records b)) same
batch_at (first ∷ batches) (suc j) batch e = batch_at batches j batch e

pub of_a_log : AreRowsOfALog
unfolding in_force offset_of
of_a_log input output outputs version name program batches rows are =
    let items = log_of name version program batches in
    let move : (j : ℕ) → suc j ≡ 1 + j = λ j. omega arith in
    rows_from input output outputs program items 1 0 batches [] rows
    (λ j batch e. subst (λ (n : ℕ). slice_get items n ≡ Some (Records batch)) (move j) (batch_at batches j batch e))
    refl refl ([], [], Marked name version program, refl, refl, refl, refl) are

-- the rows of one more batch
pub rows_more : (input output outputs : ℕ) (program : Program) (offset : ℕ) (batches : List Batch) (batch : Batch)
    (rows here : List Row) → AreRows input output outputs program offset batches rows →
    IsItemRows input output outputs (Some program) (offset + records_of batches) (Records batch) here →
    AreRows input output outputs program offset (batches ++ batch ∷ []) (rows ++ here)
rows_more input output outputs program offset [] batch rows here none is =
    let at : offset + 0 ≡ offset = omega arith in (
      here,
      [],
      subst (λ (o : ℕ). IsItemRows input output outputs (Some program) o (Records batch) here) at is,
      refl,
      ap (λ (rs : List Row). rs ++ here) none ∙ sym (append-nil here),
    )
rows_more input output outputs program offset (first ∷ batches) batch rows here are is =
    let at : offset + records_of (first ∷ batches) ≡ (offset + length first.records) + records_of batches = omega
    arith in
    let later = rows_more input output outputs program (offset + length first.records) batches batch are.1 here are.3
    (subst (λ (o : ℕ). IsItemRows input output outputs (Some program) o (Records batch) here) at is) in (
      are.0,
      are.1 ++ here,
      are.2,
      later,
      ap (λ (rs : List Row). rs ++ here) are.4 ∙ append_assoc are.0 are.1 here,
    )
