-- Rows as a batch shows them: batches of one list of rows are batches of another that shows the same.
use Rattle.std.proofs.Common.{◌≡◌, ℕ, ◌+◌, ◌<◌, List, [], ◌∷◌, ◌++◌, length, map, take, refl, sym, ap, subst, ◌∙◌}
use Rattle.std.proofs.Common.{⊎_elim, inl, inr, arith, append_assoc, append-nil}
use Rattle.std.proofs.lemmas.List.{map-append, take-map, drop-map, length-map}
use Rattle.wire_spec.specs.{BatchSpelling.batch_spelling, BatchSpelling.BatchFits}
use Rattle.wire_spec.specs.declared.limits.TheConstants.{MAX_BATCH}
use Rattle.log_spec.specs.declared.row.Row.{Row}
use Rattle.row_batch.specs.{RowBatches.batch_of, OpenBatches.shown}
use Rattle.row_batch.proofs.ShownLaws.{shown_batch}
use Rattle.transform.specs.Backlogs.{Waiting, having, with_rows, as_shown, ShowsSame, rest_after, IsBatchOf, IsFull}
use Rattle.transform.specs.Outlets.{AreFull, AreBatches}

-- ---- one batch

pub same_length : (x y : Waiting) → ShowsSame y x → length y.rows ≡ length x.rows
same_length x y same =
    sym (length-map y.rows shown) ∙ (ap (λ (w : Waiting). length w.rows) same ∙ length-map x.rows shown)

shown_first : (w : Waiting) (n : ℕ) → batch_of w.place (take n (map shown w.rows)) ≡ batch_of w.place (take n w.rows)
shown_first w n = ap (batch_of w.place) (take-map shown n w.rows) ∙ shown_batch w.place (take n w.rows)

same_batch : (x y : Waiting) (n : ℕ) → ShowsSame y x →
    batch_of x.place (take n x.rows) ≡ batch_of y.place (take n y.rows)
same_batch x y n same =
    sym (shown_first x n) ∙ (ap (λ (w : Waiting). batch_of w.place (take n w.rows)) (sym same) ∙ shown_first y n)

batch_same : (x y : Waiting) (count : ℕ) (bytes : List ℕ) → ShowsSame y x → IsBatchOf x count bytes →
    IsBatchOf y count bytes
batch_same x y count bytes same is =
    let batch = same_batch x y count same in record {
      some = is.some;
      there = omega (arith, is.there, same_length x y same);
      fits = subst BatchFits batch is.fits;
      bytes_are = is.bytes_are ∙ ap batch_spelling batch;
    }

full_same : (x y : Waiting) (count : ℕ) → ShowsSame y x → IsFull x count → IsFull y count
full_same x y count same full = ⊎_elim (λ many. inl many) (λ large. inr (
  omega (arith, large.0, same_length x y same),
  subst (λ b. MAX_BATCH < length (batch_spelling b)) (same_batch x y (count + 1) same) large.1,
)) full

shown_rest : (w : Waiting) (count : ℕ) → as_shown (rest_after w count) ≡ rest_after (as_shown w) count
shown_rest w count = ap (having (rest_after w count)) (sym (drop-map shown count w.rows))

rest_same : (x y : Waiting) (count : ℕ) → ShowsSame y x → ShowsSame (rest_after y count) (rest_after x count)
rest_same x y count same =
    shown_rest y count ∙ (ap (λ (w : Waiting). rest_after w count) same ∙ sym (shown_rest x count))

-- ---- many batches

pub full_from : (old mid new : Waiting) (batches : List (List ℕ)) → ShowsSame mid old → AreFull mid batches new →
    AreFull old batches new
full_from old mid new [] same is = is ∙ same
full_from old mid new (bytes ∷ others) same are = (
  are.0,
  batch_same mid old are.0 bytes (sym same) are.1,
  full_same mid old are.0 (sym same) are.2,
  full_from (rest_after old are.0) (rest_after mid are.0) new others (rest_same old mid are.0 same) are.3,
)

pub batches_from : (old mid new : Waiting) (batches : List (List ℕ)) → ShowsSame mid old → AreBatches mid batches new →
    AreBatches old batches new
batches_from old mid new [] same is = is ∙ same
batches_from old mid new (bytes ∷ others) same are = (
  are.0,
  batch_same mid old are.0 bytes (sym same) are.1,
  λ lt. full_same mid old are.0 (sym same) (are.2 (omega (arith, lt, same_length old mid same))),
  batches_from (rest_after old are.0) (rest_after mid are.0) new others (rest_same old mid are.0 same) are.3,
)

pub full_to : (old mid new : Waiting) (batches : List (List ℕ)) → AreFull old batches mid → ShowsSame new mid →
    AreFull old batches new
full_to old mid new [] is same = same ∙ is
full_to old mid new (bytes ∷ others) are same =
    (are.0, are.1, are.2, full_to (rest_after old are.0) mid new others are.3 same)

-- ---- rows more

shown_with : (w : Waiting) (more : List Row) → as_shown (with_rows w more) ≡ with_rows (as_shown w) (map shown more)
shown_with w more = ap (having w) (map-append shown w.rows more)

pub with_same : (x y : Waiting) (more : List Row) → ShowsSame y x → ShowsSame (with_rows y more) (with_rows x more)
with_same x y more same =
    shown_with y more ∙ (ap (λ (w : Waiting). with_rows w (map shown more)) same ∙ sym (shown_with x more))

row_shown : (rows : List Row) (row : Row) (others : List Row) →
    map shown (rows ++ shown row ∷ others) ≡ map shown (rows ++ row ∷ others)
row_shown [] row others = refl
row_shown (first ∷ rows) row others = ap (λ rs. shown first ∷ rs) (row_shown rows row others)

-- a row was added, and others may come after it
pub one_shown : (old new : Waiting) (row : Row) (others : List Row) → new ≡ with_rows old (shown row ∷ []) →
    ShowsSame (with_rows new others) (with_rows old (row ∷ others))
one_shown old new row others is =
    let rows : (old.rows ++ shown row ∷ []) ++ others ≡ old.rows ++ shown row ∷ others =
    append_assoc old.rows (shown row ∷ []) others in
    ap (λ (w : Waiting). as_shown (with_rows w others)) is
    ∙ (ap (λ (rs : List Row). as_shown (having old rs)) rows
    ∙ ap (having old) (row_shown old.rows row others))

pub none_with : (w : Waiting) → with_rows w [] ≡ w
none_with w = ap (having w) (append-nil w.rows)

pub more_with : (w : Waiting) (rows more : List Row) → with_rows (with_rows w rows) more ≡ with_rows w (rows ++ more)
more_with w rows more = ap (having w) (append_assoc w.rows rows more)
