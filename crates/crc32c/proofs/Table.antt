-- Each entry of the tables is what the steps bit by bit make of its index, by computing it.
use Rattle.std.proofs.Common.{◌≡◌, ℕ, zero, suc, ◌+◌, ◌*◌, ◌<◌, Bool, true, ◌&&◌, nat_eq, List, [], ◌∷◌, length, get_or}
use Rattle.std.proofs.Common.{refl, ◌∙◌, ap, arith}
use Rattle.std.proofs.lemmas.Bool.{and_parts, eqb-true}
use Rattle.wire_spec.specs.Checksum.{remainder}
use Rattle.crc32c.specs.declared.tables.TheConstants.{TABLES}

-- from index i on, the entries are x ^ n times their index
unfoldable are_entries : ℕ → ℕ → List ℕ → Bool
are_entries n i [] = true
are_entries n i (p ∷ ps) = nat_eq p (remainder n i) && are_entries n (suc i) ps

-- from row k on, the rows are x ^ (8 k + 8) times each byte
unfoldable are_rows : ℕ → List (List ℕ) → Bool
are_rows k [] = true
are_rows k (row ∷ rows) = (nat_eq (length row) 256 && are_entries (8 * k + 8) 0 row) && are_rows (suc k) rows

tables_right : are_rows 0 TABLES ≡ true
unfolding are_rows are_entries remainder
tables_right = refl

entry_is : (ps : List ℕ) (n i j k : ℕ) → are_entries n i ps ≡ true → j < length ps → k ≡ i + j →
    get_or ps j 0 ≡ remainder n k
unfolding are_entries
entry_is [] n i j k h l e = absurd (omega arith)
entry_is (p ∷ ps) n i zero k h l e =
    let same : i ≡ k = omega arith in
    eqb-true p (remainder n i) (and_parts _ _ h).0 ∙ ap (remainder n) same
entry_is (p ∷ ps) n i (suc j) k h l e = entry_is ps n (suc i) j k (and_parts _ _ h).1 (omega arith) (omega arith)

row_is : (rows : List (List ℕ)) (k j row i : ℕ) → are_rows k rows ≡ true → j < length rows → row ≡ k + j → i < 256
    → get_or (get_or rows j []) i 0 ≡ remainder (8 * row + 8) i
unfolding are_rows
row_is [] k j row i h l e below = absurd (omega arith)
row_is (r ∷ rows) k zero row i h l e below =
    let same : k ≡ row = omega arith in
    let here = and_parts _ _ (and_parts _ _ h).0 in
    entry_is r (8 * k + 8) 0 i i here.1 (rw (eqb-true _ _ here.0) below) (omega arith)
    ∙ ap (λ m. remainder (8 * m + 8) i) same
row_is (r ∷ rows) k (suc j) row i h l e below =
    row_is rows (suc k) j row i (and_parts _ _ h).1 (omega arith) (omega arith) below

pub TABLES_is : (row i : ℕ) → row < 16 → i < 256 → get_or (get_or TABLES row []) i 0 ≡ remainder (8 * row + 8) i
TABLES_is row i within below = row_is TABLES 0 row row i tables_right within (omega arith) below
