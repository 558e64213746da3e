-- How many records met which fate.
use Rattle.std.specs.Prelude.{◌≡◌, ℕ, zero, suc, ◌==◌, Bool, true, false, List, length, count_by, Option, unwrap_or}
use Rattle.std.specs.Prelude.{Some, None, slice_get}
use Rattle.std.specs.{Ordering.nat_cmp, Ordering.is_eq, Map.keys_of, Map.lookup, List.Sorted.IsStrictlySortedBy}
use Rattle.machine_spec.specs.Image.{Program}
use Rattle.log_spec.specs.Logs.{Item, in_force, offset_of}
use Rattle.fates.specs.{declared.fate.Fate.Fate, Fates.AreItemFates, Fates.AreFatesOf}
use Rattle.fates.specs.declared.fate.Fate.TheVariants.{Unprogrammed, Kept, Rejected}

-- how many records there are, how many of them had no program, how many were kept, and how many each code rejected
pub record Totals : Type 0 where
  pub records : ℕ
  pub unprogrammed : ℕ
  pub kept : ℕ
  pub rejects : List (ℕ × ℕ)

-- counts of these parts
abbrev pub totals : ℕ → ℕ → ℕ → List (ℕ × ℕ) → Totals
totals records unprogrammed kept rejects =
    record { records = records; unprogrammed = unprogrammed; kept = kept; rejects = rejects }

-- no program ran on the record
abbrev pub is_unprogrammed : Fate → Bool
is_unprogrammed Unprogrammed = true
is_unprogrammed Kept = false
is_unprogrammed (Rejected code) = false

-- the record's emissions were kept
abbrev pub is_kept : Fate → Bool
is_kept Unprogrammed = false
is_kept Kept = true
is_kept (Rejected code) = false

-- the record was rejected with this code
abbrev pub is_rejected_by : ℕ → Fate → Bool
is_rejected_by code Unprogrammed = false
is_rejected_by code Kept = false
is_rejected_by code (Rejected by) = by == code

-- how many records a code rejected, where it is listed
abbrev pub rejected_by : ℕ → List (ℕ × ℕ) → Option ℕ
rejected_by code rejects = lookup (λ listed. is_eq (nat_cmp code listed)) rejects

-- how many records a code rejected; none where it is not listed
abbrev pub rejects_of : ℕ → List (ℕ × ℕ) → ℕ
rejects_of code rejects = unwrap_or (rejected_by code rejects) 0

-- a number that is listed only where it is not 0
abbrev pub listed_count : ℕ → Option ℕ
listed_count zero = None
listed_count (suc n) = Some (suc n)

-- These are the counts of the fates. The reject codes rise, and only those are listed that rejected a record.
pub record AreCounts (fates : List Fate) (counts : Totals) : Type 0 where
  pub records_are : counts.records ≡ length fates
  pub unprogrammed_are : counts.unprogrammed ≡ count_by is_unprogrammed fates
  pub kept_are : counts.kept ≡ count_by is_kept fates
  pub rising : IsStrictlySortedBy nat_cmp (keys_of counts.rejects)
  pub rejects_are : (code : ℕ) → rejected_by code counts.rejects ≡ listed_count (count_by (is_rejected_by code) fates)

-- the counts of some fates of which a fact holds
pub record AreCountsWith (Holds : List Fate → Type 0) (counts : Totals) : Type 0 where
  pub fates : List Fate
  pub fates_are : Holds fates
  pub counts_are : AreCounts fates counts

-- the counts of what becomes of an item's records, by the program in force for it
abbrev pub AreItemCounts : ℕ → ℕ → Option Program → ℕ → Item → Totals → Type 0
AreItemCounts input outputs program offset item counts =
    AreCountsWith (AreItemFates input outputs program offset item) counts

-- the counts of what becomes of the records of item k of a log
pub record AreCountsAt (input outputs : ℕ) (items : List Item) (k : ℕ) (counts : Totals) : Type 0 where
  pub item : Item
  pub item_is : slice_get items k ≡ Some item
  pub counts_are : AreItemCounts input outputs (in_force items k) (offset_of items k) item counts

-- the counts of what became of the records of the first n items of a log
pub record AreCountsOf (input outputs : ℕ) (items : List Item) (n : ℕ) (counts : Totals) : Type 0 where
  pub fates : List Fate
  pub fates_are : AreFatesOf input outputs items n fates
  pub counts_are : AreCounts fates counts
