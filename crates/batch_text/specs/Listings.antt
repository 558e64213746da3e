-- The text of the batches that bytes are.
use Rattle.std.specs.Prelude.{◌≡◌, ◌≢◌, ℕ, ◌+◌, All, List, [], ◌∷◌, ◌++◌, length, Option, Some, Result, Ok, Err, ⊤}
use Rattle.std.specs.{List.flat_map, Io.KnownBytes.Appends}
use Rattle.wire_spec.specs.declared.{fault.BatchFault.TheVariants.Memory as NoMemory, record.Batch.Batch}
use Rattle.wire_spec.specs.{BatchSpelling.BatchFits, BatchSpelling.batch_spelling, BatchReading.batch_at}
use Rattle.batch_reader.specs.declared.{reader.ReadFault.ReadFault, reader.ReadFault.TheVariants.Batch as Refused}
use Rattle.batch_reader.specs.Readings.{BeginsWith}
use Rattle.batch_text.specs.{Lines.batch_line, Lines.record_lines, declared.listing.Listing.Listing}
use Rattle.batch_text.specs.declared.listing.ListFault.{ListFault}
use Rattle.batch_text.specs.declared.listing.ListFault.TheVariants as fault

-- the text of a batch that begins at a position of a file
abbrev pub text_of : Listing → ℕ → Batch → List ℕ
text_of Listing.Batches position batch = batch_line position (batch_spelling batch)
text_of Listing.Records position batch = record_lines batch

-- the texts of batches, one after the other, of which the first begins at a position
abbrev pub texts_of : Listing → ℕ → List Batch → List ℕ
texts_of listing position [] = []
texts_of listing position (batch ∷ batches) =
    text_of listing position batch ++ texts_of listing (position + length (batch_spelling batch)) batches

-- the bytes of batches, one after the other
abbrev pub bytes_of : List Batch → List ℕ
bytes_of batches = flat_map batch_spelling batches

-- Some bytes are those of these batches and then the rest, and the batches' texts were written, of which the first
-- begins at position 0. A batch has one spelling, and no spelling begins another, so the bytes say which batches.
pub record Listed (listing : Listing) (bytes : List ℕ) (batches : List Batch) (rest : List ℕ)
    (before after : Option (List ℕ)) : Type 0 where
  pub fit : All BatchFits batches
  pub bytes_are : bytes ≡ bytes_of batches ++ rest
  pub written : Appends before after (texts_of listing 0 batches)

-- Known bytes were listed: all of them, or those before bytes that begin with no batch. Nothing is said where the
-- reader, the writer or memory failed.
abbrev pub ListsKnown : Listing → List ℕ → Option (List ℕ) → Result (Unit {0}) ListFault → Option (List ℕ) → Type 0
ListsKnown listing bytes before (Ok done) after = (batches : List Batch) × Listed listing bytes batches [] before after
ListsKnown listing bytes before (Err (fault.Batch refusal)) after =
    (batches : List Batch) × (rest : List ℕ) × Listed listing bytes batches rest before after
    × (rest ≢ []) × (batch_at rest ≡ Err refusal.fault) × ((more : List ℕ) × (rest ≡ refusal.bytes ++ more))
    × (refusal.batches ≡ length batches) × (refusal.position ≡ length (bytes_of batches))
ListsKnown listing bytes before (Err fault.Read) after = ⊤
ListsKnown listing bytes before (Err fault.Write) after = ⊤
ListsKnown listing bytes before (Err fault.Memory) after = ⊤

-- the same of bytes that may be known
abbrev pub Lists : Listing → Option (List ℕ) → Option (List ℕ) → Result (Unit {0}) ListFault → Option (List ℕ) → Type 0
Lists listing known before result after = (bytes : List ℕ) → known ≡ Some bytes →
    ListsKnown listing bytes before result after

-- ---- why a listing ends

-- the reader, the writer or memory failed
abbrev pub IsUnlisted : ListFault → Type 0
IsUnlisted (fault.Batch refusal) = ⊥
IsUnlisted fault.Read = ⊤
IsUnlisted fault.Write = ⊤
IsUnlisted fault.Memory = ⊤

-- Why no further batch is listed, after so many batches of so many bytes, where no batch was read for this reason and
-- these bytes are left. Where they are refused, the first of them show that.
abbrev pub StopsListing : Option (List ℕ) → ℕ → ℕ → ReadFault → ListFault → Type 0
StopsListing left batches position why (fault.Batch refusal) =
    (refusal.batches ≡ batches) × (refusal.position ≡ position) × (why ≡ Refused refusal.fault)
    × (refusal.fault ≢ NoMemory) × BeginsWith left refusal.bytes
StopsListing left batches position why fault.Read = ⊤
StopsListing left batches position why fault.Write = ⊤
StopsListing left batches position why fault.Memory = ⊤
