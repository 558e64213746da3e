-- What a listing printed, and a reader with a buffer.
use Rattle.std.proofs.Common.{◌≡◌, ◌⊎◌, ℕ, List, Option, Result, Ok, Err, inl, inr}
use Rattle.std.specs.Io.KnownBytes.{Keeps}
use Rattle.std.proofs.KnownBytes.{Appends-kept}
use Rattle.wire_spec.specs.declared.record.Batch.{Batch}
use Rattle.batch_text.specs.declared.{listing.Listing.Listing, listing.ListFault.ListFault}
use Rattle.batch_text.specs.declared.listing.ListFault.TheVariants as fault
use Rattle.batch_text.specs.Listings.{Listed, Lists, ListsKnown}
use Rattle.commands.specs.{declared.status.Status.Status, declared.status.Status.TheVariants.Failed}
use Rattle.commands.specs.{Listings.status_of_listed, Listings.ListsAs}

listed_kept : {listing : Listing} {bytes : List ℕ} {batches : List Batch} {rest : List ℕ}
    {before mid after : Option (List ℕ)} → Listed listing bytes batches rest before mid → Keeps mid after →
    Listed listing bytes batches rest before after
listed_kept is keeps =
    record { fit = is.fit; bytes_are = is.bytes_are; written = Appends-kept _ _ _ _ is.written keeps }

kept : (listing : Listing) (bytes : List ℕ) (before mid after : Option (List ℕ))
    (result : Result (Unit {0}) ListFault) →
    ListsKnown listing bytes before result mid → Keeps mid after → ListsKnown listing bytes before result after
kept listing bytes before mid after (Ok done) is keeps = (is.0, listed_kept is.1 keeps)
kept listing bytes before mid after (Err (fault.Batch refusal)) is keeps =
    (is.0, is.1, listed_kept is.2 keeps, is.3, is.4, is.5, is.6, is.7)
kept listing bytes before mid after (Err other) is keeps = tt

-- a listing whose text was flushed, with its status
pub listed_as : (listing : Listing) (known before mid after : Option (List ℕ)) (result : Result (Unit {0}) ListFault)
    (status : Status) → Lists listing known before result mid → Keeps mid after →
    (status ≡ status_of_listed result) ⊎ (status ≡ Failed) → ListsAs listing known status before after
listed_as listing known before mid after result status lists keeps (inl is) bytes known_is =
    inr (result, is, kept listing bytes before mid after result (lists bytes known_is) keeps)
listed_as listing known before mid after result status lists keeps (inr is_failed) bytes known_is = inl is_failed
