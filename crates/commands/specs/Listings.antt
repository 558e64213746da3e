-- What `batches` and `records` print of a file.
use Rattle.std.specs.Prelude.{◌≡◌, ℕ, ◌⊎◌, if◌then◌else◌, List, Option, Some, Result, Ok, Err, codes}
use Rattle.std.specs.Str.{bytes_eq}
use Rattle.batch_text.specs.declared.listing.{Listing.Listing, ListFault.ListFault}
use Rattle.batch_text.specs.declared.listing.ListFault.TheVariants as fault
use Rattle.batch_text.specs.Listings.{ListsKnown}
use Rattle.commands.specs.declared.status.Status.{Status}
use Rattle.commands.specs.declared.status.Status.TheVariants.{Done, Refused, Failed}

-- the bytes that a name stands for, where they are known: standard input's, or a file's
abbrev pub source_of : List ℕ → Option (List ℕ) → Option (List ℕ) → Option (List ℕ)
source_of name stdin file = if bytes_eq name (codes "stdin") then stdin else file

-- the status of a listing that ends at a fault
abbrev pub status_of : ListFault → Status
status_of (fault.Batch refusal) = Refused
status_of fault.Read = Failed
status_of fault.Write = Failed
status_of fault.Memory = Failed

-- the status of a listing
abbrev pub status_of_listed : Result (Unit {0}) ListFault → Status
status_of_listed (Ok done) = Done
status_of_listed (Err reported) = status_of reported

-- Known bytes were listed on standard output: all of them, or those before bytes that begin with no batch, and the
-- status says which; or it is `Failed`, where a file, standard output or memory failed.
abbrev pub ListsAs : Listing → Option (List ℕ) → Status → Option (List ℕ) → Option (List ℕ) → Type 0
ListsAs listing known status before after = (bytes : List ℕ) → known ≡ Some bytes →
    (status ≡ Failed) ⊎ ((result : Result (Unit {0}) ListFault) × (status ≡ status_of_listed result)
    × ListsKnown listing bytes before result after)
