-- What becomes of the records of a log.
use Rattle.std.specs.Prelude.{◌≡◌, ℕ, zero, suc, ◌+◌, List, [], ◌∷◌, ◌++◌, slice_get, Option, Some, None}
use Rattle.wire_spec.specs.declared.{record.Record.Record, record.Batch.Batch}
use Rattle.machine_spec.specs.declared.{outcome.Outcome.Outcome, outcome.Place.Place}
use Rattle.machine_spec.specs.declared.outcome.Outcome.TheVariants as ending
use Rattle.machine_spec.specs.{Image.Program, Meaning.Means}
use Rattle.log_spec.specs.Logs.{Item, Records, Marked, Closed, in_force, offset_of, place_of}
use Rattle.fates.specs.declared.fate.Fate.{Fate}
use Rattle.fates.specs.declared.fate.Fate.TheVariants.{Unprogrammed, Kept, Rejected}

-- what becomes of a record with this outcome
abbrev pub fate_of : Outcome → Fate
fate_of (ending.Kept emissions) = Kept
fate_of (ending.Rejected code) = Rejected code

-- What becomes of a record by the program in force: that of what the program means on it. Without one no program runs.
abbrev pub IsFate : Option Program → Place → Record → Fate → Type 0
IsFate None place given fate = fate ≡ Unprogrammed
IsFate (Some program) place given fate = (outcome : Outcome) × (n : ℕ)
    × Means program (record { given = given; place = place }) outcome n × (fate ≡ fate_of outcome)

-- what becomes of a batch's records, in order; each record has the offset after the one before
abbrev pub AreRecordsFates : ℕ → ℕ → Option Program → Batch → ℕ → List Record → List Fate → Type 0
AreRecordsFates input outputs program batch offset [] fates = fates ≡ []
AreRecordsFates input outputs program batch offset (given ∷ others) fates =
    (here : Fate) × (later : List Fate) × IsFate program (place_of input outputs offset batch given) given here
    × AreRecordsFates input outputs program batch (offset + 1) others later × (fates ≡ here ∷ later)

-- what becomes of an item's records; a mark and the end have none
abbrev pub AreItemFates : ℕ → ℕ → Option Program → ℕ → Item → List Fate → Type 0
AreItemFates input outputs program offset (Records batch) fates =
    AreRecordsFates input outputs program batch offset batch.records fates
AreItemFates input outputs program offset (Marked name version marked) fates = fates ≡ []
AreItemFates input outputs program offset Closed fates = fates ≡ []

-- what becomes of the records of the first n items of a log: each record runs by the program whose mark is the last
-- before it
abbrev pub AreFatesOf : ℕ → ℕ → List Item → ℕ → List Fate → Type 0
AreFatesOf input outputs items zero fates = fates ≡ []
AreFatesOf input outputs items (suc k) fates =
    (before : List Fate) × (here : List Fate) × (item : Item) × AreFatesOf input outputs items k before
    × (slice_get items k ≡ Some item)
    × AreItemFates input outputs (in_force items k) (offset_of items k) item here × (fates ≡ before ++ here)
