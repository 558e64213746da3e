-- All batches of a reader through a program.
use Rattle.std.specs.Prelude.{◌≡◌, ◌⊎◌, ℕ, ◌+◌, ◌^◌, ◌<◌, Bool, true, false, List, [], ◌∷◌, ◌++◌, length, Option, Some}
use Rattle.std.specs.Prelude.{None, Result, Ok, Err, slice_get, take}
use Rattle.wire_spec.specs.declared.record.Batch.{Batch}
use Rattle.wire_spec.specs.declared.limits.TheConstants.{TIMESTAMP_END, MAX_RECORDS}
use Rattle.machine_spec.specs.Image.{Program}
use Rattle.batch.specs.Batches.{AreBatches}
use Rattle.batch_reader.specs.{Readings.Inlet, Readings.left_of, Readings.ReadsBatch}
use Rattle.transform.specs.declared.{stream.StreamFault.StreamFault, flow.TransformFault.TransformFault}
use Rattle.transform.specs.declared.outlet.OutletFault.{OutletFault}
use Rattle.transform.specs.declared.stream.StreamFault.TheVariants as fault
use Rattle.transform.specs.declared.flow.TransformFault.TheVariants as stop
use Rattle.transform.specs.declared.outlet.OutletFault.TheVariants as outlet
use Rattle.transform.specs.Transforms.{Flow, Follows, Finished, Broken, CountsBatches, Pushes, PushesFirst, EndsFlow}
use Rattle.transform.specs.Transforms.{first_of, records_of}
use Rattle.transform.specs.Tellings.{Telling, AddsTellings}

-- where bytes are known, they begin with these batches, one after the other, and those are the others
abbrev pub Begins : Option (List ℕ) → List Batch → Option (List ℕ) → Type 0
Begins before batches after = (bytes : List ℕ) → before ≡ Some bytes →
    (rest : List ℕ) × AreBatches bytes batches rest × (after ≡ Some rest)

-- A reader gave these batches, one after the other, and no others. Its bytes, where they are known, begin with them,
-- and it counted as many batches more, and as many bytes as they have; nothing is said of a count of 2^64 or more.
pub record Gave (old : Inlet) (given : List Batch) (new : Inlet) : Type 0 where
  pub begins : Begins (left_of old) given (left_of new)
  pub batches : old.given.batches + length given < 2 ^ 64 → new.given.batches ≡ old.given.batches + length given
  pub bytes : (known rest : List ℕ) → left_of old ≡ Some known → left_of new ≡ Some rest →
      old.given.bytes + length known < 2 ^ 64 + length rest →
      new.given.bytes + length rest ≡ old.given.bytes + length known

-- an output partition failed
abbrev pub is_broken : Result (Unit {0}) StreamFault → Bool
is_broken (Ok done) = false
is_broken (Err (fault.Read why)) = false
is_broken (Err (fault.Transform stop.Full)) = false
is_broken (Err (fault.Transform stop.Memory)) = false
is_broken (Err (fault.Transform (stop.Output output why))) = true

-- the last batch that the reader gave was not pushed, or not whole
abbrev pub is_cut : Result (Unit {0}) StreamFault → Bool
is_cut (Ok done) = false
is_cut (Err (fault.Read why)) = false
is_cut (Err (fault.Transform stop.Full)) = false
is_cut (Err (fault.Transform stop.Memory)) = true
is_cut (Err (fault.Transform (stop.Output output why))) = true

-- What a reader did after the batches that were transformed, and so why no more are: it is at its end, or fails; or it
-- gave one batch more, which might reach the offset 2^62. Where memory ran out it did nothing more, and where an output
-- partition failed it gave none more, or such a one.
abbrev pub EndsAt : Flow → List Batch → Inlet → Result (Unit {0}) StreamFault → Inlet → Type 0
EndsAt start batches old (Ok done) new = ReadsBatch old (Ok None) new
EndsAt start batches old (Err (fault.Read why)) new = ReadsBatch old (Err why) new
EndsAt start batches old (Err (fault.Transform stop.Full)) new =
    (TIMESTAMP_END < start.offset + records_of batches + MAX_RECORDS)
    × (batch : Batch) × ReadsBatch old (Ok (Some batch)) new
EndsAt start batches old (Err (fault.Transform stop.Memory)) new = new ≡ old
EndsAt start batches old (Err (fault.Transform (stop.Output output why))) new =
    (new.given ≡ old.given) ⊎ ((batch : Batch) × ReadsBatch old (Ok (Some batch)) new)

-- These batches were pushed of those that were given: all but the last one, and of that one nothing or the first
-- records.
pub record AreCut (given pushed : List Batch) : Type 0 where
  pub before : List Batch
  pub last : Batch
  pub given_are : given ≡ before ++ last ∷ []
  pub pushed_are : (pushed ≡ before)
      ⊎ ((count : ℕ) × (count < length last.records) × (pushed ≡ before ++ first_of count last ∷ []))

-- Batches were pushed, but at the last one memory ran out.
pub record PushedFirst (start : Flow) (program : Program) (batches : List Batch) (now : Flow) : Type 0 where
  pub before : List Batch
  pub last : Batch
  pub are : batches ≡ before ++ last ∷ []
  pub mid : Flow
  pub follows : Follows start program before mid
  pub pushes : PushesFirst program last mid now

-- Batches were pushed, unless memory ran out at the last one, or an output partition failed.
abbrev pub Pushed : Flow → Program → List Batch → Result (Unit {0}) StreamFault → Flow → Type 0
Pushed start program batches (Err (fault.Transform (stop.Output output why))) now =
    Broken start program batches now.outputs output why
Pushed start program batches (Err (fault.Transform stop.Memory)) now = PushedFirst start program batches now
Pushed start program batches result now = Follows start program batches now

-- Batches were pushed, and all their rows written. Their records were counted, and the next one has the offset after
-- them.
pub record Completed (start : Flow) (program : Program) (batches : List Batch) (now : Flow) : Type 0 where
  pub input : now.input ≡ start.input
  pub offset : now.offset ≡ start.offset + records_of batches
  pub outputs : Finished start program batches now.outputs
  pub counts : CountsBatches start program batches now.counts

-- What was pushed before an output partition failed: all batches that were given, or memory had run out at the last one.
-- That is not so where an output partition is full.
pub record AreOf (why : OutletFault) (given pushed : List Batch) : Type 0 where
  pub are : (pushed ≡ given) ⊎ AreCut given pushed
  pub all : why ≡ outlet.Full → pushed ≡ given

-- Batches were pushed, and all their rows written, unless an output partition failed. Where memory ran out at the last
-- batch, its first records were.
abbrev pub Transformed : Flow → Program → List Batch → Result (Unit {0}) StreamFault → Flow → Type 0
Transformed start program batches (Err (fault.Transform (stop.Output output why))) now =
    (pushed : List Batch) × AreOf why batches pushed × Broken start program pushed now.outputs output why
Transformed start program batches (Err (fault.Transform stop.Memory)) now =
    (pushed : List Batch) × AreCut batches pushed × Completed start program pushed now
Transformed start program batches result now = Completed start program batches now

-- The batches that a reader gave were pushed: all up to its end, or up to a fault.
abbrev pub PushesAll : Program → Inlet → Flow → Result (Unit {0}) StreamFault → Inlet → Flow → Type 0
PushesAll program reader start result after now = (batches : List Batch) × (mid : Inlet) × Gave reader batches mid
    × EndsAt start batches mid result after × Pushed start program batches result now

-- The batches that a reader gave were transformed: all up to its end, or up to a fault.
abbrev pub TransformsAll : Program → Inlet → Flow → Result (Unit {0}) StreamFault → Inlet → Flow → Type 0
TransformsAll program reader start result after now = (batches : List Batch) × (mid : Inlet)
    × Gave reader batches mid × EndsAt start batches mid result after × Transformed start program batches result now

-- ---- What a watcher is told

-- what is told after these batches: how much the reader had given with them, and how many records were counted with
-- theirs
pub record IsToldAfter (reader : Inlet) (start : Flow) (batches : List Batch) (told : Telling) : Type 0 where
  pub mid : Inlet
  pub gave : Gave reader batches mid
  pub position : told.position ≡ mid.given
  pub records : told.records ≡ start.counts.records + records_of batches

-- one telling for each of these batches: that at index k is of the first 1 + k of them
pub record AreTellings (reader : Inlet) (start : Flow) (batches : List Batch) (tellings : List Telling) : Type 0 where
  pub count : length tellings ≡ length batches
  pub each : (k : ℕ) (told : Telling) → slice_get tellings k ≡ Some told →
      IsToldAfter reader start (take (1 + k) batches) told

-- Which of the batches were pushed with success: all. Where memory ran out, that was at the last one, which is not among
-- them then. Where an output partition failed, that was at the end of them all, or at the last one, or at the end where
-- memory ran out at the last one.
abbrev pub ArePushed : Flow → Program → List Batch → Result (Unit {0}) StreamFault → Flow → List Batch → Type 0
ArePushed start program batches (Err (fault.Transform (stop.Output output why))) now pushed =
    let failure : Result (Unit {0}) TransformFault = Err (stop.Output output why) in
    (mid : Flow) × Follows start program pushed mid
    × (((batches ≡ pushed) × EndsFlow mid failure now)
    ⊎ ((failed : Batch) × (batches ≡ pushed ++ failed ∷ []) × (Pushes program failed mid failure now
    ⊎ ((half : Flow) × PushesFirst program failed mid half × EndsFlow half failure now))))
ArePushed start program batches (Err (fault.Transform stop.Memory)) now pushed =
    (failed : Batch) × (batches ≡ pushed ++ failed ∷ [])
ArePushed start program batches result now pushed = batches ≡ pushed

-- A watcher was told of each batch that was pushed with success, in order and once, and of nothing else.
abbrev pub Tells : Inlet → Flow → Program → List Batch → Result (Unit {0}) StreamFault → Flow → Option (List Telling) →
    Option (List Telling) → Type 0
Tells reader start program batches result now old new =
    (pushed : List Batch) × (tellings : List Telling) × ArePushed start program batches result now pushed
    × AreTellings reader start pushed tellings × AddsTellings old tellings new

-- the batches that a reader gave were pushed, and a watcher was told of them
pub record PushesWatched (program : Program) (reader : Inlet) (start : Flow) (result : Result (Unit {0}) StreamFault)
    (after : Inlet) (now : Flow) (old new : Option (List Telling)) : Type 0 where
  pub all : PushesAll program reader start result after now
  pub told : Tells reader start program all.0 result now old new

-- the batches that a reader gave were transformed, and a watcher was told of them
pub record TransformsWatched (program : Program) (reader : Inlet) (start : Flow)
    (result : Result (Unit {0}) StreamFault) (after : Inlet) (now : Flow) (old new : Option (List Telling)) : Type 0
  where
    pub all : TransformsAll program reader start result after now
    pub told : Tells reader start program all.0 result now old new
