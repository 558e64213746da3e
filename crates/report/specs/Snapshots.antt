-- What a snapshot of a broker keeps.
use Rattle.std.specs.Prelude.{◌≡◌, ℕ, List, [], length, take, slice_get, slice_index_or, Option, Some, ◌⊎◌}
use Rattle.part_log.specs.Parts.{Log}
use Rattle.out_book.specs.declared.fault.BookFault.TheVariants as book
use Rattle.broker.specs.declared.fault.BrokerFault.{BrokerFault}
use Rattle.broker.specs.declared.fault.BrokerFault.TheVariants.{Partition, NoProgram, Memory}
use Rattle.broker.specs.declared.fault.BrokerFault.TheVariants.{Catalogue as CatalogueRefuses, Log as LogRefuses}
use Rattle.broker.specs.declared.fault.BrokerFault.TheVariants.{Book as BookRefuses}
use Rattle.report.specs.{Holdings.Held, Holdings.IsOutput, Totals.Tallied, Totals.IsTallied}

-- what each output partition holds of each input partition, and what became of the records of each input partition
pub record Gathered : Type 0 where
  pub outputs : List (List Held)
  pub inputs : List Tallied

-- a snapshot of these parts
abbrev pub gathered_snapshot : List (List Held) → List Tallied → Gathered
gathered_snapshot outputs inputs = record { outputs = outputs; inputs = inputs }

-- what an output partition holds of an input partition, if both are there
abbrev pub held_at : List (List Held) → ℕ → ℕ → Option Held
held_at outputs output input = slice_get (slice_index_or outputs output []) input

-- what each output partition holds is at its place
abbrev pub AreOutputs : ℕ → ℕ → List (List Held) → Type 0
AreOutputs inputs outputs all = (output : ℕ) (holdings : List Held) → slice_get all output ≡ Some holdings →
    IsOutput output inputs outputs holdings

-- The items of an input partition that are done in every output partition: each has them as its first ones, and one of
-- them has no other.
pub record IsLeast (outputs : List (List Held)) (input : ℕ) (first : Log) : Type 0 where
  pub partition_is : first.partition ≡ input
  pub in_each : (output : ℕ) (h : Held) → held_at outputs output input ≡ Some h →
      take (length first.items) h.done.items ≡ first.items
  pub place : ℕ
  pub least : Held
  pub least_at : held_at outputs place input ≡ Some least
  pub in_one : first ≡ least.done

-- The shorter of two logs that agree: both begin with its items, and it is one of them.
pub record IsShorter (one other shorter : Log) : Type 0 where
  pub in_one : take (length shorter.items) one.items ≡ shorter.items
  pub in_other : take (length shorter.items) other.items ≡ shorter.items
  pub is_either : (shorter ≡ one) ⊎ (shorter ≡ other)

-- the records of each input partition are counted over the items that are done in every output partition
abbrev pub AreTallies : ℕ → List (List Held) → List Tallied → Type 0
AreTallies outputs all tallies = (input : ℕ) (t : Tallied) → slice_get tallies input ≡ Some t →
    IsLeast all input t.first × IsTallied outputs t

-- A snapshot of this number of input and output partitions. Each output partition holds the rows of the items that are
-- done there, and each count is that of what became of the records.
pub record IsGathered (inputs outputs : ℕ) (s : Gathered) : Type 0 where
  pub outputs_count : length s.outputs ≡ outputs
  pub inputs_count : length s.inputs ≡ inputs
  pub outputs_are : AreOutputs inputs outputs s.outputs
  pub inputs_are : AreTallies outputs s.outputs s.inputs

-- Memory ran out outside the logs, the catalogue and the books; or a book that is found under a lock is of another
-- output partition.
abbrev pub IsGatherFault : BrokerFault → Type 0
IsGatherFault Memory = Unit {0}
IsGatherFault (BookRefuses book.Partition) = Unit {0}
IsGatherFault (BookRefuses book.Memory) = ⊥
IsGatherFault (BookRefuses (book.Gap expected)) = ⊥
IsGatherFault Partition = ⊥
IsGatherFault NoProgram = ⊥
IsGatherFault (CatalogueRefuses fault) = ⊥
IsGatherFault (LogRefuses fault) = ⊥
