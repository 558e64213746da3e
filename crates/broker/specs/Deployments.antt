-- What loads and deployments return.
use Rattle.std.specs.Prelude.{◌≡◌, ℕ, ◌<◌, ◌≤◌, List, Option, Some, None, Result, Ok, Err}
use Rattle.machine_spec.specs.Image.{Program}
use Rattle.log_spec.specs.{Catalogue.Version, Catalogue.LiveTable, Logs.Marked}
use Rattle.part_log.specs.Parts.{Received}
use Rattle.catalogue.specs.{Catalogues.Publishes, Faults.IsFindFault, Finders.Seen, Finders.Finds}
use Rattle.catalogue.specs.{Versions.IsThisOrLater, declared.fault.CatFault.TheVariants.NoReader}
use Rattle.broker.specs.declared.fault.BrokerFault.{BrokerFault}
use Rattle.broker.specs.declared.fault.BrokerFault.TheVariants.{Partition, NoProgram, Memory}
use Rattle.broker.specs.declared.fault.BrokerFault.TheVariants.{Catalogue as CatalogueRefuses, Log as LogRefuses}
use Rattle.broker.specs.declared.fault.BrokerFault.TheVariants.{Book as BookRefuses}

-- Over some table that the catalogue had, a load has this result.
abbrev pub LoadIs : List ℕ → Program → Result (ℕ × Version) BrokerFault → Type 0
LoadIs name program (Ok loaded) = (table : LiveTable) × (next : LiveTable)
    × Publishes table name program (Ok loaded) next
LoadIs name program (Err (CatalogueRefuses fault)) = (table : LiveTable) × (next : LiveTable)
    × Publishes table name program (Err fault) next
LoadIs name program (Err Partition) = ⊥
LoadIs name program (Err NoProgram) = ⊥
LoadIs name program (Err Memory) = ⊥
LoadIs name program (Err (LogRefuses fault)) = ⊥
LoadIs name program (Err (BookRefuses fault)) = ⊥

-- the catalogue gives no reader
abbrev pub IsNoReader : BrokerFault → Type 0
IsNoReader (CatalogueRefuses fault) = fault ≡ NoReader
IsNoReader Partition = ⊥
IsNoReader NoProgram = ⊥
IsNoReader Memory = ⊥
IsNoReader (LogRefuses fault) = ⊥
IsNoReader (BookRefuses fault) = ⊥

-- The finder found this under a name, in a reading of the published table: what is known under the name, or a later
-- version.
pub record IsFound (name : List ℕ) (known : Version) (old new : Seen) (found : Option (ℕ × Program)) : Type 0 where
  pub finds : Finds known name old new found
  pub fresh : known.name ≡ name → IsThisOrLater known found

-- The receipt is of the mark of what the finder found, in the log of this input partition.
pub record IsDeployed (input : ℕ) (name : List ℕ) (known : Version) (old : Seen) (receipt : Received) (version : ℕ)
    (new : Seen) : Type 0 where
  pub program : Program
  pub partition_is : receipt.before.partition ≡ input
  pub item_is : receipt.item ≡ Marked name version program
  pub found : IsFound name known old new (Some (version, program))

-- Of a broker with `inputs` input partitions, by a finder that is seen as `old` before and as `new` after. The first
-- that holds is returned: there is no such partition, the finder gets no reading, it finds none, the log refuses the
-- mark.
abbrev pub DeployIs : ℕ → ℕ → List ℕ → Version → Seen → Result (Received × ℕ) BrokerFault → Seen → Type 0
DeployIs inputs input name known old (Ok deployed) new = (input < inputs)
    × IsDeployed input name known old deployed.0 deployed.1 new
DeployIs inputs input name known old (Err Partition) new = (inputs ≤ input) × (new ≡ old)
DeployIs inputs input name known old (Err Memory) new = ⊥
DeployIs inputs input name known old (Err (CatalogueRefuses fault)) new = (input < inputs) × IsFindFault fault
    × (new.versions ≡ old.versions)
DeployIs inputs input name known old (Err NoProgram) new = (input < inputs) × IsFound name known old new None
DeployIs inputs input name known old (Err (LogRefuses fault)) new = (input < inputs) × (found : ℕ × Program)
    × IsFound name known old new (Some found)
DeployIs inputs input name known old (Err (BookRefuses fault)) new = ⊥
