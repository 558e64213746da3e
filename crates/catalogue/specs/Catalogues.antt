-- What a load does to the published table.
use Rattle.std.specs.Prelude.{◌≡◌, ℕ, List, None, Result, Ok, Err}
use Rattle.machine_spec.specs.Image.{Program}
use Rattle.log_spec.specs.declared.event.Refusal.{Refusal}
use Rattle.log_spec.specs.Catalogue.{Version, LiveTable, IsLiveRefusal, next_version, with_version}
use Rattle.program_table.specs.Tables.{RefusedAs}
use Rattle.catalogue.specs.{declared.fault.CatFault.CatFault, Faults.IsFaultOf}

-- A load that isn't refused makes the name's next version; else the refusal is the first one.
abbrev pub LoadsAs : LiveTable → List ℕ → Program → Result Version Refusal → Type 0
LoadsAs table name program (Ok version) = IsLiveRefusal table name program None
    × (version ≡ next_version table name program)
LoadsAs table name program (Err refused) = RefusedAs (IsLiveRefusal table name program) refused

-- A load that isn't refused returns the name's next version and publishes the table with it; else the table is as it
-- was.
abbrev pub Publishes : LiveTable → List ℕ → Program → Result (ℕ × Version) CatFault → LiveTable → Type 0
Publishes table name program (Ok loaded) next =
    IsLiveRefusal table name program None
    × (loaded.1 ≡ next_version table name program)
    × (loaded.0 ≡ loaded.1.number)
    × (next ≡ with_version table loaded.1)
Publishes table name program (Err fault) next = IsFaultOf table name program fault × (next ≡ table)
