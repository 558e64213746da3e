-- Refusals of a load as faults of the catalogue.
use Rattle.std.specs.Prelude.{ℕ, List, Some}
use Rattle.machine_spec.specs.Image.{Program}
use Rattle.log_spec.specs.{declared.event.Refusal.Refusal, Catalogue.LiveTable, Catalogue.IsLiveRefusal}
use Rattle.log_spec.specs.declared.event.Refusal.TheVariants as refusal
use Rattle.catalogue.specs.declared.fault.CatFault.{CatFault}
use Rattle.catalogue.specs.declared.fault.CatFault.TheVariants as fault

-- a load may be refused so: for its name, a full table, its versions used up, its image, or memory
abbrev pub IsOfLoad : Refusal → Type 0
IsOfLoad refusal.Name = Unit {0}
IsOfLoad refusal.Full = Unit {0}
IsOfLoad refusal.Versions = Unit {0}
IsOfLoad (refusal.Load fault) = Unit {0}
IsOfLoad refusal.Memory = Unit {0}
IsOfLoad refusal.Partition = ⊥
IsOfLoad refusal.NoVersion = ⊥
IsOfLoad refusal.LogClosed = ⊥
IsOfLoad refusal.LogFull = ⊥
IsOfLoad refusal.NoItem = ⊥

-- The fault of a load is its first refusal; of Memory nothing is said. A load never returns NoReader.
abbrev pub IsFaultOf : LiveTable → List ℕ → Program → CatFault → Type 0
IsFaultOf table name program fault.Name = IsLiveRefusal table name program (Some refusal.Name)
IsFaultOf table name program fault.Full = IsLiveRefusal table name program (Some refusal.Full)
IsFaultOf table name program (fault.Load refused) = IsLiveRefusal table name program (Some (refusal.Load refused))
IsFaultOf table name program fault.NoReader = ⊥
IsFaultOf table name program fault.Versions = IsLiveRefusal table name program (Some refusal.Versions)
IsFaultOf table name program fault.Memory = Unit {0}

-- a find fails so: it gets no reading, or memory runs out
abbrev pub IsFindFault : CatFault → Type 0
IsFindFault fault.Name = ⊥
IsFindFault fault.Full = ⊥
IsFindFault (fault.Load reported) = ⊥
IsFindFault fault.NoReader = Unit {0}
IsFindFault fault.Versions = ⊥
IsFindFault fault.Memory = Unit {0}
