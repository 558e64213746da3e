-- What a load of the live catalogue is in the core.
use Rattle.std.specs.Prelude.{◌≡◌, ◌≢◌, ℕ, List, Option, Some, None, Result, Ok, Err}
use Rattle.machine_spec.specs.{Image.program_of, declared.helper.Table.Table}
use Rattle.log_spec.specs.declared.event.Event.TheVariants as event
use Rattle.log_spec.specs.declared.{event.Refusal.Refusal, event.Reply.TheVariants.Loaded}
use Rattle.log_spec.specs.Catalogue.{Version, LiveTable, IsLive, with_program}
use Rattle.log_spec.specs.Worlds.{World, IsRefusal, Happens}
use Rattle.catalogue.specs.{declared.fault.CatFault.CatFault, Catalogues.Publishes}
use Rattle.log_spec.specs.declared.event.Refusal.TheVariants as refusal
use Rattle.catalogue.specs.declared.fault.CatFault.TheVariants as fault

-- The refusal of the core for which a load has this fault; none for a fault that the core doesn't have, and for memory.
abbrev pub refusal_for : CatFault → Option Refusal
refusal_for fault.Name = Some refusal.Name
refusal_for fault.Full = Some refusal.Full
refusal_for (fault.Load why) = Some (refusal.Load why)
refusal_for fault.NoReader = None
refusal_for fault.Versions = Some refusal.Versions
refusal_for fault.Memory = None

-- The core doesn't refuse the event either, has its reply, and a table of which the next one is the live table. Or,
-- unless memory ran out, it refuses the event with the same refusal, and both tables are as they were.
abbrev pub DoesInCore :
    World → List ℕ → List ℕ → Table → LiveTable → Result (ℕ × Version) CatFault → LiveTable → Type 0
DoesInCore w name image table live (Ok loaded) next =
    IsRefusal w (event.Load name image table) None
    × Happens w (event.Load name image table) (Loaded loaded.0)
    (record w { table = with_program w.table name (program_of image table) })
    × IsLive (with_program w.table name (program_of image table)) next
DoesInCore w name image table live (Err reported) next =
    (next ≡ live) × (reported ≢ fault.Memory →
    (first : Refusal) × (refusal_for reported ≡ Some first) × IsRefusal w (event.Load name image table) (Some first))

-- A load over the live table of a world does in the core what it does to this table.
abbrev pub FollowsCore : Type 0
FollowsCore =
    (w : World) (name image : List ℕ) (table : Table) (live next : LiveTable)
    (result : Result (ℕ × Version) CatFault) → IsLive w.table live →
    Publishes live name (program_of image table) result next → DoesInCore w name image table live result next
