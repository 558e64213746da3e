-- What a handle of C's owns.
use base.Fml.{Fml, ftrue}
use base.Stored.{Coded}
use denote.RawPtr.{Ptr}
use Rattle.std.specs.Prelude.{Option, Some, None, option_map, Bool, true, false}
use Rattle.std.specs.declared.boxed.Box.{Box}
use Rattle.std.specs.{Coded.coded_option, Box.Ownership.box_owns, Global.Global}
use Rattle.std.specs.contracts.impls.GlobalAllocator.TheImpl.{ghosts}
use Rattle.klog_c.specs.contracts.object.Object.{the_row}

-- what a handle contains: an object, or nothing
abbrev pub Held : Type 0
Held = Option the_row.Denot

-- what the pointer of a handle owns: what a box of the object does; nothing where there is no object
abbrev pub handle_owns : Global → Ptr → Option the_row.Denot → Fml
handle_owns alloc p None = ftrue
handle_owns alloc p (Some x) = box_owns (ghosts.dealloc_token alloc) the_row p x

-- the coding of what a handle contains
abbrev pub object_coded : Coded (Option the_row.Denot)
object_coded = coded_option the_row.coded

-- The handle contains an object.
abbrev pub is_full : Option the_row.Denot → Bool
is_full None = false
is_full (Some x) = true

-- what was taken out of a handle, or nothing
abbrev pub taken : Option (Box the_row.Denot Global) → Option the_row.Denot
taken object = option_map (λ object. object.value) object
