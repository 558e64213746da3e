-- Which commands are refused before anything is done.
use Rattle.std.specs.Prelude.{ℕ, Bool, true, not, ◌&&◌, nat_lt, nat_le, if◌then◌else◌, List, length, Option, Some, None}
use Rattle.wire_spec.specs.declared.limits.TheConstants.{MAX_KEY, MAX_VALUE, TIMESTAMP_END}
use Rattle.log_spec.specs.declared.limits.TheConstants.{MAX_CELLS, MAX_PARTITIONS}
use Rattle.script.specs.declared.{command.Command.Command, fault.ScriptFault.ScriptFault}
use Rattle.script.specs.declared.command.Command.TheVariants.{Partitions, Load, Deploy, Put, Append, Close, Fetch, Go}
use Rattle.script.specs.declared.fault.ScriptFault.TheVariants.{Order, Range}

-- a command may come here: `partitions` is first and occurs once, and a program is deployed after it was loaded
abbrev pub is_in_order : Command → (has_begun is_loaded : Bool) → Bool
is_in_order (Partitions inputs outputs cells) has_begun is_loaded = not has_begun
is_in_order (Load name source table) has_begun is_loaded = has_begun
is_in_order (Deploy input name) has_begun is_loaded = has_begun && is_loaded
is_in_order (Put input timestamp key value) has_begun is_loaded = has_begun
is_in_order (Append input source) has_begun is_loaded = has_begun
is_in_order (Close input) has_begun is_loaded = has_begun
is_in_order (Fetch output place max) has_begun is_loaded = has_begun
is_in_order Go has_begun is_loaded = has_begun

-- how many bytes a key or a value has; null has none
abbrev pub text_size : Option (List ℕ) → ℕ
text_size None = 0
text_size (Some bytes) = length bytes

-- a number is from 1 to the most
abbrev pub is_count : (number most : ℕ) → Bool
is_count number most = nat_le 1 number && nat_le number most

-- the numbers of a command are in range: 1 to 64 input and output partitions, 1 to 65,536 cells; timestamps below 2^62,
-- keys of at most 4,096 bytes and values of at most 1,048,576
abbrev pub is_in_range : Command → Bool
is_in_range (Partitions inputs outputs cells) = is_count inputs MAX_PARTITIONS
    && (is_count outputs MAX_PARTITIONS && is_count cells MAX_CELLS)
is_in_range (Load name source table) = true
is_in_range (Deploy input name) = true
is_in_range (Put input timestamp key value) = nat_lt timestamp TIMESTAMP_END
    && (nat_le (text_size key) MAX_KEY && nat_le (text_size value) MAX_VALUE)
is_in_range (Append input source) = true
is_in_range (Close input) = true
is_in_range (Fetch output place max) = true
is_in_range Go = true

-- why a command is refused before anything is done: Order, or else Range
abbrev pub fault_of : Command → (has_begun is_loaded : Bool) → Option ScriptFault
fault_of command has_begun is_loaded =
    if not (is_in_order command has_begun is_loaded) then Some Order else if not (is_in_range command) then Some Range
    else None
