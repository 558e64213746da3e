-- The greatest timestamp of records, where each is in range.
use Rattle.std.specs.Prelude.{ℤ, List, Option, Some, None, if◌then◌else◌}
use Rattle.std.specs.List.{list_all}
use Rattle.wire_spec.specs.{declared.record.Record.Record, BatchSpelling.timestamps, BatchSpelling.greatest}
use Rattle.wire_spec.specs.BatchReading.{is_timestamp}

-- a number of milliseconds, if it is from 0 to 2^62 - 1
abbrev pub when_timestamp : ℤ → Option ℤ
when_timestamp t = if is_timestamp t then Some t else None

-- the greatest of the records' timestamps, if each is in range; 0 of no records
unfoldable pub latest_of : ℤ → List Record → Option ℤ
latest_of base rs = if list_all is_timestamp (timestamps base rs) then Some (greatest (timestamps base rs)) else None
