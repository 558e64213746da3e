use Rattle.std.proofs.Common.{◌≡◌, false, take}
use Rattle.log_spec.specs.Catalogue.{has_name}
use Rattle.program_table.specs.Tables.{table_view}
use Rattle.program_table.proofs.table.place_of.Given as goal

abbrev pub invariant-loop-i : goal.invariant-loop-i
invariant-loop-i l = has_name (table_view (take l.i l.entries)) l.name ≡ false
