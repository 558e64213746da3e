use Rattle.std.proofs.Common.{List, sym, subst, rules}
use Rattle.arrayvec.proofs.ArrayVecLemmas.{items-with_items}
use Rattle.machine_spec.specs.Image.{program_of}
use Rattle.program_table.specs.{declared.table.Entry.Entry, Tables.table_view, Tables.IsTable}
use Rattle.program_table.proofs.KeptTables.{is_table-loaded}
use Rattle.program_table.proofs.table.ProgramTable.load.Goals as goal

pub invariant_of-self : goal.invariant_of-self
invariant_of-self c =
    let new = c.add_version.new.entries in
    let before : IsTable (table_view c.deref_mut.result.now) =
    subst (λ (es : List Entry). IsTable (table_view es)) (sym c.deref_mut.ensures.value) c.self.invariant in
    let after = is_table-loaded (table_view c.deref_mut.result.now) (table_view new) c.args.name.now
    (program_of c.args.image.now c.args.table) c.add_version.result before c.add_version.ensures in
    subst (λ (es : List Entry). IsTable (table_view es))
    (sym (items-with_items c.self.inside.entries new (search rules))) after

pub invariant_of-self-in-None : goal.invariant_of-self-in-None
invariant_of-self-in-None c =
    is_table-loaded (table_view c.self.inside.entries.items) (table_view c.add_name.new.entries.items) c.args.name.now
    (program_of c.args.image.now c.args.table) c.add_name.result c.self.invariant c.add_name.ensures
