use Rattle.std.proofs.Common.{[], map, ap, sym, ◌∙◌}
use Rattle.std.specs.Arc.{arc_value}
use Rattle.log_spec.specs.Catalogue.{programs_of}
use Rattle.program_table.specs.Tables.{table_view}
use Rattle.program_table.proofs.TableLaws.{programs_of-absent, programs_here, program_named-version, version_of-none}
use Rattle.program_table.proofs.table.ProgramTable.version.Goals as goal

pub returns-in-None : goal.returns-in-None
returns-in-None c =
    let table-is = ap table_view c.as_slice-entries.ensures.value ∙ c.self.view_is in
    let absent = programs_of-absent (table_view c.as_slice-entries.result.now) c.args.name.now
    c.in-None.ensures.absent in
    sym (program_named-version c.args.self.now c.args.name.now [] c.args.version
    (ap (λ table. programs_of table c.args.name.now) (sym table-is) ∙ absent) ∙ version_of-none c.args.version)

pub returns-in-Some : goal.returns-in-Some
returns-in-Some c =
    let d = c.index-entries-place.result in
    let here = programs_here c.args.self.now c.self.inside.entries.items c.as_slice-entries.result.now c.in-Some.place d
    c.args.name.now c.self.view_is c.as_slice-entries.ensures.value c.in-Some.ensures.found
    c.in-Some.ensures.first (c.in-Some.ensures.named d) in
    let all = here ∙ ap (λ programs. map (λ program. arc_value program) programs) (sym c.deref.ensures.value) in
    c.program_at.ensures ∙ sym (program_named-version c.args.self.now c.args.name.now
    (map (λ program. arc_value program) c.deref.result.now) c.args.version all)
