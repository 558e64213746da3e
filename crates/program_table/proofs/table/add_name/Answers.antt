use Rattle.std.proofs.Common.{◌+◌, ◌++◌, ◌∷◌, [], List, length, ap, sym, ◌∙◌, refl, Some, None}
use Rattle.machine_spec.specs.Image.{Program, program_of}
use Rattle.program_table.specs.Tables.{table_view}
use Rattle.program_table.proofs.TableLaws.{programs_of-absent, with_program-absent, refusal_new, refused_program}
use Rattle.program_table.proofs.TableLaws.{has_room}
use Rattle.program_table.proofs.table.add_name.Goals as goal

pub returns-in-Err : goal.returns-in-Err
returns-in-Err c =
    let items = c.args.entries.now.items in
    let lt = has_room items c.if-is_full.ensures.value c.is_full.ensures.fits in (
      λ ne. refused_program (table_view items) c.args.name.now (program_of c.args.image.now c.args.table)
          (Some c.in-Err.refusal)
          (refusal_new (table_view items) c.args.name.now c.requires.form c.requires.new lt)
          (c.in-Err.ensures.refused ne),
      refl,
    )

pub returns-in-Ok-add_entry : goal.returns-in-Ok-add_entry
returns-in-Ok-add_entry c =
    let items = c.args.entries.now.items in
    let lt = has_room items c.if-is_full.ensures.value c.is_full.ensures.fits in
    let none = programs_of-absent (table_view items) c.args.name.now c.requires.new in (
      refused_program (table_view items) c.args.name.now (program_of c.args.image.now c.args.table) None
          (refusal_new (table_view items) c.args.name.now c.requires.form c.requires.new lt)
          c.in-Ok.ensures.accepted,
      ap (λ (programs : List Program). length programs + 1) (sym none),
      c.in-Ok-add_entry.ensures.ok ∙ ap (λ (program : Program). table_view items
          ++ record { name = c.args.name.now; programs = program ∷ [] } ∷ []) c.in-Ok.ensures.program
          ∙ sym (with_program-absent (table_view items) c.args.name.now (program_of c.args.image.now c.args.table)
          c.requires.new),
    )
