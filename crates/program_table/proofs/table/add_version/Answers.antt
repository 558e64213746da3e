use Rattle.std.proofs.Common.{◌≡◌, ◌<◌, ◌≤◌, ◌-◌, ◌^◌, ◌++◌, ◌∷◌, [], map, length, get_or, ap, sym, ◌∙◌, refl, arith}
use Rattle.std.proofs.Common.{Some, None}
use Rattle.std.specs.{Arc.arc_value, Vec.vec_len}
use Rattle.program_table.specs.{declared.table.Entry.Entry, Tables.table_view}
use Rattle.machine_spec.specs.Image.{Program, program_of}
use Rattle.log_spec.specs.declared.event.Refusal.TheVariants as refusal
use Rattle.log_spec.specs.Catalogue.{programs_of}
use Rattle.program_table.proofs.TableLaws.{versions_here, refusal_here, has_name-found, with_program-found}
use Rattle.program_table.proofs.TableLaws.{table-set_same, refusal_versions, map-push, refused_early, refused_program}
use Rattle.program_table.proofs.table.add_version.Goals as goal

pub returns-then-versions-ge-MOST_VERSIONS : goal.returns-then-versions-ge-MOST_VERSIONS
returns-then-versions-ge-MOST_VERSIONS c =
    let items = c.args.entries.now in
    let d = c.index-entries-place.result in
    let named = c.requires.named d in
    let known = has_name-found items c.args.place d c.args.name.now c.requires.inside named in
    let versions = versions_here items c.args.place d c.args.name.now c.requires.inside c.requires.first named
    c.index-entries-place.is in
    let count = c.len-versions.ensures
    ∙ ap (λ (entry : Entry). vec_len entry.programs) (sym c.index-entries-place.is) in
    let le : 2 ^ 32 - 1 ≤ length (programs_of (table_view items) c.args.name.now) =
    omega (arith, versions, count, d.programs.ok.0) in (
      λ _. refused_early (table_view items) c.args.name.now (program_of c.args.image.now c.args.table) refusal.Versions
          (refusal_versions (table_view items) c.args.name.now c.requires.form known le),
      refl,
    )

pub returns-in-Err : goal.returns-in-Err
returns-in-Err c =
    let items = c.args.entries.now in
    let d = c.index-entries-place.result in
    let count = c.len-versions.ensures
    ∙ ap (λ (entry : Entry). vec_len entry.programs) (sym c.index-entries-place.is) in
    let few : length d.programs.items < 2 ^ 32 - 1 = omega (arith, count, d.programs.ok.0) in
    let first = refusal_here items c.args.place d c.args.name.now c.requires.form c.requires.inside c.requires.first
    (c.requires.named d) c.index-entries-place.is few in (
      λ ne. refused_program (table_view items) c.args.name.now (program_of c.args.image.now c.args.table)
          (Some c.in-Err.refusal)
          first (c.in-Err.ensures.refused ne),
      refl,
    )

pub returns-in-Err-add_program : goal.returns-in-Err-add_program
returns-in-Err-add_program c = (
  λ ne. absurd (ne refl),
  table-set_same c.args.entries.now c.args.place c.index-entries-place-in-Ok.result
      c.add_program.new.entry c.requires.inside c.in-Err-add_program.ensures.err,
)

pub returns-in-Ok-add_program : goal.returns-in-Ok-add_program
returns-in-Ok-add_program c =
    let items = c.args.entries.now in
    let d = c.index-entries-place.result in
    let named = c.requires.named d in
    let versions = versions_here items c.args.place d c.args.name.now c.requires.inside c.requires.first named
    c.index-entries-place.is in
    let count = c.len-versions.ensures
    ∙ ap (λ (entry : Entry). vec_len entry.programs) (sym c.index-entries-place.is) in
    let few : length d.programs.items < 2 ^ 32 - 1 = omega (arith, count, d.programs.ok.0) in
    let first = refusal_here items c.args.place d c.args.name.now c.requires.form c.requires.inside c.requires.first
    named c.index-entries-place.is few in
    let m = c.index-entries-place-in-Ok.result in
    let old = get_or items c.args.place m in
    let pushed = map-push (λ program. arc_value program) c.add_program.new.entry.programs.items old.programs.items
    c.in-Ok.program c.in-Ok-add_program.ensures.ok in
    let more : map (λ program. arc_value program) c.add_program.new.entry.programs.items
    ≡ map (λ program. arc_value program) old.programs.items ++ program_of c.args.image.now c.args.table ∷ []
    = pushed ∙ ap (λ (p : Program). map (λ program. arc_value program) old.programs.items ++ p ∷ [])
    c.in-Ok.ensures.program in (
      refused_program (table_view items) c.args.name.now (program_of c.args.image.now c.args.table) None first
          c.in-Ok.ensures.accepted,
      omega (arith, versions, count, d.programs.ok.0),
      sym (with_program-found items c.args.place m c.add_program.new.entry c.args.name.now
          (program_of c.args.image.now c.args.table)
          c.requires.inside c.requires.first (c.requires.named m) c.add_program.ensures.name more),
    )
