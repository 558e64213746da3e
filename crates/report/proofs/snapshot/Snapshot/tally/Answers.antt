use Rattle.std.proofs.Common.{◌<◌, List, length, refl, sym, subst}
use Rattle.std.proofs.lemmas.Option.{slice_get_read}
use Rattle.report.specs.{Totals.Tallied, Snapshots.Gathered, Snapshots.IsLeast}
use Rattle.report.proofs.snapshot.Snapshot.tally.Goals as goal

pub returns-clause-least : goal.returns-clause-least
returns-clause-least g c =
    let all : List Tallied = c.self.inside.inputs.items in let i = c.args.input in let t : Tallied =
    c.index.result.now in
    let lt : i < length all = subst (λ (s : Gathered). i < length s.inputs) (sym c.self.view_is) c.requires in
    subst (λ (s : Gathered). IsLeast s.outputs i t.first) c.self.view_is
    (c.self.invariant.inputs_are i t (slice_get_read all (length all) i t refl lt c.index.ensures)).0
