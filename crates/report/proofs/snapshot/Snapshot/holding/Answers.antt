use Rattle.std.proofs.Common.{◌<◌, List, length, refl, sym, subst}
use Rattle.std.proofs.lemmas.Option.{slice_get_read}
use Rattle.report.specs.{Holdings.Held, Snapshots.Gathered}
use Rattle.report.proofs.snapshot.Snapshot.holding.Goals as goal

pub returns-clause-output : goal.returns-clause-output
returns-clause-output g c =
    let all : List (List Held) = c.self.inside.outputs.items in let q = c.args.output in let holdings : List Held =
    c.index.result.now in
    let lt : q < length all = subst (λ (s : Gathered). q < length s.outputs) (sym c.self.view_is) c.requires.output in
    ((c.self.invariant.outputs_are q holdings (slice_get_read all (length all) q holdings refl lt c.index.ensures)).each
    c.args.input c.at.result.now c.at.ensures).0

pub returns-clause-input : goal.returns-clause-input
returns-clause-input g c =
    let all : List (List Held) = c.self.inside.outputs.items in let q = c.args.output in let holdings : List Held =
    c.index.result.now in
    let lt : q < length all = subst (λ (s : Gathered). q < length s.outputs) (sym c.self.view_is) c.requires.output in
    ((c.self.invariant.outputs_are q holdings (slice_get_read all (length all) q holdings refl lt c.index.ensures)).each
    c.args.input c.at.result.now c.at.ensures).1
