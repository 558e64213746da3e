use Rattle.std.proofs.Common.{◌≡◌, ◌++◌, ◌∷◌, [], ℕ, List, length, sym, ap, subst, arith}
use Rattle.std.proofs.lemmas.List.{length_push}
use Rattle.part_log.specs.Parts.{Log}
use Rattle.report.specs.{Totals.Tallied, Totals.IsTallied, Snapshots.IsLeast, Snapshots.AreTallies}
use Rattle.report.proofs.PlaceLaws.{each_pushed}
use Rattle.report.proofs.gathering.tallies.Goals as goal

pub loop-input-preserved : goal.loop-input-preserved
loop-input-preserved g c =
    let outputs = c.args.outputs.now in let count = g.Id.Names.outputs in let xs : List Tallied =
    c.loop-input.all.items in let x : Tallied = c.in_ok-of.field-0 in
    let longer : c.push.new.self.items ≡ xs ++ x ∷ [] = c.in_ok-push.ensures.items in
    let least : IsLeast outputs c.loop-input.input x.first =
    subst (λ (l : Log). IsLeast outputs c.loop-input.input l) (sym c.in_ok-of.ensures.0) c.least.ensures in
    let at : IsLeast outputs (length xs) x.first =
    subst (λ (k : ℕ). IsLeast outputs k x.first) (sym c.loop-input.invariant.0) least in (
      omega (arith, ap (λ (ts : List Tallied). length ts) longer, length_push xs x, c.loop-input.invariant.0),
      subst (λ (ts : List Tallied). AreTallies count outputs ts) (sym longer)
          (each_pushed (λ (k : ℕ) (t : Tallied). IsLeast outputs k t.first × IsTallied count t) xs x
          c.loop-input.invariant.1 (at, c.in_ok-of.ensures.1)),
    )
