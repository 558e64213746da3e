use Rattle.std.proofs.Common.{◌≡◌, ◌++◌, ◌∷◌, [], ℕ, List, length, sym, ap, subst, arith}
use Rattle.std.proofs.lemmas.List.{length_push}
use Rattle.report.specs.{Holdings.Held, Holdings.IsOutput, Snapshots.AreOutputs}
use Rattle.report.proofs.PlaceLaws.{each_pushed}
use Rattle.report.proofs.gathering.holdings.Goals as goal

pub loop-output-preserved : goal.loop-output-preserved
loop-output-preserved g c =
    let inputs = g.Id.Names.inputs in let outputs = g.Id.Names.outputs in let xs : List (List Held) =
    c.loop-output.all.items in let x : List Held = c.in_ok-holdings.holdings in
    let longer : c.push.new.self.items ≡ xs ++ x ∷ [] = c.in-Ok.ensures.items in
    let at : IsOutput (length xs) inputs outputs x =
    subst (λ (k : ℕ). IsOutput k inputs outputs x) (sym c.loop-output.invariant.0) c.in_ok-holdings.ensures.ok in (
      omega (arith, ap (λ (hs : List (List Held)). length hs) longer, length_push xs x, c.loop-output.invariant.0),
      subst (λ (hs : List (List Held)). AreOutputs inputs outputs hs) (sym longer)
          (each_pushed (λ (k : ℕ) (hs : List Held). IsOutput k inputs outputs hs) xs x c.loop-output.invariant.1
          at),
    )
