use Rattle.std.proofs.Common.{ap, sym, subst, List, length, arith}
use Rattle.report.specs.{Holdings.Held, Snapshots.AreOutputs, Snapshots.AreTallies}
use Rattle.report.proofs.gathering.gather.Goals as goal

pub tallies-requires-clause-some : goal.tallies-requires-clause-some
tallies-requires-clause-some g c =
    omega (arith, c.in_ok-outputs.ensures.some, ap (λ (hs : List (List Held)). length hs) c.deref.ensures.value)

pub tallies-requires-clause-outputs : goal.tallies-requires-clause-outputs
tallies-requires-clause-outputs g c =
    subst (λ (hs : List (List Held)). AreOutputs g.Id.Names.inputs g.Id.Names.outputs hs) (sym c.deref.ensures.value)
    c.in_ok-outputs.ensures.ok.1

pub new-requires : goal.new-requires
new-requires g c =
    let outputs : List (List Held) = c.in_ok-outputs.outputs.items in let inputs = c.in-Ok.inputs.items in
    let counted = c.in-Ok.ensures in record {
      outputs_count = c.in_ok-outputs.ensures.ok.0;
      inputs_count = counted.0;
      outputs_are = c.in_ok-outputs.ensures.ok.1;
      inputs_are = subst (λ (hs : List (List Held)). AreTallies g.Id.Names.outputs hs inputs) c.deref.ensures.value
          counted.1;
    }
