use Rattle.transform.specs.Transforms.{Empties}
use Rattle.transform.proofs.EachLaws.{InFirst}
use Rattle.transform.proofs.flow.end_each.Given as goal

abbrev pub invariant-loop-output : goal.invariant-loop-output
invariant-loop-output g l = InFirst l.output l.fn.outlets l.outlets (λ q. Empties)
