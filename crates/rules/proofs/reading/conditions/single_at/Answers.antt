use Rattle.std.proofs.Common.{[], ◌∷◌, refl}
use Rattle.rules.specs.declared.condition.Node.TheVariants as node
use Rattle.rules.specs.Formulas.{Single}
use Rattle.rules.proofs.reading.conditions.single_at.Goals as goal

pub returns : goal.returns
returns c = (
  Single c.in_ok-test.test,
  rw c.in_ok-test.ensures refl,
  record {
    part = node.Test c.in_ok-test-2.test ∷ [];
    is = c.in_ok-push.ensures.items;
    whole = λ more. rw c.in_ok-test-2.ensures.ok refl;
  },
)
