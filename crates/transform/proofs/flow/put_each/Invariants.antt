use Rattle.item_rows.specs.ItemRows.{rows_in}
use Rattle.transform.specs.Transforms.{Fills}
use Rattle.transform.proofs.EachLaws.{InFirst}
use Rattle.transform.proofs.flow.put_each.Given as goal

abbrev pub invariant-loop-output : goal.invariant-loop-output
invariant-loop-output g l = InFirst l.output l.fn.outlets l.outlets (λ q. Fills (rows_in l.rows.rows q))
