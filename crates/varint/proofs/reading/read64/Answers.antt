use Rattle.std.proofs.Common.{arith}
use Rattle.wire_spec.proofs.Varints.{varlong_found, read_varlong-form}
use Rattle.varint.proofs.reading.read64.Goals as goal

pub returns-clause-found : goal.returns-clause-found
returns-clause-found c = varlong_found c.args.bytes.now c.varlong_of.result (λ i. omega (arith, c.type_inv.bytes i))
    c.varlong_of.ensures

pub returns-clause-only : goal.returns-clause-only
returns-clause-only c = grind (arith, read_varlong-form)
