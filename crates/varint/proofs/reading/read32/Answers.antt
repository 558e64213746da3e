use Rattle.std.proofs.Common.{arith}
use Rattle.wire_spec.proofs.Varints.{varint_found, read_varint-form}
use Rattle.varint.proofs.reading.read32.Goals as goal

pub returns-clause-found : goal.returns-clause-found
returns-clause-found c = varint_found c.args.bytes.now c.varint_of.result (λ i. omega (arith, c.type_inv.bytes i))
    c.varint_of.ensures

pub returns-clause-only : goal.returns-clause-only
returns-clause-only c = grind (arith, read_varint-form)
