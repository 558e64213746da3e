use Rattle.std.proofs.Common.{◌^◌, sym, arith, FitsSigned}
use Rattle.std.specs.Int.{w32}
use Rattle.wire_spec.specs.Varint.{read_varint}
use Rattle.wire_spec.proofs.Varints.{wide_32, read_taken, unzigzag-fits_32}
use Rattle.varint.proofs.Steps.{cast_64, cast_32}
use Rattle.varint.proofs.reading.varint_of.Goals as goal

fits : (c : goal.After-signed_of) → FitsSigned w32 c.signed_of.result
fits c = rw c.signed_of.ensures (unzigzag-fits_32 c.in_ok-number.number
    (read_taken 5 15 (2 ^ 32) wide_32 c.args.bytes.now c.in_ok-number.number c.in_ok-number.used
    (λ i. omega (arith, c.type_inv.bytes i)) (sym c.in_ok-number.ensures)).below)

pub overflow_cast-result : goal.overflow_cast-result
overflow_cast-result c = rw (cast_64 c.signed_of.result (fits c)) (fits c)

pub returns : goal.returns
unfolding read_varint
returns c = grind (arith, cast_32, fits)
