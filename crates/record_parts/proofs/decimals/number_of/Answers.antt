use Rattle.std.proofs.Common.{arith, rules}
use Rattle.record_parts.proofs.Digits.{next_digit, tens}
use Rattle.record_parts.proofs.decimals.number_of.Goals as goal

pub overflow_mul-number : goal.overflow_mul-number
overflow_mul-number c = omega (arith, tens c.loop-byte.byte-index 17 (omega arith))

pub overflow_add-number : goal.overflow_add-number
overflow_add-number c = omega (arith, tens c.loop-byte.byte-index 17 (omega arith))

pub loop-byte-preserved : goal.loop-byte-preserved
loop-byte-preserved c =
    next_digit c.args.bytes.now c.loop-byte.byte-index c.loop-byte.number (omega arith) c.loop-byte.invariant
    (search rules) (search rules) (search rules)

pub returns-clause-small : goal.returns-clause-small
returns-clause-small c = omega (arith, tens c.loop-byte.byte-index 18 (omega arith))
