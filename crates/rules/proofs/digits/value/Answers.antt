use Rattle.std.proofs.Common.{arith}
use Rattle.rules.proofs.DigitValues.{value_more}
use Rattle.rules.proofs.digits.value.Goals as goal

pub loop-digit-preserved : goal.loop-digit-preserved
loop-digit-preserved c = record {
  small = omega arith;
  so_far = value_more c.args.base c.args.digits.now c.loop-digit.digit-index c.loop-digit.number c.with_digit-number.result _
      (omega arith) (omega arith) c.with_digit-number.ensures c.loop-digit.invariant.so_far;
}
