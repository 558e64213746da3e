use Rattle.std.proofs.Common.{arith}
use Rattle.bpf_asm.proofs.Scanning.{value_more}
use Rattle.bpf_asm.proofs.number.value.Goals as goal

pub loop-digit-preserved : goal.loop-digit-preserved
loop-digit-preserved c = record {
  small = omega arith;
  so_far = value_more c.args.digits.now c.loop-digit.digit-index c.loop-digit.number c.with_digit-number.result _
      (omega arith) c.requires c.with_digit-number.ensures c.loop-digit.invariant.so_far;
}
