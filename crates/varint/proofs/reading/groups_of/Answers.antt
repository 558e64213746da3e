use Rattle.std.proofs.Common.{◌<◌, get_or, arith}
use Rattle.wire_spec.proofs.Varints.{EndsAt, reads_at}
use Rattle.varint.proofs.Steps.{value_of_one, value_of_two, ends_at_second}
use Rattle.varint.proofs.reading.groups_of.Goals as goal

pub returns-then-first-lt128 : goal.returns-then-first-lt128
returns-then-first-lt128 c =
    let ends : EndsAt c.args.bytes.now 0 =
    record { within = omega arith; before = λ k lt. absurd (omega (arith, lt)); ends = c.if-first-lt128.true } in
    reads_at c.args.most c.args.top c.args.bytes.now 0 _ ends (omega arith) (λ e. absurd (omega arith))
    (λ lt. absurd (omega (arith, lt))) (value_of_one c.args.bytes.now (omega arith) c.if-first-lt128.true)

pub returns : goal.returns
returns c =
    let low : get_or c.args.bytes.now 1 0 < 128 = omega arith in
    let ends : EndsAt c.args.bytes.now 1 =
    ends_at_second c.args.bytes.now (omega arith) c.if-first-lt128.false low in
    reads_at c.args.most c.args.top c.args.bytes.now 1 _ ends (omega arith) (λ e. absurd (omega arith))
    (λ lt. omega arith) (value_of_two c.args.bytes.now (omega arith) c.if-first-lt128.false
    (omega (arith, c.type_inv.bytes 0)) low)
