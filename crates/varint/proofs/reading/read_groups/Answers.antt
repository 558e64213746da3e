use Rattle.std.proofs.Common.{◌-◌, ◌<◌, get_or, below_more, arith}
use Rattle.wire_spec.proofs.Varints.{EndsAt, reads_at, refuses_zero}
use Rattle.varint.proofs.Steps.{Sum, sum_at, is_early}
use Rattle.varint.proofs.reading.read_groups.Goals as goal

pub returns-then-at-gt0 : goal.returns-then-at-gt0
returns-then-at-gt0 c =
    let ends : EndsAt c.args.bytes.now c.loop-at.at =
    record { within = omega arith; before = c.loop-at.invariant.before; ends = c.if-byte-lt128.true } in
    refuses_zero c.args.most c.args.top c.args.bytes.now c.loop-at.at ends (omega arith) c.if-at-gt0.true
    c.if-byte-eq0.true

sum_last : (c : goal.Joined-else-byte-eq0) →
    Sum c.args.bytes.now c.loop-at.at c.loop-at.number (get_or c.args.bytes.now c.loop-at.at 0)
sum_last c = sum_at c.args.bytes.now c.loop-at.at c.loop-at.number (get_or c.args.bytes.now c.loop-at.at 0)
    (is_early c.args.most c.args.top c.loop-at.at c.requires c.loop-at-test.true) c.if-at-bytes.false
    c.loop-at.invariant.number_is c.loop-at.invariant.below c.if-byte-lt128.true (omega arith)

pub overflow_add-result : goal.overflow_add-result
overflow_add-result c = omega (arith, (sum_last c).fits)

pub returns-then-byte-lt128 : goal.returns-then-byte-lt128
returns-then-byte-lt128 c =
    let ends : EndsAt c.args.bytes.now c.loop-at.at =
    record { within = omega arith; before = c.loop-at.invariant.before; ends = c.if-byte-lt128.true } in
    let some : 0 < c.loop-at.at → 0 < get_or c.args.bytes.now c.loop-at.at 0 = λ h. omega (arith, h) in
    reads_at c.args.most c.args.top c.args.bytes.now c.loop-at.at _ ends (omega arith) (λ e. absurd (omega arith)) some
    (sum_last c).adds.number_is

sum_more : (c : goal.Else-byte-lt128) →
    Sum c.args.bytes.now c.loop-at.at c.loop-at.number (get_or c.args.bytes.now c.loop-at.at 0 - 128)
sum_more c = sum_at c.args.bytes.now c.loop-at.at c.loop-at.number (get_or c.args.bytes.now c.loop-at.at 0 - 128)
    (is_early c.args.most c.args.top c.loop-at.at c.requires c.loop-at-test.true) c.if-at-bytes.false
    c.loop-at.invariant.number_is c.loop-at.invariant.below (omega (arith, c.type_inv.bytes c.loop-at.at))
    (omega (arith, c.type_inv.bytes c.loop-at.at))

pub overflow_add-number : goal.overflow_add-number
overflow_add-number c = omega (arith, (sum_more c).fits)

pub loop-at-preserved : goal.loop-at-preserved
loop-at-preserved c = grind (arith, below_more, sum_more)

pub returns-then-byte-eq0-2 : goal.returns-then-byte-eq0-2
returns-then-byte-eq0-2 c =
    let ends : EndsAt c.args.bytes.now (c.args.most - 1) =
    record {
      within = omega arith;
      before = λ k h. c.loop-at.invariant.before k (omega arith);
      ends = omega arith;
    } in
    refuses_zero c.args.most c.args.top c.args.bytes.now (c.args.most - 1) ends (omega arith) (omega arith)
    c.if-byte-eq0-2.true
