use Rattle.std.proofs.Common.{length, arith}
use Rattle.wire_spec.specs.Varint.{groups}
use Rattle.varint.proofs.Steps.{len_more, len_last, len_end}
use Rattle.varint.proofs.writing.groups_len.Goals as goal

pub returns-then-rest-lt128 : goal.returns-then-rest-lt128
returns-then-rest-lt128 c = len_last c.loop-len.len c.loop-len.rest (length (groups 10 c.args.number))
    c.loop-len-test.true c.if-rest-lt128.true c.loop-len.invariant

pub loop-len-preserved : goal.loop-len-preserved
loop-len-preserved c = grind (arith, len_more)

pub returns : goal.returns
returns c = len_end c.loop-len.len c.loop-len.rest (length (groups 10 c.args.number)) (omega arith) (omega arith)
    c.loop-len.invariant
