use Rattle.std.proofs.Common.{arith}
use Rattle.wire_spec.proofs.Varints.{length-groups}
use Rattle.varint.proofs.writing.len64.Goals as goal

pub returns-clause-small : goal.returns-clause-small
returns-clause-small c = omega (arith, c.groups_len.ensures, length-groups 10 c.zigzag_of.result)
