use Rattle.std.proofs.Common.{◌≡◌, arith, length}
use Rattle.wire_spec.specs.Varint.{varint}
use Rattle.wire_spec.proofs.Varints.{length-varint}
use Rattle.varint.proofs.Steps.{cast_from_32, groups_5}
use Rattle.varint.proofs.writing.len32.Goals as goal

same_len : (c : goal.After-groups_len) → c.groups_len.result ≡ length (varint c.args.value)
unfolding varint
same_len c = grind (arith, cast_from_32, groups_5)

pub returns-clause-size : goal.returns-clause-size
returns-clause-size c = same_len c

pub returns-clause-small : goal.returns-clause-small
returns-clause-small c = omega (arith, same_len c, length-varint c.args.value)
