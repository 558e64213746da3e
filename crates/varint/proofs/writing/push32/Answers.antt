use Rattle.std.proofs.Common.{ap, length, arith}
use Rattle.varint.proofs.Steps.{varint_is}
use Rattle.varint.proofs.writing.push32.Goals as goal

pub push_groups-requires : goal.push_groups-requires
push_groups-requires c =
    omega (arith, c.requires, ap length (varint_is c.args.value c.zigzag_of.result c.ranges.value c.zigzag_of.ensures))

pub returns-clause-items : goal.returns-clause-items
returns-clause-items c =
    rw (← varint_is c.args.value c.zigzag_of.result c.ranges.value c.zigzag_of.ensures) c.push_groups.ensures.items

pub returns-clause-len : goal.returns-clause-len
returns-clause-len c =
    omega (
      arith,
      c.push_groups.ensures.len,
      ap length (varint_is c.args.value c.zigzag_of.result c.ranges.value c.zigzag_of.ensures),
    )
