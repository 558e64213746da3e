use Rattle.std.proofs.Common.{◌≡◌, ◌∙◌, ap}
use Rattle.wire_spec.specs.Varint.{zigzag, groups, varint}
use Rattle.varint.proofs.Steps.{cast_from_32, groups_5}
use Rattle.varint.proofs.writing.write32.Goals as goal

pub returns-clause-ok : goal.returns-clause-ok
unfolding varint
returns-clause-ok c =
    let number : c.zigzag_of.result ≡ zigzag c.args.value = c.zigzag_of.ensures
    ∙ ap zigzag (cast_from_32 c.args.value c.ranges.value) in
    let same : groups 10 c.zigzag_of.result ≡ groups 5 (zigzag c.args.value) = ap (groups 10) number
    ∙ groups_5 c.args.value c.ranges.value in
    rw (← same) c.write_groups.ensures.ok
