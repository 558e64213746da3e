use Rattle.std.proofs.Common.{◌≡◌, ◌+◌, ◌-◌, length}
use Rattle.wire_spec.specs.Varint.{groups}
use Rattle.varint.proofs.writing.groups_len.Given as goal

-- The groups so far, and those of the rest, are the groups of the number.
abbrev pub invariant-loop-len : goal.invariant-loop-len
invariant-loop-len l = l.len + length (groups (11 - l.len) l.rest) ≡ 1 + length (groups 10 l.number)
