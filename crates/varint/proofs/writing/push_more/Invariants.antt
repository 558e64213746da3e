use Rattle.std.proofs.Common.{◌≡◌, ◌<◌, ◌-◌, ◌^◌, ◌++◌, vec_capacity}
use Rattle.wire_spec.specs.Varint.{groups}
use Rattle.wire_spec.proofs.Varints.{worth}
use Rattle.varint.proofs.writing.push_more.Given as goal

-- What was written, and the groups of the rest, are the groups of the number.
abbrev pub invariant-loop : goal.invariant-loop
invariant-loop l = record {
  groups_are : l.out.items ++ groups (10 - l.counter) l.rest ≡ l.fn.out.items ++ groups 10 l.number;
  capacity : vec_capacity l.out ≡ vec_capacity l.fn.out;
  below : worth l.counter l.rest < 2 ^ 64;
}
