use Rattle.std.proofs.Common.{◌≡◌, ℕ, ◌<◌, ◌≤◌, length, get_or, take}
use Rattle.wire_spec.specs.Varint.{groups_value}
use Rattle.wire_spec.proofs.Varints.{worth}
use Rattle.varint.proofs.reading.read_groups.Given as goal

-- The bytes so far have the top bit, and the number is theirs.
abbrev pub invariant-loop-at : goal.invariant-loop-at
invariant-loop-at l = record {
  within : l.at ≤ length l.bytes;
  before : (k : ℕ) → k < l.at → 128 ≤ get_or l.bytes k 0;
  number_is : l.number ≡ groups_value (take l.at l.bytes);
  below : l.number < worth l.at 1;
}
