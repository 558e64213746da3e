use Rattle.std.proofs.Common.{◌≡◌, ◌-◌, ◌≤◌, length}
use Rattle.machine_spec.specs.Image.{slot_count, read_slots, first_slots}
use Rattle.bpf_isa.specs.Code.{IsTable}
use Rattle.bpf_isa.proofs.Reading.{with_front, rest_from}
use Rattle.bpf_isa.proofs.decoding.read_code.Given as goal

abbrev pub invariant-loop-slot : goal.invariant-loop-slot
invariant-loop-slot l = record {
  slots : length l.numbers ≡ l.slot;
  few : length l.placed ≤ l.slot;
  table : IsTable l.placed l.numbers;
  so_far : with_front l.placed (rest_from l.image (slot_count l.image - length l.placed) l.slot)
      ≡ read_slots l.image (first_slots l.image);
}

abbrev pub decreases-loop-slot : goal.decreases-loop-slot
decreases-loop-slot l = l.slots - l.slot
