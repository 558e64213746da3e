use Rattle.std.proofs.Common.{◌≡◌, ℕ, ◌-◌, ◌||◌, length}
use Rattle.machine_spec.specs.Image.{slot_count, is_first_slot}
use Rattle.bpf_machine.specs.Views.{is_marked}
use Rattle.bpf_machine.proofs.Walks.{comes}
use Rattle.bpf_machine.proofs.slots.first_slots.Given as goal

abbrev pub invariant-loop-steps : goal.invariant-loop-steps
invariant-loop-steps l = record {
  size : length l.marks.items ≡ slot_count l.image;
  each : (t : ℕ) → (is_marked l.marks.items t || comes l.image t (slot_count l.image - l._steps) l.slot)
      ≡ is_first_slot l.image t;
}
