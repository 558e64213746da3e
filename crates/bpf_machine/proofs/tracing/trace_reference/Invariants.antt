use Rattle.std.proofs.Common.{◌+◌, ◌-◌}
use Rattle.machine_spec.specs.{Image.slot_count, Meaning.Reaches}
use Rattle.bpf_machine.specs.States.{program_run, input_of, state_of}
use Rattle.bpf_machine.proofs.tracing.trace_reference.Given as goal

abbrev pub invariant-steps : goal.invariant-steps
invariant-steps l = Reaches (program_run l.run) (input_of l.run) l.count (state_of l.run l.machine)

abbrev pub decreases-steps : goal.decreases-steps
decreases-steps l = slot_count l.image + 2 - l.machine.slot
