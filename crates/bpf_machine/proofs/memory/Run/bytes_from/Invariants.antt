use Rattle.std.proofs.Common.{◌≡◌}
use Rattle.machine_spec.specs.Machine.{byte_in, bytes_from}
use Rattle.bpf_machine.specs.{Views.stack_of, States.input_of}
use Rattle.bpf_machine.proofs.memory.Run.bytes_from.Given as goal

abbrev pub invariant-loop-k : goal.invariant-loop-k
invariant-loop-k l = l.bytes.items ≡ bytes_from (byte_in (input_of l.self) (stack_of l.stack) l.region) l.place l.k
