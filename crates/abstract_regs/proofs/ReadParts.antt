-- The registers that an instruction reads, part by part.
use Rattle.std.proofs.Common.{◌≡◌, ◌||◌, ◌&&◌, List}
use Rattle.std.specs.List.{list_any, flat_map}
use Rattle.machine_spec.specs.declared.{helper.Argument.Argument, summary.Summary.Summary}
use Rattle.machine_spec.specs.Traps.{operand_registers, base_registers, condition_registers, argument_registers}
use Rattle.machine_spec.specs.Traps.{call_registers}
use Rattle.machine_spec.proofs.ReadParts.{read_parts, any_of_each}
use Rattle.verifier_spec.specs.{declared.state.Abstract.Abstract, Kinds.kind_at, Kinds.is_unknown, Checks.reads_unknown}

pub reads_parts : (m : Summary) (s : Abstract) →
    reads_unknown m s ≡ ((((list_any (λ r. is_unknown (kind_at s r)) (operand_registers m.takes) || list_any
    (λ r. is_unknown (kind_at s r)) (base_registers m.memory)) || list_any (λ r. is_unknown (kind_at s r))
    (condition_registers m.condition)) || list_any (λ r. is_unknown (kind_at s r)) (call_registers m.call)) ||
    (m.exits && is_unknown (kind_at s 0)))
reads_parts m s = read_parts (λ r. is_unknown (kind_at s r)) m

pub reads_each : (s : Abstract) (arguments : List Argument) →
    list_any (λ r. is_unknown (kind_at s r)) (flat_map argument_registers arguments)
    ≡ list_any (λ a. list_any (λ r. is_unknown (kind_at s r)) (argument_registers a)) arguments
reads_each s arguments = any_of_each (λ r. is_unknown (kind_at s r)) argument_registers arguments
