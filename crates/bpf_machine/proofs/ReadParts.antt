-- The registers that an instruction reads, part by part.
use Rattle.std.proofs.Common.{◌≡◌, ◌||◌, ◌&&◌, List}
use Rattle.std.specs.List.{list_any, flat_map}
use Rattle.machine_spec.specs.declared.{helper.Argument.Argument, summary.Summary.Summary}
use Rattle.machine_spec.specs.Values.{Registers, is_nothing}
use Rattle.machine_spec.specs.Traps.{operand_registers, base_registers, condition_registers, argument_registers}
use Rattle.machine_spec.specs.Traps.{call_registers, reads_unset_register}
use Rattle.machine_spec.proofs.ReadParts.{read_parts, any_of_each}

pub reads_parts : (m : Summary) (registers : Registers) →
    reads_unset_register m registers
    ≡ ((((list_any (λ r. is_nothing (registers r)) (operand_registers m.takes) || list_any
    (λ r. is_nothing (registers r)) (base_registers m.memory)) || list_any (λ r. is_nothing (registers r))
    (condition_registers m.condition)) || list_any (λ r. is_nothing (registers r)) (call_registers m.call)) ||
    (m.exits && is_nothing (registers 0)))
reads_parts m registers = read_parts (λ r. is_nothing (registers r)) m

pub reads_each : (registers : Registers) (arguments : List Argument) →
    list_any (λ r. is_nothing (registers r)) (flat_map argument_registers arguments)
    ≡ list_any (λ a. list_any (λ r. is_nothing (registers r)) (argument_registers a)) arguments
reads_each registers arguments = any_of_each (λ r. is_nothing (registers r)) argument_registers arguments
