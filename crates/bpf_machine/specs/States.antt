-- What a run of the plain machine has at hand, and its state, as the definitions of the machine name them.
use Rattle.machine_spec.specs.{Image.Program, Image.program_of, Machine.Input, Machine.State}
use Rattle.wire_spec.specs.declared.record.Record.{Record}
use Rattle.helpers.specs.Emitted.{yield_in}
use Rattle.bpf_machine.specs.{declared.memory.Run.Run, declared.machine.Machine.Machine, Views.registers_of}
use Rattle.bpf_machine.specs.Views.{stack_of}

-- the program that is run
abbrev pub program_run : Run → Program
program_run run = program_of run.image.now run.table

-- the record and the place of a run
abbrev pub input_of : Run → Input
input_of run = record { given = run.given.now; place = run.place.now }

-- the state that the machine is in, which runs on this record
abbrev pub state_in : Record → Machine → State
state_in given m = record {
  slot = m.slot;
  registers = registers_of m.registers;
  stack = stack_of m.stack;
  emitted = yield_in given m.emitter;
}

-- the same of a run
abbrev pub state_of : Run → Machine → State
state_of run m = state_in run.given.now m
