-- What the plain machine does at a state, as relations between states of the machine.
use Rattle.std.specs.Prelude.{◌≡◌, Some, None, Result, Ok, Err}
use Rattle.machine_spec.specs.declared.{instruction.Instruction.Instruction, instruction.Trap.Trap}
use Rattle.machine_spec.specs.declared.instruction.Instruction.TheVariants.{Exit}
use Rattle.machine_spec.specs.{Image.Program, Image.form_at, Machine.Input, Machine.State, Traps.trap_at, Meaning.Step}
use Rattle.bpf_isa.specs.Spelling.{HasRegisters}
use Rattle.bpf_machine.specs.declared.tracing.Advance.{Advance}
use Rattle.bpf_machine.specs.declared.tracing.Advance.TheVariants as advance

-- a state has no trap, and this instruction is at its slot
pub record IsNext (program : Program) (input : Input) (s : State) (i : Instruction) : Type 0 where
  pub form : form_at program.image s.slot ≡ Some i
  pub no_trap : trap_at program input s ≡ None
  pub registers : HasRegisters i

-- a state's instruction, or its trap
abbrev pub IsFetched : Program → Input → State → Result Instruction Trap → Type 0
IsFetched program input s (Ok i) = IsNext program input s i
IsFetched program input s (Err trap) = trap_at program input s ≡ Some trap

-- a state has no trap and is at an EXIT
pub record IsExit (program : Program) (input : Input) (s : State) : Type 0 where
  pub form : form_at program.image s.slot ≡ Some Exit
  pub no_trap : trap_at program input s ≡ None

-- what was done at a state, and the state after it
abbrev pub Advances : Program → Input → State → State → Advance → Type 0
Advances program input s t advance.Stepped = Step program input s t
Advances program input s t (advance.Trapped trap) = trap_at program input s ≡ Some trap
Advances program input s t advance.Ended = IsExit program input s × (t ≡ s)
