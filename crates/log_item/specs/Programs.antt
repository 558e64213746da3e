-- What loading an image returns, and what holds of every run of a program.
use Rattle.std.specs.Prelude.{◌≡◌, ℕ, ◌+◌, ◌<◌, ◌≤◌, pos, ◌≤ℤ◌, ◌⊎◌, true, List, length, get_or, slice_get, Option}
use Rattle.std.specs.Prelude.{Some, None, Result, Ok, Err, IsSome, unsigned_abs}
use Rattle.machine_spec.specs.declared.{instruction.Instruction.Instruction, instruction.Placed.Placed}
use Rattle.machine_spec.specs.declared.{outcome.Outcome.Outcome, outcome.Place.Place, helper.Argument.Argument}
use Rattle.machine_spec.specs.declared.summary.Summary.{Summary}
use Rattle.wire_spec.specs.declared.record.Record.{Record}
use Rattle.machine_spec.specs.declared.summary.Direction.TheVariants.{Read, Write}
use Rattle.machine_spec.specs.{Values.Registers, Summaries.summary_of, Meaning.Reaches, Meaning.Means}
use Rattle.machine_spec.specs.Image.{Program, form_at, IsCodeOf}
use Rattle.machine_spec.specs.Machine.{Input, State, Access, access_of, named_access, byte_in}
use Rattle.machine_spec.specs.Traps.{helper_called, arguments_of, is_read, trap_at}
use Rattle.verifier_spec.specs.{declared.fault.LoadFault.LoadFault, Loading.IsAccepted}
use Rattle.annotate.specs.Loads.{FaultIs}

-- a program that is accepted, or its refusal
abbrev pub ProgramIs : Program → Result Program LoadFault → Type 0
ProgramIs asked (Ok program) = (program ≡ asked) × IsAccepted asked
ProgramIs asked (Err fault) = FaultIs asked fault

-- the bytes that an argument of a helper names, or the room; of another argument none
abbrev pub argument_access : Registers → Argument → Option Access
argument_access registers (Argument.Bytes address count) = named_access Read (registers address) (registers count)
argument_access registers (Argument.Room address count) = named_access Write (registers address) (registers count)
argument_access registers _ = None

-- the bytes are read or written by address: those of a load or a store, or those that an argument of the called helper
-- names
abbrev pub IsAccess : Summary → Registers → Access → Type 0
IsAccess m registers a =
    (access_of m.memory registers ≡ Some a)
    ⊎ ((k : ℕ) × (argument : Argument) × (slice_get (arguments_of (helper_called m.call)) k ≡ Some argument)
    × (argument_access registers argument ≡ Some a))

-- Each byte that the instruction at a state reads by address is there: it lies in this record's key or value, or is set
-- in the stack.
abbrev pub ReadsWithin : Program → Input → State → Type 0
ReadsWithin program input s =
    (i : Instruction) (a : Access) (place : ℕ) → form_at program.image s.slot ≡ Some i →
    IsAccess (summary_of i) s.registers a → is_read a.direction ≡ true
    → place < a.size → (pos 0 ≤ℤ a.start) × IsSome (byte_in input s.stack a.region (unsigned_abs a.start + place))

-- A program runs to one outcome on an input: it means that and nothing else, after at most as many
-- instructions as it has; no state on the way has a trap, and none reads a byte that is not there.
pub record RunsSafely (program : Program) (input : Input) (outcome : Outcome) : Type 0 where
  pub code : List Placed
  pub is_code : IsCodeOf program.image code
  pub count : ℕ
  pub means : Means program input outcome count
  pub only : (other : Outcome) (n : ℕ) → Means program input other n → (other ≡ outcome) × (n ≡ count)
  pub bound : count ≤ length code
  pub no_trap : (n : ℕ) (s : State) → Reaches program input n s → trap_at program input s ≡ None
  pub reads : (n : ℕ) (s : State) → Reaches program input n s → ReadsWithin program input s

-- a program runs safely to the outcome with the same number on each of these records, at its place
pub record RunsSafelyOnEach (program : Program) (given : List Record) (places : List Place) (outcomes : List Outcome) :
    Type 0 where
  pub long : length outcomes ≡ length given
  pub each : (i : ℕ) (g : Record) (p : Place) (o : Outcome) → i < length given →
      RunsSafely program (record { given = get_or given i g; place = get_or places i p }) (get_or outcomes i o)
