-- What the run of a program ends with, be it decodable or not.
use Rattle.std.specs.Prelude.{◌≡◌, ℕ}
use Rattle.machine_spec.specs.{Image.Program, Machine.Input, Meaning.Means, Meaning.IsTrapped}
use Rattle.bpf_machine.specs.declared.tracing.End.{End}
use Rattle.bpf_machine.specs.declared.tracing.End.TheVariants.{Out, Trap}

-- A run ends so after n instructions: with the outcome that the program means, EXIT being among the n, or with the trap
-- that the state after the n has.
abbrev pub EndsIn : Program → Input → End → ℕ → Type 0
EndsIn program input (Out outcome) n = Means program input outcome n
EndsIn program input (Trap trap) n = IsTrapped program input trap n

-- A run ends so and in no other way.
pub record EndsOnlyIn (program : Program) (input : Input) (end : End) (n : ℕ) : Type 0 where
  pub ends : EndsIn program input end n
  pub only : (other : End) (m : ℕ) → EndsIn program input other m → (other ≡ end) × (m ≡ n)
