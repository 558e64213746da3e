-- What an outcome in a handle tells C.
use Rattle.std.specs.Prelude.{◌≡◌, ℕ, List, length, Option, Result, Ok, Err}
use Rattle.wire_spec.specs.declared.record.Header.{Header}
use Rattle.machine_spec.specs.{declared.outcome.Outcome.Outcome, declared.outcome.Emission.Emission, Machine.bytes_of}
use Rattle.c_outcomes.specs.Outcomes.{code_of, emissions_of, description_of, header_told, emission_at, header_at}
use Rattle.c_outcomes.specs.Outcomes.{part_at, TellsOf, CopiesFound}
use Rattle.c_outcomes.specs.declared.{emissions.EmissionTold.EmissionTold, headers.HeaderTold.HeaderTold}

-- the reject code and the number of emissions of an outcome that was found
abbrev pub Tells : Result Outcome ℕ → ℕ → ℕ → ℕ → Type 0
Tells (Err fault) code count number = number ≡ fault
Tells (Ok outcome) code count number =
    (number ≡ 0) × (code ≡ code_of outcome) × (count ≡ length (emissions_of outcome))

-- what is reported of an emission, by its number
abbrev pub TellsAt : Result Outcome ℕ → ℕ → EmissionTold → ℕ → Type 0
TellsAt outcome at told number = TellsOf description_of (emission_at outcome at) told number

-- a part of an emission, by its number; a null part has no bytes
abbrev pub CopiesAt :
    (Emission → Option (List ℕ)) → Result Outcome ℕ → ℕ → List ℕ → List ℕ → ℕ → Type 0
CopiesAt part outcome at before after number =
    CopiesFound (part_at (λ e. bytes_of (part e)) (emission_at outcome at)) before after number

-- what is reported of a header of an emission, by their numbers
abbrev pub TellsHeader : Result Outcome ℕ → ℕ → ℕ → HeaderTold → ℕ → Type 0
TellsHeader outcome at header told number =
    TellsOf header_told (header_at (emission_at outcome at) header) told number

-- a part of a header of an emission, by their numbers; a null value has no bytes
abbrev pub CopiesHeader : (Header → List ℕ) → Result Outcome ℕ → ℕ → ℕ → List ℕ → List ℕ → ℕ → Type 0
CopiesHeader part outcome at header before after number =
    CopiesFound (part_at part (header_at (emission_at outcome at) header)) before after number
