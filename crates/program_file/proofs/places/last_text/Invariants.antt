use Rattle.std.proofs.Common.{◌≡◌, drop, option_map}
use Rattle.std.specs.Option.{option_or}
use Rattle.program_file.specs.Choice as definitions
use Rattle.program_file.proofs.places.last_text.Given as goal

abbrev pub invariant-loop-place : goal.invariant-loop-place
invariant-loop-place l = definitions.place_at l.slot l.places
    ≡ option_or (definitions.place_at l.slot (drop l.place-index l.places)) (option_map (λ text. text.now) l.found)
