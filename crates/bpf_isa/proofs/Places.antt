-- The table has the place of each opcode's template, by computing all of them.
use Rattle.std.proofs.Common.{◌≡◌, ℕ, ◌<◌, ◌==◌, List, map, get_or, refl, ap, ◌∙◌, arith}
use Rattle.std.specs.List.{position_or_len, range_with_len}
use Rattle.std.proofs.lemmas.List.FromFn.{get_or-map-range_with_len}
use Rattle.machine_spec.specs.{declared.opcode.TheConstants.TEMPLATES, Opcodes.opcode_of}
use Rattle.bpf_isa.specs.declared.opcode.TheConstants.{PLACES}

-- the place of the first template with an opcode, or their number
abbrev place_of : ℕ → ℕ
place_of opcode = position_or_len (λ template. opcode_of template == opcode) TEMPLATES

all_places : PLACES ≡ map place_of (range_with_len 0 256)
all_places = refl

pub PLACES_is : (opcode : ℕ) → opcode < 256 → get_or PLACES opcode 0 ≡ place_of opcode
PLACES_is opcode below =
    ap (λ (places : List ℕ). get_or places opcode 0) all_places
    ∙ get_or-map-range_with_len place_of 0 256 opcode opcode 0 below (omega arith)
