-- Runs of small programs that call the helpers over parts of a record, worked out by computing.
use Rattle.std.proofs.Common.{◌≡◌, ℕ, List, [], ◌∷◌, ◌++◌, map, Option, Some, None, refl, pos}
use Rattle.std.specs.{Prelude.replicate, Str.is_utf8, Str.chars, Char.encode_utf8}
use Rattle.machine_spec.specs.declared.{helper.Table.TheVariants.Three, outcome.Outcome.Outcome}
use Rattle.machine_spec.specs.declared.outcome.Emission.{Emission}
use Rattle.machine_spec.specs.declared.outcome.Outcome.TheVariants.{Kept, Rejected}
use Rattle.wire_spec.specs.declared.record.Header.{Header}
use Rattle.machine_spec.specs.{Opcodes.template_of, Opcodes.is_left_out, Traps.trap_at}
use Rattle.machine_spec.specs.Image.{program_of, read_slot, read_fields, first_slots}
use Rattle.machine_spec.specs.Machine.{Input, state_after, helper_among, header_refusal}
use Rattle.machine_spec.specs.{Places.least_place, Hashes.murmur2, Hashes.after_bytes}
use Rattle.machine_spec.proofs.Runs.{End, Out, run, small, move, move_to, call, exit, at_end, to_end, load_64}

-- the headers `h`, which is `x`, and `i`, which is null
abbrev headers : List Header
headers = record { key = 104 ∷ []; value = Some (120 ∷ []) } ∷ record { key = 105 ∷ []; value = None } ∷ []

-- a record with the key `k`, a value and these headers, where there are two output partitions
abbrev of_value : Option (List ℕ) → Input
of_value value = record {
  given = record { timestamp_delta = pos 0; key = Some (107 ∷ []); value = value; headers = headers };
  place = record { partition = 0; offset = 0; timestamp = 1000; outputs = 2 };
}

-- the record with another value is emitted to output 0
abbrev emits : List ℕ → Outcome
emits value = Kept (record { out = 0; key = Some (107 ∷ []); value = Some value; headers = headers } ∷ [])

-- an image, the value that it is run on, and how the run ends
abbrev Row : Type 0
Row = List ℕ × Option (List ℕ) × End

abbrev EndAsSaid : List Row → Type 0
EndAsSaid rows = map (λ row. run 40 (program_of row.0 Three) (of_value row.1)) rows ≡ map (λ row. Some row.2) rows

-- the call of a helper with numbers in r1, r2 and r3, whose answer is the reject code
abbrev asks : ℕ → ℕ → ℕ → ℕ → List ℕ
asks helper a b c = move_to 1 a ++ move_to 2 b ++ move_to 3 c ++ call helper ++ exit

-- a byte on the stack, whose address is in a register
abbrev with_byte : ℕ → ℕ → List ℕ
with_byte register byte = at_end 0x62 10 8 (small byte) ++ to_end register

-- `find` or `equals` of a byte in the value from a place on
abbrev looks_for : ℕ → ℕ → ℕ → List ℕ
looks_for helper byte place =
    with_byte 3 byte ++ move_to 4 1 ++ move_to 1 0 ++ move_to 2 place ++ call helper ++ exit

-- COUNT bytes of a part from a place on are copied to the stack, of which r0 gets eight
abbrev loaded_part : ℕ → ℕ → List ℕ
loaded_part number place = to_end 1 ++ move_to 2 place ++ move_to 3 8 ++ move_to 4 number ++ call 14 ++ load_64 ++ exit

abbrev cut : ℕ → ℕ → ℕ → ℕ → List ℕ
cut output number place count =
    move_to 1 output ++ move_to 2 number ++ move_to 3 place ++ move_to 4 count ++ call 20 ++ exit

-- COUNT bytes of the value from a place on become `b`
abbrev changed : ℕ → ℕ → List ℕ
changed place count =
    with_byte 4 98 ++ move_to 5 1 ++ move_to 1 0 ++ move_to 2 place ++ move_to 3 count ++ call 21 ++ exit

-- The header whose key and value are in these registers is added, and output 0 gets a record. At the entry r1 and r2
-- name the record's value, r3 and r4 its key.
abbrev added : List ℕ → List ℕ
added emits_one = call 22 ++ move_to 1 0 ++ emits_one ++ exit

-- the header of the value and the key `k`
abbrev added_header : List ℕ → Header
added_header key = record { key = key; value = Some (107 ∷ []) }

-- a record to output 0
abbrev emission : Option (List ℕ) → List Header → Emission
emission value all = record { out = 0; key = Some (107 ∷ []); value = value; headers = all }

-- so many headers with the key `h`
abbrev many : ℕ → List Header
many count = replicate count (record { key = 104 ∷ []; value = None })

-- `abab`
abbrev abab : Option (List ℕ)
abab = Some (97 ∷ 98 ∷ 97 ∷ 98 ∷ [])

abbrev three_bytes : Option (List ℕ)
three_bytes = Some (7 ∷ 8 ∷ 9 ∷ [])

abbrev part_runs : List Row
part_runs =
    -- the lengths of the value, the key, a header's key, a null value of a header and a header that isn't there
    (asks 13 0 0 0, three_bytes, Out (Rejected 5) 5)
    ∷ (asks 13 0 0 0, Some [], Out (Rejected 2) 5)
    ∷ (asks 13 0 0 0, None, Out (Rejected 1) 5)
    ∷ (asks 13 1 0 0, None, Out (Rejected 3) 5)
    ∷ (asks 13 2 0 0, None, Out (Rejected 3) 5)
    ∷ (asks 13 5 0 0, None, Out (Rejected 1) 5)
    ∷ (asks 13 6 0 0, None, Out (Kept []) 5)
    -- eight bytes of the value, and of a header's value, which has one
    ∷ (loaded_part 0 1, Some (9 ∷ 1 ∷ 0 ∷ 0 ∷ 0 ∷ 0 ∷ 0 ∷ 0 ∷ 0 ∷ []), Out (Rejected 1) 8)
    ∷ (loaded_part 3 0, three_bytes, Out (Kept []) 8)
    -- the least place from the given one on
    ∷ (looks_for 15 98 0, abab, Out (Rejected 2) 8)
    ∷ (looks_for 15 98 2, abab, Out (Rejected 4) 8)
    ∷ (looks_for 16 98 1, abab, Out (Rejected 1) 8)
    ∷ (looks_for 16 98 0, abab, Out (Kept []) 8)
    ∷ (looks_for 16 98 4, abab, Out (Kept []) 8)
    -- `42x`: two digits, and three bytes that are no digits
    ∷ (asks 17 0 0 2, Some (52 ∷ 50 ∷ 120 ∷ []), Out (Rejected 43) 5)
    ∷ (asks 17 0 0 3, Some (52 ∷ 50 ∷ 120 ∷ []), Out (Kept []) 5)
    ∷ (asks 17 0 0 0, Some (52 ∷ 50 ∷ 120 ∷ []), Out (Kept []) 5)
    -- of `21` Kafka's clients have -973932308, which is this without its sign bit
    ∷ (asks 18 0 0 0, Some (50 ∷ 49 ∷ []), Out (Rejected 1173551340) 5)
    ∷ (asks 18 0 0 0, None, Out (Kept []) 5)
    -- the header `i` is the second one
    ∷ (with_byte 1 105 ++ move_to 2 1 ++ call 19 ++ exit, None, Out (Rejected 2) 6)
    ∷ (with_byte 1 106 ++ move_to 2 1 ++ call 19 ++ exit, None, Out (Kept []) 6)
    -- two bytes of the value, with the key and the headers; a part that isn't there; no such output comes first
    ∷ (cut 0 0 1 2, three_bytes, Out (emits (8 ∷ 9 ∷ [])) 6)
    ∷ (cut 0 3 0 1, three_bytes, Out (emits (120 ∷ [])) 6)
    ∷ (cut 0 0 2 2, three_bytes, Out (Rejected 4) 6)
    ∷ (cut 9 0 2 2, three_bytes, Out (Rejected 1) 6)
    -- the second byte becomes another; so do two; nothing is replaced at the end; a null value gives one
    ∷ (changed 1 1, three_bytes, Out (emits (7 ∷ 98 ∷ 9 ∷ [])) 9)
    ∷ (changed 1 2, three_bytes, Out (emits (7 ∷ 98 ∷ [])) 9)
    ∷ (changed 3 0, three_bytes, Out (emits (7 ∷ 8 ∷ 9 ∷ 98 ∷ [])) 9)
    ∷ (changed 0 0, None, Out (emits (98 ∷ [])) 9)
    ∷ (changed 2 2, three_bytes, Out (Rejected 4) 9)
    -- the header `a` is added to what is emitted afterwards: the record, a value without headers, a part, a change
    ∷ (
      added (call 3),
      Some (97 ∷ []),
      Out (Kept (emission (Some (97 ∷ [])) (headers ++ added_header (97 ∷ []) ∷ []) ∷ [])) 4,
    )
    ∷ (added (call 6), Some (97 ∷ []), Out (Kept (emission None (added_header (97 ∷ []) ∷ []) ∷ [])) 4)
    ∷ (
      call 22 ++ cut 0 1 0 1,
      Some (97 ∷ []),
      Out (Kept (emission (Some (107 ∷ [])) (headers ++ added_header (97 ∷ []) ∷ []) ∷ [])) 7,
    )
    ∷ (
      call 22 ++ changed 1 0,
      Some (97 ∷ []),
      Out (Kept (emission (Some (97 ∷ 98 ∷ [])) (headers ++ added_header (97 ∷ []) ∷ []) ∷ [])) 10,
    )
    -- an earlier emission stays without it
    ∷ (
      move 0x16 ++ move 0x27 ++ move 0x38 ++ move 0x49 ++ move_to 1 0 ++ call 6 ++ move 0x61 ++ move 0x72 ++ move 0x83
          ++ move 0x94 ++ added (call 6),
      Some (97 ∷ []),
      Out (Kept (emission None [] ∷ emission None (added_header (97 ∷ []) ∷ []) ∷ [])) 14,
    )
    -- a second header stands after the first
    ∷ (
      move 0x16 ++ move 0x38 ++ call 22 ++ move 0x61 ++ move_to 2 1 ++ move 0x83 ++ move_to 4 1 ++ added (call 6),
      Some (97 ∷ []),
      Out (Kept (emission None (added_header (97 ∷ []) ∷ added_header (97 ∷ []) ∷ []) ∷ [])) 11,
    )
    -- a key that is no UTF-8
    ∷ (call 22 ++ exit, Some (255 ∷ []), Out (Rejected 2) 2)
    ∷ []

part_runs_hold : EndAsSaid part_runs
unfolding read_slot read_fields template_of is_left_out first_slots trap_at state_after helper_among least_place
    murmur2 after_bytes is_utf8 chars encode_utf8
part_runs_hold = refl

-- Why a header is not added: there are sixteen with the record's own, which comes first; its key is too long; its value
-- is. The arguments are how many headers the record has and how many were added, and the lengths of a key and a value.
abbrev refusals : ℕ → ℕ → ℕ → ℕ → ℕ
refusals own added key value =
    header_refusal (record { timestamp_delta = pos 0; key = None; value = None; headers = many own })
    (record { emissions = []; added = many added }) (replicate key 97) (replicate value 0)

refused_as_said : map (λ (row : ℕ × ℕ × ℕ × ℕ). refusals row.0 row.1 row.2 row.3)
    ((0, 0, 0, 0) ∷ (15, 0, 255, 4096) ∷ (0, 15, 255, 4096) ∷ (16, 0, 1, 1) ∷ (0, 16, 1, 1) ∷ (9, 7, 256, 4097)
    ∷ (9, 6, 256, 4097) ∷ (9, 6, 255, 4097) ∷ [])
    ≡ 0 ∷ 0 ∷ 0 ∷ 1 ∷ 1 ∷ 1 ∷ 2 ∷ 3 ∷ []
unfolding is_utf8 chars encode_utf8
refused_as_said = refl
