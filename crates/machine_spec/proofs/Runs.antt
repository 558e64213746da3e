-- Runs of small programs, worked out by computing: what the definitions say of them is what a reader expects.
use Rattle.std.proofs.Common.{◌≡◌, ℕ, zero, suc, ◌+◌, ◌-◌, ◌/◌, ◌%◌, ◌^◌, Bool, true, false, List, [], ◌∷◌, ◌++◌}
use Rattle.std.proofs.Common.{map, Option, Some, None, refl, ap, ◌∙◌, subst, pos}
use Rattle.std.specs.List.{flat_map}
use Rattle.std.proofs.lemmas.Option.{same_Some, none-some}
use Rattle.machine_spec.specs.declared.{instruction.Instruction.Instruction, instruction.Trap.Trap}
use Rattle.machine_spec.specs.declared.{outcome.Outcome.Outcome, helper.Table.TheVariants.One}
use Rattle.machine_spec.specs.declared.instruction.Trap.TheVariants as trap
use Rattle.machine_spec.specs.declared.outcome.Outcome.TheVariants.{Kept, Rejected}
use Rattle.machine_spec.specs.{Opcodes.template_of, Opcodes.is_left_out, Summaries.summary_of, Traps.trap_at}
use Rattle.machine_spec.specs.Image.{Program, program_of, form_at, read_slot, read_fields, first_slots}
use Rattle.machine_spec.specs.Machine.{Input, State, entry, state_after, helper_among}
use Rattle.machine_spec.specs.Meaning.{Reaches, Means, IsTrapped, outcome_of}
use Rattle.machine_spec.proofs.Meanings.{exit_is, other_than_exit, step_on}

-- ---- computing a run

-- how a run ends, with the number of instructions that it completed
pub data End : Type 0 where
  Out : Outcome → ℕ → End
  Stopped : Trap → ℕ → End

-- what a run does at an instruction after n others: it exits, or goes on to the next state
abbrev turn_at : Bool → (State → Option End) → Input → ℕ → State → Instruction → Option End
turn_at true on input n s i = Some (Out (outcome_of (s.registers 0) s.emitted.emissions) (n + 1))
turn_at false on input n s i = on (state_after i input s)

-- and at a state, by its trap and its instruction; one without an instruction has a trap, so that no run gets lost
abbrev turn : (State → Option End) → Input → ℕ → State → Option Trap → Option Instruction → Option End
turn on input n s (Some reported) form = Some (Stopped reported n)
turn on input n s None None = None
turn on input n s None (Some i) = turn_at (summary_of i).exits on input n s i

-- the end of a run from a state that is reached after n steps, if it has at most `turns` turns
abbrev run_from : ℕ → Program → Input → ℕ → State → Option End
run_from zero program input n s = None
run_from (suc turns) program input n s =
    turn (run_from turns program input (n + 1)) input n s (trap_at program input s) (form_at program.image s.slot)

abbrev pub run : ℕ → Program → Input → Option End
run turns program input = run_from turns program input 0 (entry input)

-- ---- what is computed is what the program means

module _ (program : Program) (input : Input) where
  -- what the definitions say of such an end
  abbrev pub IsEnd : End → Type 0
  IsEnd (Out outcome n) = Means program input outcome n
  IsEnd (Stopped reported n) = IsTrapped program input reported n

  ends_by : (on : State → Option End) (n : ℕ) (s : State) (end : End) → Reaches program input n s →
      ((next : State) → Reaches program input (n + 1) next → on next ≡ Some end → IsEnd end) →
      (t : Option Trap) → trap_at program input s ≡ t → (form : Option Instruction) →
      form_at program.image s.slot ≡ form → turn on input n s t form ≡ Some end → IsEnd end
  ends_by on n s end chain later (Some reported) trap form at e =
      subst IsEnd (same_Some _ end e) (record { last = s; chain = chain; trap = trap })
  ends_by on n s end chain later None trap None at e = absurd (none-some end e)
  ends_by on n s end chain later None trap (Some i) at e = from (summary_of i).exits refl e
    where
      from : (exits : Bool) → (summary_of i).exits ≡ exits → turn_at exits on input n s i ≡ Some end → IsEnd end
      from true is e = subst IsEnd (same_Some _ end e)
          (record {
            steps = n;
            last = s;
            count = refl;
            chain = chain;
            end = record { form = at ∙ ap Some (exit_is i is); no_trap = trap; outcome_is = refl };
          })
      from false is e = later _ (step_on program input n s i chain at (other_than_exit i is) trap) e

  ends_from : (turns n : ℕ) (s : State) (end : End) → Reaches program input n s →
      run_from turns program input n s ≡ Some end → IsEnd end
  ends_from zero n s end chain e = absurd (none-some end e)
  ends_from (suc turns) n s end chain e =
      ends_by (run_from turns program input (n + 1)) n s end chain
      (λ next reaches later. ends_from turns (n + 1) next end reaches later)
      (trap_at program input s) refl (form_at program.image s.slot) refl e

-- a computed outcome is the program's meaning, and a computed trap is the one that stops it
pub run_ends : (program : Program) (input : Input) (turns : ℕ) (end : End) → run turns program input ≡ Some end →
    IsEnd program input end
run_ends program input turns end e = ends_from program input turns 0 (entry input) end refl e

-- ---- instructions, as the bytes of their slots

-- an instruction with an opcode, its registers (the destination's number plus sixteen times the source's), an offset
-- below 256 and the four bytes of its immediate
abbrev slot_with : ℕ → ℕ → ℕ → List ℕ → List ℕ
slot_with opcode registers offset imm = (opcode ∷ registers ∷ offset ∷ 0 ∷ []) ++ imm

abbrev pub small : ℕ → List ℕ
small n = n ∷ 0 ∷ 0 ∷ 0 ∷ []

abbrev minus : ℕ → List ℕ
minus n = (256 - n) ∷ 0xff ∷ 0xff ∷ 0xff ∷ []

-- the immediate is a number below 256
abbrev pub slot : ℕ → ℕ → ℕ → ℕ → List ℕ
slot opcode registers offset imm = slot_with opcode registers offset (small imm)

-- mov64 r, number
abbrev pub move_to : ℕ → ℕ → List ℕ
move_to register number = slot 0xb7 register 0 number

-- mov64: a register gets what another holds
abbrev pub move : ℕ → List ℕ
move registers = slot 0xbf registers 0 0

abbrev pub call : ℕ → List ℕ
call helper = slot 0x85 0 0 helper

abbrev pub exit : List ℕ
exit = slot 0x95 0 0 0

-- imm64 r0, number
abbrev wide_move : List ℕ → List ℕ → List ℕ
wide_move lower upper = slot_with 0x18 0 0 lower ++ slot_with 0 0 0 upper

-- an instruction on the stack: opcode, registers, the offset below its end, an immediate
abbrev pub at_end : ℕ → ℕ → ℕ → List ℕ → List ℕ
at_end opcode registers below imm = (opcode ∷ registers ∷ (256 - below) ∷ 0xff ∷ []) ++ imm

abbrev on_stack : ℕ → ℕ → ℕ → List ℕ
on_stack opcode registers below = at_end opcode registers below (small 0)

-- ld64 r0, [r10-8]
abbrev pub load_64 : List ℕ
load_64 = on_stack 0x79 0xa0 8

abbrev repeated : ℕ → List ℕ → List ℕ
repeated zero bytes = []
repeated (suc n) bytes = bytes ++ repeated n bytes

-- a record with the key `k` and a value, the first of its partition, where there are two output partitions
abbrev of_value : Option (List ℕ) → Input
of_value value = record {
  given = record { timestamp_delta = pos 0; key = Some (107 ∷ []); value = value; headers = [] };
  place = record { partition = 0; offset = 0; timestamp = 1000; outputs = 2 };
}

abbrev three_bytes : Option (List ℕ)
three_bytes = Some (7 ∷ 8 ∷ 9 ∷ [])

-- one record is emitted, to output 0
abbrev emits : List ℕ → List ℕ → Outcome
emits key value = Kept (record { out = 0; key = Some key; value = Some value; headers = [] } ∷ [])

-- ---- tables of runs: an image, the value that it is run on, and how the run ends

abbrev Row : Type 0
Row = List ℕ × Option (List ℕ) × End

-- each row's run, of at most 40 instructions, ends as the row says
abbrev EndAsSaid : List Row → Type 0
EndAsSaid rows = map (λ row. run 40 (program_of row.0 One) (of_value row.1)) rows ≡ map (λ row. Some row.2) rows

-- ---- outcomes

-- mov64 r0, 0; jlt64 r2, 1, +1; ld8 r0, [r1+0]; exit: the value's first byte, if it has one
abbrev first_byte : List ℕ
first_byte = move_to 0 0 ++ slot 0xa5 2 1 1 ++ slot 0x71 0x10 0 0 ++ exit

-- r3 bytes from the address in r2 on are emitted to output 0
abbrev emit_value : List ℕ
emit_value = move_to 1 0 ++ call 4 ++ exit

abbrev value_by_address : List ℕ
value_by_address = move 0x23 ++ move 0x12 ++ emit_value

-- the value is emitted as the key, and the key as the value, to output 0
abbrev exchanged : List ℕ
exchanged = move 0x36 ++ move 0x45 ++ move 0x64 ++ move 0x23 ++ move 0x12 ++ move_to 1 0 ++ call 5 ++ exit

-- a register gets the address r10-8
abbrev pub to_end : ℕ → List ℕ
to_end register = move (0xa0 + register) ++ slot_with 0x07 register 0 (minus 8)

-- st32 [r10-8], 7; COUNT bytes from there are emitted
abbrev from_stack : ℕ → List ℕ
from_stack count = at_end 0x62 10 8 (small 7) ++ to_end 2 ++ move_to 3 count ++ emit_value

-- r2 is set to a place in the value, from which COUNT bytes are copied to the stack, of which r0 gets eight
abbrev value_part : List ℕ → ℕ → List ℕ
value_part at count = to_end 1 ++ at ++ move_to 3 count ++ call 1 ++ load_64 ++ exit

abbrev outcomes : List Row
outcomes =
    (move_to 0 0 ++ exit, None, Out (Kept []) 2)
    ∷ (move_to 1 0 ++ call 3 ++ exit, Some (118 ∷ []), Out (emits (107 ∷ []) (118 ∷ [])) 3)
    -- there is no output 9
    ∷ (move_to 1 9 ++ call 3 ++ exit, None, Out (Rejected 1) 3)
    -- the seventeenth emission is not added
    ∷ (repeated 17 (move_to 1 0 ++ call 3) ++ exit, None, Out (Rejected 3) 35)
    -- mov64 r0, -1; add64 r0, 6; exit: 64-bit sums wrap
    ∷ (slot_with 0xb7 0 0 (minus 1) ++ slot 0x07 0 0 6 ++ exit, None, Out (Rejected 5) 3)
    ∷ (first_byte, Some (7 ∷ []), Out (Rejected 7) 4)
    ∷ (first_byte, Some [], Out (Kept []) 3)
    ∷ (first_byte, None, Out (Kept []) 3)
    ∷ (value_by_address, Some (118 ∷ []), Out (emits (107 ∷ []) (118 ∷ [])) 5)
    -- a null value is emitted as an empty one
    ∷ (value_by_address, None, Out (emits (107 ∷ []) []) 5)
    ∷ (exchanged, Some (118 ∷ 119 ∷ []), Out (emits (118 ∷ 119 ∷ []) (107 ∷ [])) 8)
    ∷ (from_stack 4, None, Out (emits (107 ∷ []) (7 ∷ 0 ∷ 0 ∷ 0 ∷ [])) 7)
    ∷ (value_part (move_to 2 0) 8, Some (1 ∷ 0 ∷ 0 ∷ 0 ∷ 0 ∷ 0 ∷ 0 ∷ 0 ∷ []), Out (Rejected 1) 7)
    -- seven bytes have no such part: eight zeros
    ∷ (value_part (move_to 2 0) 8, Some (1 ∷ 0 ∷ 0 ∷ 0 ∷ 0 ∷ 0 ∷ 0 ∷ []), Out (Kept []) 7)
    -- mov64 r2, -1: the sum of the place and the length does not wrap
    ∷ (value_part (slot_with 0xb7 2 0 (minus 1)) 8, Some (1 ∷ 0 ∷ 0 ∷ 0 ∷ 0 ∷ 0 ∷ 0 ∷ 0 ∷ []), Out (Kept []) 7)
    -- ld16 r0, [r1+1]; exit: the low byte is first
    ∷ (slot 0x69 0x10 1 0 ++ exit, Some (9 ∷ 2 ∷ 1 ∷ []), Out (Rejected 258) 2)
    -- mov64 r3, r1; add64 r3, 2; sub64 r3, 1; ld8 r0, [r3+0]; exit: the value's second byte
    ∷ (move 0x13 ++ slot 0x07 3 0 2 ++ slot 0x17 3 0 1 ++ slot 0x71 0x30 0 0 ++ exit, three_bytes, Out (Rejected 8) 5)
    ∷ []

outcomes_hold : EndAsSaid outcomes
unfolding read_slot read_fields template_of is_left_out first_slots trap_at state_after helper_among
outcomes_hold = refl

-- ---- arithmetic

-- an instruction on r0 that follows on mov64 r0, -2, and what it leaves there
abbrev changes : List (List ℕ × ℕ)
changes =
    -- add32 r0, 6: the sum of the low halves wraps at 32 bits, and the upper half becomes 0
    (slot 0x04 0 0 6, 4)
    -- sub64 r0, 1
    ∷ (slot 0x17 0 0 1, 2 ^ 64 - 3)
    -- mov32 r0, -2
    ∷ (slot_with 0xb4 0 0 (minus 2), 2 ^ 32 - 2)
    -- div64 r0, 3
    ∷ (slot 0x37 0 0 3, (2 ^ 64 - 2) / 3)
    -- sdiv64 r0, -2
    ∷ (slot_with 0x37 0 1 (minus 2), 1)
    -- mod32 r0, 5
    ∷ (slot 0x94 0 0 5, (2 ^ 32 - 2) % 5)
    -- mod32 r0, 0 keeps the low half alone
    ∷ (slot 0x94 0 0 0, 2 ^ 32 - 2)
    -- smod64 r0, 5
    ∷ (slot 0x97 0 1 5, 2 ^ 64 - 2)
    -- lsh64 r0, 65: the count is taken modulo 64
    ∷ (slot 0x67 0 0 65, 2 ^ 64 - 4)
    -- arsh32 r0, 1
    ∷ (slot 0xc4 0 0 1, 2 ^ 32 - 1)
    -- neg64 r0
    ∷ (slot 0x87 0 0 0, 2)
    -- le16 r0
    ∷ (slot 0xd4 0 0 16, 0xfffe)
    -- be16 r0
    ∷ (slot 0xdc 0 0 16, 0xfeff)
    -- swap64 r0
    ∷ (slot 0xd7 0 0 64, 0xfeff_ffff_ffff_ffff)
    -- movsx32.8 r0, r0
    ∷ (slot 0xbc 0 8 0, 2 ^ 32 - 2)
    -- movsx64.32 r0, r0
    ∷ (slot 0xbf 0 32 0, 2 ^ 64 - 2)
    ∷ []

changes_hold : EndAsSaid
    (map (λ row. (slot_with 0xb7 0 0 (minus 2) ++ row.0 ++ exit, None, Out (Rejected row.1) 3)) changes)
unfolding read_slot read_fields template_of is_left_out first_slots trap_at state_after helper_among
changes_hold = refl

-- ---- conditional jumps

-- a jump over the next by r2 and a number: rejected by 1 where the jump is taken
abbrev jump_over : ℕ → ℕ → List ℕ
jump_over opcode number = move_to 0 1 ++ slot opcode 2 1 number ++ move_to 0 0 ++ exit

abbrev taken : End
taken = Out (Rejected 1) 3

abbrev not_taken : End
not_taken = Out (Kept []) 4

-- the opcode of a jump, and how it ends with the numbers 2, 3 and 4, of a value of three bytes
abbrev jumps : List (ℕ × End × End × End)
jumps =
    -- jeq64
    (0x15, not_taken, taken, not_taken)
    -- jgt64
    ∷ (0x25, taken, not_taken, not_taken)
    -- jge64
    ∷ (0x35, taken, taken, not_taken)
    -- jne64
    ∷ (0x55, taken, not_taken, taken)
    -- jlt64
    ∷ (0xa5, not_taken, not_taken, taken)
    -- jle64
    ∷ (0xb5, not_taken, taken, taken)
    -- jset64
    ∷ (0x45, taken, taken, not_taken)
    -- jsgt64
    ∷ (0x65, taken, not_taken, not_taken)
    -- jsge64
    ∷ (0x75, taken, taken, not_taken)
    -- jslt64
    ∷ (0xc5, not_taken, not_taken, taken)
    -- jsle64
    ∷ (0xd5, not_taken, taken, taken)
    -- jeq32
    ∷ (0x16, not_taken, taken, not_taken)
    -- jslt32
    ∷ (0xc6, not_taken, not_taken, taken)
    ∷ []

abbrev of_jump : ℕ → ℕ → End → Row
of_jump opcode number end = (jump_over opcode number, three_bytes, end)

jumps_hold : EndAsSaid
    (flat_map (λ row. of_jump row.0 2 row.1 ∷ of_jump row.0 3 row.2 ∷ of_jump row.0 4 row.3 ∷ []) jumps)
unfolding read_slot read_fields template_of is_left_out first_slots trap_at state_after helper_among
jumps_hold = refl

-- mov32 r2, -2, and a jump over the next by r2 and -2
abbrev by_minus_two : ℕ → List ℕ
by_minus_two opcode =
    slot_with 0xb4 2 0 (minus 2) ++ move_to 0 1 ++ slot_with opcode 2 1 (minus 2) ++ move_to 0 0 ++ exit

-- a jump without a condition over the next
abbrev jumped_over : ℕ → ℕ → ℕ → List ℕ
jumped_over opcode offset imm = move_to 0 1 ++ slot opcode 0 offset imm ++ move_to 0 0 ++ exit

abbrev more_jumps : List Row
more_jumps =
    -- jeq32: the low halves are equal
    (by_minus_two 0x16, None, Out (Rejected 1) 4)
    -- jeq64: the numbers are not
    ∷ (by_minus_two 0x15, None, Out (Kept []) 5)
    -- jsgt64: as a signed number of 64 bits it is greater
    ∷ (by_minus_two 0x65, None, Out (Rejected 1) 4)
    -- jgt64: as an unsigned number it is not
    ∷ (by_minus_two 0x25, None, Out (Kept []) 5)
    -- jgt64 r2, r4, +1: a value of three bytes is longer than a key of one
    ∷ (move_to 0 1 ++ slot 0x2d 0x42 1 0 ++ move_to 0 0 ++ exit, three_bytes, taken)
    -- jlt64 r2, -1, +1: the immediate is sign-extended, and the test unsigned
    ∷ (move_to 0 1 ++ slot_with 0xa5 2 1 (minus 1) ++ move_to 0 0 ++ exit, None, taken)
    -- ja +1: the distance is in the offset
    ∷ (jumped_over 0x05 1 0, None, taken)
    -- jal +1: the distance is in the immediate
    ∷ (jumped_over 0x06 0 1, None, taken)
    -- ja +0 goes on to the next
    ∷ (jumped_over 0x05 0 0, None, not_taken)
    -- imm64 r0, 8589934591; exit: both halves are unsigned, and the next slot is the one after the second
    ∷ (wide_move (minus 1) (small 1) ++ exit, None, Out (Rejected 8589934591) 2)
    -- imm64 r0, 18446744069414584320; exit
    ∷ (wide_move (small 0) (minus 1) ++ exit, None, Out (Rejected 0xffff_ffff_0000_0000) 2)
    -- mov64 r0, 1; ja +2; imm64 r0, 0; exit: a wide instruction has two slots
    ∷ (move_to 0 1 ++ slot 0x05 0 2 0 ++ wide_move (small 0) (small 0) ++ exit, None, taken)
    ∷ []

more_jumps_hold : EndAsSaid more_jumps
unfolding read_slot read_fields template_of is_left_out first_slots trap_at state_after helper_among
more_jumps_hold = refl

-- ---- the stack

-- the instructions before an exit, the value that they run on, and what is left in r0 after how many instructions
abbrev stack_uses : List (List ℕ × Option (List ℕ) × ℕ × ℕ)
stack_uses =
    -- st64 [r10-8], -2; ld64 r0, [r10-8]: the immediate is sign-extended
    (at_end 0x7a 10 8 (minus 2) ++ load_64, None, 2 ^ 64 - 2, 3)
    -- st32 [r10-8], -2; st32 [r10-4], 1; ld64 r0, [r10-8]: the low word comes first
    ∷ (at_end 0x62 10 8 (minus 2) ++ at_end 0x62 10 4 (small 1) ++ load_64, None, 0x1_ffff_fffe, 4)
    -- st64 [r10-8], -2; stx8 [r10-7], r2; ld16 r0, [r10-8], of a value of three bytes
    ∷ (at_end 0x7a 10 8 (minus 2) ++ on_stack 0x73 0x2a 7 ++ on_stack 0x69 0xa0 8, three_bytes, 0x3fe, 4)
    -- st16 [r10-2], -2; ld8 r0, [r10-1]: the high byte comes last
    ∷ (at_end 0x6a 10 2 (minus 2) ++ on_stack 0x71 0xa0 1, None, 0xff, 3)
    -- st64 [r10-8], -2; lds8 r0, [r10-8]
    ∷ (at_end 0x7a 10 8 (minus 2) ++ on_stack 0x91 0xa0 8, None, 2 ^ 64 - 2, 3)
    -- lds16 r0, [r1+0], of the bytes 00 80
    ∷ (slot 0x89 0x10 0 0, Some (0 ∷ 0x80 ∷ []), 0xffff_ffff_ffff_8000, 2)
    -- lds32 r0, [r1+0], of the bytes 01 00 00 80
    ∷ (slot 0x81 0x10 0 0, Some (1 ∷ 0 ∷ 0 ∷ 0x80 ∷ []), 0xffff_ffff_8000_0001, 2)
    -- lds8 r0, [r1+0], of the byte 7f
    ∷ (slot 0x91 0x10 0 0, Some (0x7f ∷ []), 0x7f, 2)
    ∷ []

stack_uses_hold : EndAsSaid (map (λ row. (row.0 ++ exit, row.1, Out (Rejected row.2) row.3)) stack_uses)
unfolding read_slot read_fields template_of is_left_out first_slots trap_at state_after helper_among
stack_uses_hold = refl

-- ---- traps

-- mov64 r0, 0; jeq64 r2, 0, -1; exit: back to itself, if the value is empty
abbrev jump_back : List ℕ
jump_back = move_to 0 0 ++ (0x15 ∷ 2 ∷ 0xff ∷ 0xff ∷ small 0) ++ exit

abbrev trapped_runs : List Row
trapped_runs =
    ([], None, Stopped trap.RanOff 0)
    ∷ (move_to 0 0, None, Stopped trap.RanOff 1)
    -- an opcode of no table
    ∷ (slot 0xff 0 0 0, None, Stopped trap.Form 0)
    -- r0 holds nothing
    ∷ (exit, None, Stopped trap.Unset 0)
    -- add64 r1, r3: two addresses
    ∷ (slot 0x0f 0x31 0 0 ++ exit, None, Stopped trap.WrongType 0)
    -- mov32 r0, r1: half of an address
    ∷ (slot 0xbc 0x10 0 0 ++ exit, None, Stopped trap.WrongType 0)
    -- add32 r1, 1
    ∷ (slot 0x04 1 0 1 ++ exit, None, Stopped trap.WrongType 0)
    -- sub64 r2, r1: an address is not taken from a number
    ∷ (slot 0x1f 0x12 0 0 ++ exit, None, Stopped trap.WrongType 0)
    -- mul64 r1, 2
    ∷ (slot 0x27 1 0 2 ++ exit, None, Stopped trap.WrongType 0)
    -- neg64 r1
    ∷ (slot 0x87 1 0 0 ++ exit, None, Stopped trap.WrongType 0)
    ∷ (move_to 10 0 ++ exit, None, Stopped trap.Frame 0)
    -- ld8 r0, [r1+0] of a null value
    ∷ (slot 0x71 0x10 0 0 ++ exit, None, Stopped trap.RecordBounds 0)
    -- ld64 r0, [r10-520]
    ∷ ((0x79 ∷ 0xa0 ∷ 0xf8 ∷ 0xfd ∷ small 0) ++ exit, None, Stopped trap.StackBounds 0)
    ∷ (load_64 ++ exit, None, Stopped trap.StackUnset 0)
    -- st32 [r10-8], 0; ld64 r0, [r10-8]; exit: four of the eight bytes are not set
    ∷ (on_stack 0x62 10 8 ++ load_64 ++ exit, None, Stopped trap.StackUnset 1)
    -- st8 [r10+0], 0; exit
    ∷ (slot 0x72 10 0 0 ++ exit, None, Stopped trap.StackBounds 0)
    -- st32 [r1+0], 0; exit: also where there is no such byte
    ∷ (slot 0x62 1 0 0 ++ exit, None, Stopped trap.ReadOnly 0)
    -- stx8 [r3+0], r2; exit
    ∷ (slot 0x73 0x23 0 0 ++ exit, None, Stopped trap.ReadOnly 0)
    -- stx64 [r10-8], r1; exit
    ∷ (on_stack 0x7b 0x1a 8 ++ exit, None, Stopped trap.WrongType 0)
    -- stx64 [r10-8], r6; exit
    ∷ (on_stack 0x7b 0x6a 8 ++ exit, None, Stopped trap.Unset 0)
    -- st8 [r2+0], 0; exit
    ∷ (slot 0x72 2 0 0 ++ exit, None, Stopped trap.WrongType 0)
    -- ja -1; exit
    ∷ ((0x05 ∷ 0 ∷ 0xff ∷ 0xff ∷ small 0) ++ exit, None, Stopped trap.Jump 0)
    -- jal -1; exit
    ∷ (slot_with 0x06 0 0 (minus 1) ++ exit, None, Stopped trap.Jump 0)
    -- ja +1; imm64 r0, 0; exit
    ∷ (slot 0x05 0 1 0 ++ wide_move (small 0) (small 0) ++ exit, None, Stopped trap.Jump 0)
    -- the first slot of a 64-bit immediate alone
    ∷ (slot 0x18 0 0 0, None, Stopped trap.Form 0)
    -- imm64 r10, 0; exit
    ∷ (slot 0x18 10 0 0 ++ slot 0 0 0 0 ++ exit, None, Stopped trap.Frame 0)
    ∷ (jump_back, None, Stopped trap.Jump 1)
    -- a jump that is not taken has no trap
    ∷ (jump_back, Some (7 ∷ []), Out (Kept []) 3)
    -- jeq64 r2, 0, +1; exit: to the end of the image
    ∷ (slot 0x15 2 1 0 ++ exit, None, Stopped trap.Jump 0)
    -- the same with four bytes behind it: they are no whole slot
    ∷ (slot 0x15 2 1 0 ++ exit ++ (0x95 ∷ 0 ∷ 0 ∷ 0 ∷ []), None, Stopped trap.Jump 0)
    -- mov64 r0, 0 and four bytes behind it: the run falls off the image
    ∷ (move_to 0 0 ++ (0x95 ∷ 0 ∷ 0 ∷ 0 ∷ []), None, Stopped trap.RanOff 1)
    -- jeq64 r2, 0, +1; a 64-bit immediate; exit: into the second slot of the wide instruction
    ∷ (slot 0x15 2 1 0 ++ wide_move (small 0) (small 0) ++ exit, None, Stopped trap.Jump 0)
    -- mov64 r0, r10; jeq64 r0, 0, +0; exit: a jump tests numbers alone
    ∷ (move 0xa0 ++ slot 0x15 0 0 0 ++ exit, None, Stopped trap.WrongType 1)
    ∷ (call 99 ++ exit, None, Stopped trap.Helper 0)
    -- r1 is still the value's address
    ∷ (call 3 ++ exit, None, Stopped trap.HelperArgument 0)
    ∷ (call 4 ++ exit, None, Stopped trap.HelperArgument 0)
    -- r2 is a number
    ∷ (emit_value, None, Stopped trap.HelperArgument 1)
    -- mov64 r3, r2; add64 r3, 1; mov64 r2, r1: a byte more than the value has
    ∷ (move 0x23 ++ slot 0x07 3 0 1 ++ move 0x12 ++ emit_value, Some (118 ∷ []), Stopped trap.HelperArgument 4)
    -- mov64 r3, 0; mov64 r2, r1; add64 r2, 1: no bytes, past the end of no bytes
    ∷ (move_to 3 0 ++ move 0x12 ++ slot 0x07 2 0 1 ++ emit_value, None, Stopped trap.HelperArgument 4)
    -- four of the eight bytes are not set
    ∷ (from_stack 8, None, Stopped trap.HelperArgument 5)
    -- the part has four of the eight bytes that the load reads
    ∷ (value_part (move_to 2 0) 4, None, Stopped trap.StackUnset 5)
    -- room for nine bytes passes the end of the stack
    ∷ (value_part (move_to 2 0) 9, None, Stopped trap.HelperArgument 4)
    -- room for none
    ∷ (value_part (move_to 2 0) 0, None, Stopped trap.HelperArgument 4)
    -- room is named by an address
    ∷ (call 9 ++ move_to 2 0 ++ move_to 3 1 ++ move 0x01 ++ call 1 ++ exit, None, Stopped trap.HelperArgument 4)
    -- and not in the value
    ∷ (move_to 2 0 ++ move_to 3 1 ++ call 2 ++ exit, Some (118 ∷ []), Stopped trap.HelperArgument 2)
    -- the first call has clobbered r1
    ∷ (call 9 ++ call 4 ++ exit, None, Stopped trap.Unset 1)
    ∷ (move 0x10 ++ exit, None, Stopped trap.Exit 1)
    ∷ []

trapped_runs_hold : EndAsSaid trapped_runs
unfolding read_slot read_fields template_of is_left_out first_slots trap_at state_after helper_among
trapped_runs_hold = refl
