-- What is said of an image that has no code, after its fault.
use Rattle.std.specs.Prelude.{ℕ, ◌*◌, ◌/◌, ◌%◌, Bool, false, ◌==◌, ◌&&◌, nat_eq, nat_lt, nat_le, if◌then◌else◌, List}
use Rattle.std.specs.Prelude.{[], ◌∷◌, ◌++◌, length, drop, slice_index, Option, Some, None, codes, decimal}
use Rattle.std.specs.{Fmt.digit_glyph, List.starts_with}
use Rattle.machine_spec.specs.declared.{limits.TheConstants.MAX_SLOTS, instruction.Instruction.Instruction}
use Rattle.machine_spec.specs.declared.instruction.IsaFault.{IsaFault}
use Rattle.bpf_asm.specs.Writing.{line_text}
use Rattle.explain.specs.{declared.slot_bytes.Cleared.Cleared, SlotBytes.mended_instruction, SlotBytes.wrong_fields}
use Rattle.explain.specs.Texts.{texts_below}

-- ---- bytes and fields

-- two hexadecimal digits after a space
abbrev pub byte_text : ℕ → List ℕ
byte_text byte = codes " " ++ digit_glyph false (byte / 16) ∷ digit_glyph false (byte % 16) ∷ []

-- the first eight bytes
abbrev pub bytes_text : List ℕ → List ℕ
bytes_text bytes = texts_below 8 (λ i. byte_text (slice_index bytes i))

-- the first eight bytes, and the end of their line
abbrev pub bytes_line : List ℕ → List ℕ
bytes_line bytes = bytes_text bytes ++ 10 ∷ []

-- `slot 0: 95 00 00 00 01 00 00 00`, with the bytes that begin there
abbrev pub slot_text : ℕ → List ℕ → List ℕ
slot_text slot bytes = codes "slot " ++ (decimal slot ++ (codes ":" ++ bytes_line bytes))

-- ` imm=0`, with the name of a field that is cleared; nothing where it is not
abbrev pub field_text : Bool → List ℕ → List ℕ
field_text is_cleared name = if is_cleared then codes " " ++ (name ++ codes "=0") else []

-- the fields that are cleared, as ` src=0 imm=0`
abbrev pub fields_text : Cleared → List ℕ
fields_text c = field_text c.dst (codes "dst")
    ++ (field_text c.src (codes "src") ++ (field_text c.offset (codes "offset") ++ field_text c.imm (codes "imm")))

-- `with imm=0 this is: exit`
abbrev pub mended_text : Cleared → Option Instruction → List ℕ
mended_text c (Some i) = codes "with" ++ (fields_text c ++ (codes " this is: " ++ line_text i))
mended_text c None = []

-- the instruction that some bytes begin with, where the fields are 0 with which they are none
abbrev pub repair_text : List ℕ → List ℕ
repair_text bytes = mended_text (wrong_fields bytes) (mended_instruction bytes (wrong_fields bytes))

-- ---- by fault

-- why an image of this length is refused by its size: it is empty, ends within a slot, or has too many slots
abbrev pub size_text : ℕ → List ℕ
size_text n =
    if n == 0 then codes "the image is empty" ++ 10 ∷ [] else
    if nat_le n (8 * MAX_SLOTS) then codes "the image ends "
    ++ (decimal (n % 8) ++ (codes " bytes into a slot of 8 bytes" ++ 10 ∷ [])) else
    codes "the image has more than " ++ (decimal MAX_SLOTS ++ (codes " slots of 8 bytes" ++ 10 ∷ []))

-- what is said of an opcode that no instruction has
abbrev pub opcode_text : ℕ → List ℕ
opcode_text opcode =
    codes "no instruction has the opcode"
    ++ (byte_text opcode ++ (codes ": make an image by `tools/klogc/klogc image OBJECT IMAGE` or `klog asm TEXT IMAGE`" ++ 10
    ∷ []))

-- what an instruction is that klog leaves out, and what to do without it
abbrev pub left_out_text : ℕ → ℕ → List ℕ
left_out_text opcode src =
    if (opcode == 0x85) && (src == 1) then codes
    "a call with src=1 calls a function of the program: make each function but transform `static inline` with `always_inline`" ++ 10 ∷ [] else
    if opcode == 0x85 then codes
    "a call with another src than 0 calls a function of the kernel: call the helpers of klog.h alone" ++ 10
    ∷ [] else
    if opcode == 0x18 then codes
    "a 64-bit immediate with another src than 0 is the address of a map or a global: keep what it holds in variables of the function" ++ 10 ∷ [] else
    if nat_le 0xc0 opcode then codes "atomic operations are left out: nobody else reads the stack" ++ 10 ∷ [] else
    codes "packet loads are left out: load from the address of the value or the key" ++ 10 ∷ []

-- of bytes that begin with an instruction that klog leaves out: the instruction that they are with 0 in some fields, if
-- they are one then; and what is left out, with what to do without it
abbrev pub left_out_lines : List ℕ → List ℕ
left_out_lines bytes = repair_text bytes ++ left_out_text (slice_index bytes 0) (slice_index bytes 1 / 16)

-- of bytes whose first slot names a register above r10: the instruction that they are with 0 in some fields, if they
-- are one then, and which registers there are
abbrev pub register_fault_text : List ℕ → List ℕ
register_fault_text bytes = repair_text bytes ++ (codes "registers are r0 to r10" ++ 10 ∷ [])

-- Where no field that is made 0 gives an instruction, the imm of a byte order selects none.
abbrev pub order_text : Option Instruction → List ℕ
order_text (Some i) = []
order_text None = codes "the imm of a byte order is 16, 32 or 64" ++ 10 ∷ []

-- of bytes that are no instruction for the value of some field: the instruction that they are with 0 there; where they
-- are none then, which imm a byte order has
abbrev pub unused_text : List ℕ → List ℕ
unused_text bytes = repair_text bytes ++ order_text (mended_instruction bytes (wrong_fields bytes))

-- `second slot: 00 00 00 00 01 00 00 00`, with the bytes that begin there
abbrev pub second_slot_text : List ℕ → List ℕ
second_slot_text bytes = codes "second slot:" ++ bytes_line bytes

-- the line of the second slot of some bytes, or that they have none
abbrev pub second_text : List ℕ → List ℕ
second_text bytes = if nat_lt (length bytes) 16 then codes "no second slot" ++ 10
    ∷ [] else second_slot_text (drop 8 bytes)

-- of bytes that begin with a 64-bit immediate whose second slot is missing or wrong: that slot, and how one begins
abbrev pub wide_text : List ℕ → List ℕ
wide_text bytes = second_text bytes
    ++ (codes "a 64-bit immediate has a second slot that begins with 00 00 00 00" ++ 10 ∷ [])

-- what is said of the bytes that begin at the slot of a fault; nothing where a fault is at no slot
abbrev pub flaw_text : List ℕ → IsaFault → List ℕ
flaw_text bytes (IsaFault.Opcode _) = opcode_text (slice_index bytes 0)
flaw_text bytes (IsaFault.NotInProfile _) = left_out_lines bytes
flaw_text bytes (IsaFault.Register _) = register_fault_text bytes
flaw_text bytes (IsaFault.Unused _) = unused_text bytes
flaw_text bytes (IsaFault.Wide _) = wide_text bytes
flaw_text bytes _ = []

-- the line of the slot that a fault is at, and what is said of the bytes that begin there
abbrev pub slot_fault_text : ℕ → List ℕ → IsaFault → List ℕ
slot_fault_text slot bytes fault = slot_text slot bytes ++ flaw_text bytes fault

-- what the fault of an image is about, in lines; nothing where memory ran out
abbrev pub fault_text : List ℕ → IsaFault → List ℕ
fault_text image IsaFault.Size = size_text (length image)
fault_text image (IsaFault.Opcode slot) = slot_fault_text slot (drop (8 * slot) image) (IsaFault.Opcode slot)
fault_text image (IsaFault.NotInProfile slot) =
    slot_fault_text slot (drop (8 * slot) image) (IsaFault.NotInProfile slot)
fault_text image (IsaFault.Register slot) = slot_fault_text slot (drop (8 * slot) image) (IsaFault.Register slot)
fault_text image (IsaFault.Unused slot) = slot_fault_text slot (drop (8 * slot) image) (IsaFault.Unused slot)
fault_text image (IsaFault.Wide slot) = slot_fault_text slot (drop (8 * slot) image) (IsaFault.Wide slot)
fault_text image IsaFault.Memory = []

-- the first bytes of an object file (ELF)
abbrev pub object_mark : List ℕ
object_mark = 0x7f ∷ 0x45 ∷ 0x4c ∷ 0x46 ∷ []

-- Of an object file that it is one, and of another image what its fault is about, in lines.
unfoldable pub image_fault_text : List ℕ → IsaFault → List ℕ
image_fault_text image fault =
    if starts_with nat_eq image object_mark
    then codes "this is an object file and no image: make an image of it by `tools/klogc/klogc image OBJECT IMAGE`" ++ 10 ∷ []
    else fault_text image fault
