-- The texts of faults. A text is the list of its bytes.
use Rattle.std.specs.Prelude.{◌≡◌, ℕ, ◌⊎◌, ◌==◌, ◌&&◌, nat_le, if◌then◌else◌, List, [], ◌++◌, length, codes, decimal}
use Rattle.klog_c.specs.declared.faults.TheConstants.{MEMORY}
use Rattle.c_outcomes.specs.Outcomes.{Copies}

-- the name of a fault of a text of rules; `no fault` for every other number
abbrev pub rule_fault_name : ℕ → List ℕ
rule_fault_name n =
    if n == 501 then codes "E1 Word" else if n == 502 then codes "E2 Number" else
    if n == 503 then codes "E3 Text" else if n == 504 then codes "E4 Long" else
    if n == 505 then codes "E5 Deep" else if n == 506 then codes "E6 Many" else
    if n == 507 then codes "E7 End" else if n == 509 then codes "E9 Slots" else codes "no fault"

-- the name of a fault of a program file, or of a text of rules
abbrev pub file_fault_name : ℕ → List ℕ
file_fault_name n =
    if n == 401 then codes "G1 Short" else if n == 402 then codes "G2 Version" else
    if n == 403 then codes "G3 Table" else if n == 404 then codes "G4 Lines" else rule_fault_name n

-- the name of a fault of a batch, or of one of the kinds above
abbrev pub batch_fault_name : ℕ → List ℕ
batch_fault_name n =
    if n == 301 then codes "B1 Short" else if n == 302 then codes "B2 Length" else
    if n == 303 then codes "B3 TooLarge" else if n == 304 then codes "B4 Magic" else
    if n == 305 then codes "B5 Crc" else if n == 306 then codes "B6 Attributes" else
    if n == 307 then codes "B7 Count" else if n == 308 then codes "B8 Record" else
    if n == 309 then codes "B9 Timestamp" else file_fault_name n

-- the name of a fault of an image without code, or of one of the kinds above
abbrev pub image_fault_name : ℕ → List ℕ
image_fault_name n =
    if n == 101 then codes "I1 Size" else if n == 102 then codes "I2 Opcode" else
    if n == 103 then codes "I3 Register" else if n == 104 then codes "I4 Unused" else
    if n == 105 then codes "I5 Wide" else if n == 106 then codes "I6 NotInProfile" else batch_fault_name n

-- the name of one of the checks V1 to V6, or of a fault of another kind
abbrev pub first_check_name : ℕ → List ℕ
first_check_name n =
    if n == 201 then codes "V1 JumpTarget" else if n == 202 then codes "V2 BackJump" else
    if n == 203 then codes "V3 RunsOff" else if n == 204 then codes "V4 Unset" else
    if n == 205 then codes "V5 Type" else if n == 206 then codes "V6 Frame" else image_fault_name n

-- the name of one of the checks V1 to V13, or of a fault of another kind
abbrev pub check_name : ℕ → List ℕ
check_name n =
    if n == 207 then codes "V7 RecordBounds" else if n == 208 then codes "V8 StackBounds" else
    if n == 209 then codes "V9 StackUnset" else if n == 210 then codes "V10 ReadOnly" else
    if n == 211 then codes "V11 Helper" else if n == 212 then codes "V12 HelperArg" else
    if n == 213 then codes "V13 Exit" else first_check_name n

-- the names of faults; from 100 on as `klog` prints them
abbrev pub name_of : ℕ → List ℕ
name_of n =
    if n == 1 then codes "memory ran out" else if n == 2 then codes "a handle of nothing, or of another kind" else
    if n == 3 then codes "a number is out of its range" else if n == 4 then codes "a key or a value is too long" else
    if n == 5 then codes "a buffer is too short" else
    if n == 6 then codes "a null pointer, or a handle given twice" else
    if n == 7 then codes "the offsets of records are used up" else
    if n == 8 then codes "a header's key is not UTF-8" else
    if n == 9 then codes "the rows take more bytes than the limit" else check_name n

-- an image's faults but its size's are at a slot, the verifier's at an instruction, one of a batch's at a record, and
-- those of a line of rules at a column
abbrev pub place_word : ℕ → List ℕ
place_word n =
    if nat_le 102 n && nat_le n 106 then codes " slot " else
    if nat_le 201 n && nat_le n 213 then codes " at " else if n == 308 then codes " record " else
    if nat_le 501 n && nat_le n 507 then codes " at column " else []

-- a name, and after it a word with a place; the name alone where the word is empty
abbrev pub with_place : List ℕ → List ℕ → ℕ → List ℕ
with_place name word place = if length word == 0 then name else name ++ (word ++ decimal place)

-- `I3 Register slot 0`, `V7 RecordBounds at 0`
abbrev pub fault_text : ℕ → ℕ → List ℕ
fault_text number place = with_place (name_of number) (place_word number) place

-- a text at the front of a buffer, and its length; only where memory ran out the length is as it was
abbrev pub Writes : List ℕ → List ℕ → List ℕ → ℕ → ℕ → ℕ → Type 0
Writes text before after length_before length_after number =
    ((number ≡ MEMORY) × (after ≡ before) × (length_after ≡ length_before))
    ⊎ ((length_after ≡ length text) × Copies text before after number)
