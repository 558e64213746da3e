-- The image of a text decodes to the instructions of the text's lines.
use Rattle.std.proofs.Common.{◌*◌, ◌≡◌, ℕ, ◌+◌, ◌<◌, ◌≤◌, leb, List, [], ◌∷◌, length, Option, Some, None, Result, Ok}
use Rattle.std.proofs.Common.{Err, refl, ap, arith, IfOk}
use Rattle.std.specs.List.{cons_option, slice_split}
use Rattle.std.proofs.{lemmas.Bool.cond_both, lemmas.Bool.leb-true, lemmas.Result.IfOk-at_ok, lemmas.List.length-append}
use Rattle.machine_spec.specs.declared.{instruction.Instruction.Instruction, limits.TheConstants.MAX_SLOTS}
use Rattle.bpf_isa.specs.Spelling.{spelling}
use Rattle.bpf_asm.specs.{declared.fault.LineFault.LineFault, declared.fault.AsmFault.AsmFault, Reading.is_line_feed}
use Rattle.bpf_asm.specs.Reading.{read_line}
use Rattle.bpf_asm.specs.declared.fault.AsmFault.TheVariants as asm
use Rattle.bpf_asm.specs.Images.{before_bytes, with_line, lines_image, some_image, image_of}
use Rattle.bpf_asm.specs.Decoding.{if_said, said_by, instructions_of, decoded_image}
use Rattle.bpf_asm.proofs.{Ranges.IsSaid, SaidLines.line_said}
use Rattle.bpf_asm.proofs.SlotsRead.{AllSaid, spellings, placed_instructions, image_read}

-- bytes after others of this size are instructions that an image can have
record AreSpelled (instructions : List Instruction) (size : ℕ) (bytes : List ℕ) : Type 0 where
  said : AllSaid instructions
  spelled : bytes ≡ spellings instructions
  few : size + length bytes ≤ 8 * MAX_SLOTS

-- an instruction's bytes before those of others
spelled_before : (i : Instruction) (others : List Instruction) (size : ℕ) (r : Result (List ℕ) AsmFault) → IsSaid i →
    IfOk r (AreSpelled others (size + length (spelling i))) →
    IfOk (before_bytes (spelling i) r) (AreSpelled (i ∷ others) size)
spelled_before i others size r said are = grind (arith, length-append)

line_spelled : (line : List ℕ) (lines : List (List ℕ)) (number size : ℕ) (r : Result (Option Instruction) LineFault) →
    read_line line ≡ r → size ≤ 8 * MAX_SLOTS →
    ((size : ℕ) → size ≤ 8 * MAX_SLOTS →
    IfOk (lines_image (number + 1) size lines) (AreSpelled (said_by lines) size)) →
    IfOk (with_line number size r (λ size. lines_image (number + 1) size lines))
    (AreSpelled (cons_option (if_said r) (said_by lines)) size)
line_spelled line lines number size (Err f) is small rest = tt
line_spelled line lines number size (Ok None) is small rest = rest size small
line_spelled line lines number size (Ok (Some i)) is small rest =
    let after = size + length (spelling i) in
    cond_both (leb after (8 * MAX_SLOTS)) _ (Err (asm.Size number))
    (λ r. IfOk r (AreSpelled (i ∷ said_by lines) size))
    (λ within. spelled_before i (said_by lines) size _ (line_said line i is)
    (rest after (leb-true after (8 * MAX_SLOTS) within))) (λ _. tt)

lines_spelled : (lines : List (List ℕ)) (number size : ℕ) → size ≤ 8 * MAX_SLOTS →
    IfOk (lines_image number size lines) (AreSpelled (said_by lines) size)
lines_spelled [] number size small = record { said = tt; spelled = refl; few = omega arith }
lines_spelled (line ∷ lines) number size small =
    line_spelled line lines number size (read_line line) refl small (lines_spelled lines (number + 1))

some_bytes : (r : Result (List ℕ) AsmFault) (image : List ℕ) → some_image r ≡ Ok image →
    (r ≡ Ok image) × (0 < length image)
some_bytes r image e = grind arith

pub image_decodes : (text image : List ℕ) → image_of text ≡ Ok image → decoded_image image ≡ Ok (instructions_of text)
unfolding image_of
image_decodes text image e =
    let instructions = instructions_of text in
    let lines = slice_split is_line_feed text in
    let some = some_bytes (lines_image 1 0 lines) image e in
    let are = IfOk-at_ok (AreSpelled instructions 0) some.0 (lines_spelled lines 1 0 (omega arith)) in
    let size = ap length are.spelled in
    let read = image_read instructions are.said (omega arith) (omega arith) in
    rw (are.spelled, read, placed_instructions 0 instructions)
