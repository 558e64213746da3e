-- The text of an image's code says that image.
use Rattle.std.proofs.Common.{◌*◌, ◌≡◌, ℕ, suc, ◌+◌, ◌<◌, ◌≤◌, List, [], ◌∷◌, length, Some, Ok, refl, true, sym, ap}
use Rattle.std.proofs.Common.{arith, leb, append_assoc, slice_get}
use Rattle.std.specs.List.{slice_split}
use Rattle.std.proofs.{lemmas.Bool.le-leb, lemmas.List.length-append}
use Rattle.machine_spec.specs.{declared.instruction.Placed.Placed, declared.limits.TheConstants.MAX_SLOTS}
use Rattle.machine_spec.specs.Image.{IsCodeOf}
use Rattle.bpf_isa.specs.{Code.AreBytes, Spelling.spelling, Spelling.image_bytes}
use Rattle.bpf_isa.proofs.{Bytes.form_read, Slots.sized, Walk.code_spelled, Walk.placed_registers}
use Rattle.bpf_asm.specs.Reading.{is_line_feed, read_line}
use Rattle.bpf_asm.specs.Writing.{line_of, line_text, text_of}
use Rattle.bpf_asm.specs.Images.{lines_image, some_image, image_of}
use Rattle.bpf_asm.proofs.Ranges.{IsSaid, slot_held}
use Rattle.bpf_asm.proofs.LineTexts.{split_at, line_again, line_feeds}

abbrev AreSaid : List Placed → Type 0
AreSaid code = (k : ℕ) (p : Placed) → slice_get code k ≡ Some p → IsSaid p.instruction

said : (image : List ℕ) (code : List Placed) → AreBytes image → IsCodeOf image code → AreSaid code
said image code fits is k p at = record {
  registers = placed_registers image code k p is at;
  held = slot_held image p.slot p.instruction fits (form_read image p.slot p.instruction (is.forms k p at));
}

-- the lines of code, and the empty one after the last line feed
lines_of : (p : Placed) (code : List Placed) → IsSaid p.instruction →
    slice_split is_line_feed (text_of (p ∷ code)) ≡ line_of p.instruction ∷ slice_split is_line_feed (text_of code)
unfolding line_text
lines_of p code is =
    rw (append_assoc (line_of p.instruction))
    (split_at is_line_feed _ 10 (text_of code) (line_feeds p.instruction is.registers is.held) refl)

lines_again : (code : List Placed) (number size : ℕ) → AreSaid code → size + length (image_bytes code) ≤ 8 * MAX_SLOTS →
    lines_image number size (slice_split is_line_feed (text_of code)) ≡ Ok (image_bytes code)
unfolding read_line
lines_again [] number size are fits = refl
lines_again (p ∷ code) number size are fits =
    let i = p.instruction in
    let is = are 0 p refl in
    let all : length (image_bytes (p ∷ code)) ≡ length (spelling i) + length (image_bytes code) =
    length-append (spelling i) (image_bytes code) in
    let here : leb (size + length (spelling i)) (8 * MAX_SLOTS) ≡ true = le-leb _ _ (omega arith) in
    let later = lines_again code (number + 1) (size + length (spelling i)) (λ k. are (suc k)) (omega arith) in
    rw (lines_of p code is, line_again i is.registers is.held, here, later)

some_bytes : (image : List ℕ) → 0 < length image → some_image (Ok image) ≡ Ok image
some_bytes image some = grind arith

pub text_again : (image : List ℕ) (code : List Placed) → AreBytes image → IsCodeOf image code →
    image_of (text_of code) ≡ Ok image
unfolding image_of
text_again image code fits is =
    let size = sized image is.size in
    let same = code_spelled image code fits is in
    let whole : length (image_bytes code) ≡ length image = ap length (sym same) in
    rw (lines_again code 1 0 (said image code fits is) (omega arith), ← same) (some_bytes image (omega arith))
