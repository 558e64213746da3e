-- The image of lines, line after line.
use Rattle.std.proofs.Common.{◌≡◌, ℕ, ◌+◌, ◌<◌, ◌≤◌, Bool, true, false, List, [], ◌∷◌, ◌++◌, length, drop, take, Result}
use Rattle.std.proofs.Common.{Ok, Err, refl, sym, ap, arith, leb, ltb, cond, append_assoc}
use Rattle.std.proofs.lemmas.List.{drop-drop, length-drop, take_all}
use Rattle.std.proofs.lemmas.Bool.{ltb-true, ltb-false, le-leb, lt-leb}
use Rattle.std.proofs.lemmas.List.Splits.{slice_split_first}
use Rattle.std.specs.List.{slice_split, position_or_len}
use Rattle.bpf_asm.specs.{declared.fault.AsmFault.AsmFault, Reading.is_line_feed, Reading.read_line, Steps.IsAdded}
use Rattle.bpf_asm.specs.{Steps.IsRefused, Images.before_bytes, Images.lines_image}
use Rattle.bpf_asm.proofs.Scanning.{split_whole}

-- the lines from a place on, which is past the text's end after the last
abbrev pub lines_from : List ℕ → ℕ → List (List ℕ)
lines_from text start = cond (leb start (length text)) (slice_split is_line_feed (drop start text)) []

next_cases : (text : List ℕ) (start : ℕ) (b : Bool) →
    let rest = drop start text in let end = position_or_len is_line_feed rest in start ≤ length text →
    ltb end (length rest) ≡ b
    → slice_split is_line_feed rest ≡ take end rest ∷ lines_from text (start + (end + 1))
next_cases text start true within e =
    let rest = drop start text in
    let end = position_or_len is_line_feed rest in
    let before : end < length rest = ltb-true end (length rest) e in
    let left = length-drop start text in
    let later = le-leb (start + (end + 1)) (length text) (omega arith) in
    rw (later, slice_split_first is_line_feed rest 0 before, drop-drop (end + 1) start text)
next_cases text start false within e =
    let rest = drop start text in
    let end = position_or_len is_line_feed rest in
    let past : length rest ≤ end = ltb-false end (length rest) e in
    let left = length-drop start text in
    let last = lt-leb (start + (end + 1)) (length text) (omega arith) in
    rw (last, split_whole is_line_feed rest past, take_all end rest past)

next_line : (text : List ℕ) (start end : ℕ) → start ≤ length text → end ≡ position_or_len is_line_feed (drop start text)
    → lines_from text start ≡ take end (drop start text) ∷ lines_from text (start + (end + 1))
next_line text start end within place =
    rw (le-leb start (length text) within, place) (next_cases text start _ within refl)

-- what lines up to a place made, and what those after it make
pub record IsRead (text : List ℕ) (number start : ℕ) (image : List ℕ) : Type 0 where
  pub so_far : lines_image 1 0 (slice_split is_line_feed text)
      ≡ before_bytes image (lines_image number (length image) (lines_from text start))

pub read_more : (text line old new : List ℕ) (number start end : ℕ) → start ≤ length text →
    end ≡ position_or_len is_line_feed (drop start text) → line ≡ take end (drop start text) →
    IsAdded number (read_line line) old new → IsRead text number start old →
    IsRead text (number + 1) (start + (end + 1)) new
read_more text line old new number start end within place is added before =
    let later = lines_from text (start + (end + 1)) in
    record {
      so_far = rw (before.so_far, next_line text start end within place, ← is)
          (added.whatever (λ (size : ℕ). lines_image (number + 1) size later));
    }

pub read_refused : (text line old : List ℕ) (number start end : ℕ) (f : AsmFault) → start ≤ length text →
    end ≡ position_or_len is_line_feed (drop start text) → line ≡ take end (drop start text) →
    IsRefused number (read_line line) old f → IsRead text number start old →
    lines_image 1 0 (slice_split is_line_feed text) ≡ Err f
read_refused text line old number start end f within place is refused before =
    let later = refused.whatever (λ (size : ℕ). lines_image (number + 1) size (lines_from text (start + (end + 1)))) in
    rw (before.so_far, next_line text start end within place, ← is, later)

-- ---- one instruction

twice : (old bytes : List ℕ) (r : Result (List ℕ) AsmFault) →
    before_bytes old (before_bytes bytes r) ≡ before_bytes (old ++ bytes) r
twice old bytes (Ok others) = ap Ok (sym (append_assoc old bytes others))
twice old bytes (Err f) = refl
