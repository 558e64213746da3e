-- Program files, as they are written and read.
use Rattle.std.proofs.Common.{◌≡◌, ℕ, zero, suc, ◌+◌, ◌-◌, ◌/◌, ◌^◌, ◌<◌, ◌≤◌, Bool, true, false, not, ◌==◌, nat_lt}
use Rattle.std.proofs.Common.{if◌then◌else◌, List, [], ◌∷◌, ◌++◌, length, get_or, drop, slice_range, Option}
use Rattle.std.proofs.Common.{Some, None, Result, Ok, Err, refl, sym, ap, ◌∙◌, arith, codes}
use Rattle.std.specs.Int.{w32, to_le_bytes}
use Rattle.std.specs.List.{slice_split}
use Rattle.std.proofs.lemmas.Bool.{and_parts, and_from, ltb-true, ltb-false, lt-ltb, le-ltb, eqb-true, leb-true}
use Rattle.std.proofs.lemmas.Bool.Decides.{Decides-eqb}
use Rattle.std.proofs.lemmas.Nat.{le_bytes_4, from_le_bytes-to_le_bytes_4}
use Rattle.std.proofs.lemmas.List.{drop_more, drop-drop, length-drop, length-append, length-take, take_at, drop_at}
use Rattle.std.proofs.lemmas.{List.Folds.drop_split, List.Splits.join_with_byte-slice_split, Slice.Eq.starts_is}
use Rattle.machine_spec.specs.Image.{slot_count}
use Rattle.program_file.specs.declared.{file.Place.Place, file.ProgramFile.ProgramFile, fault.FileFault.FileFault}
use Rattle.program_file.specs.declared.fault.FileFault.TheVariants.{Short, Version, Table}
use Rattle.program_file.specs.Spelling.{is_line_feed, lines_of, spelling, is_table, fits}
use Rattle.program_file.specs.Reading.{is_program_file, number_at, places_of, file_with, read_file}
use Rattle.program_file.proofs.LineTexts.{lines_again, lines_are}

-- ---- what is read

ok_after : (b : Bool) (fault : FileFault) (rest : Result ProgramFile FileFault) (file : ProgramFile) →
    (if b then Err fault else rest) ≡ Ok file → (b ≡ false) × (rest ≡ Ok file)
ok_after true fault rest file e = let no : ⊥ = cc in absurd no
ok_after false fault rest file e = (refl, e)

-- a file's bytes have a header, and after it its image and its lines
pub record IsRead (bytes : List ℕ) (size : ℕ) (file : ProgramFile) : Type 0 where
  pub version : number_at 4 bytes ≡ 1
  pub table : number_at 8 bytes ≡ file.table
  pub is_table : is_table file.table ≡ true
  pub size_is : number_at 12 bytes ≡ size
  pub room : 16 + size ≤ length bytes
  pub image : slice_range bytes 16 (16 + size) ≡ file.image
  pub places : places_of (size / 8) (drop (16 + size) bytes) ≡ Some file.places

-- the parts that a program was made of
record IsMade (table : ℕ) (image : List ℕ) (places : Option (List Place)) (file : ProgramFile) : Type 0 where
  table_is : table ≡ file.table
  image_is : image ≡ file.image
  places_are : places ≡ Some file.places

made : (table : ℕ) (image : List ℕ) (places : Option (List Place)) (file : ProgramFile) →
    file_with table image places ≡ Ok file → IsMade table image places file
made table image (Some places) file e =
    let whole : ProgramFile = record { table = table; image = image; places = places } in
    let same : whole ≡ file = cc in
    record {
      table_is = ap (λ (f : ProgramFile). f.table) same;
      image_is = ap (λ (f : ProgramFile). f.image) same;
      places_are = ap (λ (f : ProgramFile). Some f.places) same;
    }
made table image None file e = let no : ⊥ = cc in absurd no

not_false : (b : Bool) → not b ≡ false → b ≡ true
not_false true e = refl
not_false false e = cc

pub read_is : (bytes : List ℕ) (file : ProgramFile) → read_file bytes ≡ Ok file →
    IsRead bytes (number_at 12 bytes) file
unfolding read_file
read_is bytes file e =
    let long = ok_after (nat_lt (length bytes) 16) Short _ file e in
    let version = ok_after (not (number_at 4 bytes == 1)) Version _ file long.1 in
    let table = ok_after (not (is_table (number_at 8 bytes))) Table _ file version.1 in
    let room = ok_after (nat_lt (length bytes) (16 + number_at 12 bytes)) Short _ file table.1 in
    let parts = made (number_at 8 bytes) _ _ file room.1 in
    let known : is_table (number_at 8 bytes) ≡ true = not_false _ table.0 in
    record {
      version = eqb-true _ _ (not_false _ version.0);
      table = parts.table_is;
      is_table = rw parts.table_is at known;
      size_is = refl;
      room = ltb-false _ _ room.0;
      image = parts.image_is;
      places = parts.places_are;
    }

-- ---- what is written is read

pub is_read : (bytes : List ℕ) (size : ℕ) (file : ProgramFile) → IsRead bytes size file → read_file bytes ≡ Ok file
unfolding read_file
is_read bytes size file is =
    let long : nat_lt (length bytes) 16 ≡ false = le-ltb _ _ (omega (arith, is.room)) in
    let room : nat_lt (length bytes) (16 + size) ≡ false = le-ltb _ _ is.room in
    rw (long, is.version, is.table, is.is_table, is.size_is, room, is.image, is.places)

spelled_places : (file : ProgramFile) → fits file ≡ true →
    places_of (slot_count file.image) (lines_of file.places) ≡ Some file.places
spelled_places file is =
    let rest = and_parts _ _ (and_parts _ _ is).1 in
    let small : length file.image < 2 ^ 32 = ltb-true _ _ rest.0 in
    lines_again 0 (slot_count file.image) file.places (omega arith) rest.1

pub is_spelled : (file : ProgramFile) → fits file ≡ true → IsRead (spelling file) (length file.image) file
is_spelled file is =
    let first = and_parts _ _ is in
    let table = and_parts _ _ first.0 in
    let most : file.table ≤ 3 = leb-true _ _ table.1 in
    let small : length file.image < 2 ^ 32 = ltb-true _ _ (and_parts _ _ first.1).0 in
    let bytes = spelling file in
    let body : drop 16 bytes ≡ file.image ++ lines_of file.places = refl in
    let size : 16 + length file.image - 16 ≡ length file.image = omega arith in
    let rest : drop (16 + length file.image) bytes ≡ lines_of file.places =
    sym (drop-drop (length file.image) 16 bytes) ∙ drop_at file.image (lines_of file.places) _ refl in
    record {
      version = refl;
      table = from_le_bytes-to_le_bytes_4 file.table (omega arith);
      is_table = first.0;
      size_is = from_le_bytes-to_le_bytes_4 (length file.image) small;
      room = omega (arith, length-drop 16 bytes, length-append file.image (lines_of file.places));
      image = rw size (take_at file.image (lines_of file.places) _ refl);
      places = rw rest (spelled_places file is);
    }

-- ---- what is read is written so

abbrev AreBytes : List ℕ → Type 0
AreBytes bytes = (i : ℕ) → get_or bytes i 0 < 256

number_small : (bytes : List ℕ) (at : ℕ) → AreBytes bytes → number_at at bytes < 2 ^ 32
number_small bytes at fit = omega (arith, fit at, fit (at + 1), fit (at + 2), fit (at + 3))

four_fit : (a b c d : ℕ) → a < 256 → b < 256 → c < 256 → d < 256 → AreBytes (a ∷ b ∷ c ∷ d ∷ [])
four_fit a b c d p q r s zero = p
four_fit a b c d p q r s (suc zero) = q
four_fit a b c d p q r s (suc (suc zero)) = r
four_fit a b c d p q r s (suc (suc (suc zero))) = s
four_fit a b c d p q r s (suc (suc (suc (suc i)))) = omega arith

-- the four bytes of a number, and those after it
number_bytes : (bytes : List ℕ) (at n : ℕ) → AreBytes bytes → at + 4 ≤ length bytes → number_at at bytes ≡ n →
    drop at bytes ≡ to_le_bytes w32 n ++ drop (at + 4) bytes
number_bytes bytes at n fit within is =
    let four = le_bytes_4 (get_or bytes at 0 ∷ get_or bytes (at + 1) 0 ∷ get_or bytes (at + 2) 0
    ∷ get_or bytes (at + 3) 0 ∷ []) n refl
    (four_fit _ _ _ _ (fit at) (fit (at + 1)) (fit (at + 2)) (fit (at + 3))) (sym is) in
    let two_on : at + 1 + 1 ≡ at + 2 = omega arith in
    let three_on : at + 2 + 1 ≡ at + 3 = omega arith in
    let four_on : at + 3 + 1 ≡ at + 4 = omega arith in
    let one = drop_more bytes at 0 (omega arith) in
    let two = rw two_on at (drop_more bytes (at + 1) 0 (omega arith)) in
    let three = rw three_on at (drop_more bytes (at + 2) 0 (omega arith)) in
    let last = rw four_on at (drop_more bytes (at + 3) 0 (omega arith)) in
    one ∙ ap (λ (t : List ℕ). get_or bytes at 0 ∷ t) (two ∙ ap (λ (t : List ℕ). get_or bytes (at + 1) 0 ∷ t)
    (three ∙ ap (λ (t : List ℕ). get_or bytes (at + 2) 0 ∷ t) last))
    ∙ ap (λ (four : List ℕ). four ++ drop (at + 4) bytes) (sym four)

pub spelled_is : (bytes : List ℕ) (file : ProgramFile) → AreBytes bytes → is_program_file bytes ≡ true →
    IsRead bytes (number_at 12 bytes) file → (fits file ≡ true) × (bytes ≡ spelling file)
spelled_is bytes file fit begins is =
    let n = number_at 12 bytes in
    let rest = drop (16 + n) bytes in
    let small : n < 2 ^ 32 = number_small bytes 12 fit in
    let size : n ≡ length file.image = omega (
      arith,
      is.room,
      length-take (16 + n - 16) (drop 16 bytes),
      length-drop 16 bytes,
      ap length is.image,
    ) in
    let lines = lines_are 0 (n / 8) (slice_split is_line_feed rest) file.places is.places in
    let text : rest ≡ lines_of file.places = sym (join_with_byte-slice_split 10 rest) ∙ lines.text in
    let body : drop 16 bytes ≡ file.image ++ lines_of file.places =
    rw (is.image, text) at (drop_split bytes 16 (16 + n) (omega arith)) in
    let mark = (starts_is Decides-eqb bytes (codes "KLOG") (is_program_file bytes) refl).0 begins in
    let version = number_bytes bytes 4 1 fit (omega (arith, is.room)) is.version in
    let table = number_bytes bytes 8 file.table fit (omega (arith, is.room)) is.table in
    let length_is = number_bytes bytes 12 (length file.image) fit (omega (arith, is.room)) size in (
      and_from _ _ is.is_table (and_from _ _ (lt-ltb (length file.image) (2 ^ 32) (omega arith)) (rw size at lines.fit)),
      mark ∙ ap (λ (t : List ℕ). codes "KLOG" ++ t) (version ∙ ap (λ (t : List ℕ). to_le_bytes w32 1 ++ t)
          (table ∙ ap (λ (t : List ℕ). to_le_bytes w32 file.table ++ t)
          (length_is ∙ ap (λ (t : List ℕ). to_le_bytes w32 (length file.image) ++ t) body))),
    )
