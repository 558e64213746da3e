-- Lines of places, as they are written and read.
use Rattle.std.proofs.Common.{◌≡◌, ℕ, ◌+◌, ◌-◌, ◌^◌, ◌<◌, ◌≤◌, Bool, true, false, not, ◌==◌, nat_lt, nat_le, if◌then◌else◌}
use Rattle.std.proofs.Common.{List, [], ◌∷◌, ◌++◌, length, get_or, take, drop, slice_range, Option, Some, None, Result, Ok, Err, refl, sym, ap}
use Rattle.std.proofs.Common.{◌∙◌, arith, append_assoc, decimal, subst, ◌⊎◌, inl, inr}
use Rattle.std.specs.List.{slice_split, position_or_len, before_first, after_first, join_with_byte, list_all, All}
use Rattle.std.proofs.lemmas.Bool.{and_parts, lt-ltb, le-ltb, ltb-true, ne_eqb, eqb-true, eqb-false}
use Rattle.std.proofs.lemmas.List.{drop-take, drop-drop, length-append, take_at, drop_at, get_or_at, nil_from_length}
use Rattle.std.proofs.lemmas.List.Splits.{slice_split_first, slice_split_at, length-slice_split}
use Rattle.std.proofs.lemmas.List.Sums.{split_at_first, passes_at_first, position_or_len_is}
use Rattle.std.proofs.lemmas.{Option.cond_some}
use Rattle.std.specs.Str.{IsUtf8, is_utf8}
use Rattle.std.proofs.lemmas.Bool.{false_from_ne_true, and_right, and_left, leb-true}
use Rattle.std.proofs.lemmas.List.{append-nil, get_or_append_left}
use Rattle.std.proofs.lemmas.List.Elements.{All-from_get_or, All-weaker, All-append, All-cons}
use Rattle.std.proofs.lemmas.List.Sums.{AllPass-from_list_all}
use Rattle.std.proofs.lemmas.{Str.IsUtf8-from_is_utf8, Fmt.decimal_is_IsNumeral, Str.Parse.digit_at}
use Rattle.std.specs.Option.{ok_or}
use Rattle.wire_spec.specs.Memory.{AnswersAs}
use Rattle.memchr.specs.Find.{IsFirstByte, is_byte}
use Rattle.program_file.specs.declared.{file.Place.Place, fault.FileFault.FileFault, fault.FileFault.TheVariants.Lines}
use Rattle.program_file.specs.Spelling.{is_line_feed, line_of, lines_of, is_place, are_places}
use Rattle.program_file.specs.Reading.{is_space, slot_named, if_place, place_named, read_place, before_places, with_place}
use Rattle.program_file.specs.Reading.{read_places, places_of}
use Rattle.program_file.proofs.{Searches.first_found, Searches.no_first, Numbers.slot_of, Numbers.slot_is}

-- ---- one line

-- what is after a place in a range
pub range_rest : (bytes : List ℕ) (start k end : ℕ) → start + k + 1 ≤ end →
    slice_range bytes (start + k + 1) end ≡ drop (k + 1) (slice_range bytes start end)
range_rest bytes start k end within =
    let size : end - start ≡ (k + 1) + (end - (start + k + 1)) = omega arith in
    let place : start + (k + 1) ≡ start + k + 1 = omega arith in
    sym (rw (size, drop-take (k + 1) (end - (start + k + 1)) (drop start bytes), drop-drop (k + 1) start bytes, place))

pub place_read : (least slots : ℕ) (line : List ℕ) (k : ℕ) → IsFirstByte (is_byte 32) line (Some k) →
    read_place least slots line ≡ place_named least slots (slot_named (take k line)) (drop (k + 1) line)
place_read least slots line k h =
    rw (first_found 32 line k h, lt-ltb k (length line) h.0.high)

pub no_place : (least slots : ℕ) (line : List ℕ) → IsFirstByte (is_byte 32) line None →
    read_place least slots line ≡ None
no_place least slots line h = rw (no_first 32 line h, le-ltb (length line) (length line) (omega arith))

-- a place with a text that is no UTF-8 is none
pub no_text : (least slots slot : ℕ) (text : List ℕ) → (IsUtf8 text → ⊥) →
    if_place least slots (record { slot = slot; text = text }) ≡ None
no_text least slots slot text other =
    let utf8 : is_utf8 text ≡ false = false_from_ne_true _ (λ e. other (IsUtf8-from_is_utf8 text e)) in
    let fails : is_place least slots (record { slot = slot; text = text }) ≡ false =
    and_right (nat_le least slot) _ (and_right (nat_lt slot slots) _ (and_right (nat_lt 0 (length text)) _
    (and_left (is_utf8 text) (list_all (λ b. not (is_line_feed b)) text) utf8))) in
    rw fails

-- what a line says that is a range of bytes
pub line_read : (least slots : ℕ) (bytes : List ℕ) (start end : ℕ) (found : Option ℕ) (k : ℕ) →
    IsFirstByte (is_byte 32) (slice_range bytes start end) found → found ≡ Some k →
    read_place least slots (slice_range bytes start end)
    ≡ place_named least slots (slot_named (take k (slice_range bytes start end)))
    (drop (k + 1) (slice_range bytes start end))
line_read least slots bytes start end found k h is =
    place_read least slots (slice_range bytes start end) k (rw is at h)

-- the place of a line with its slot and its text
pub line_place : (least slots : ℕ) (bytes : List ℕ) (start end k slot : ℕ) (text : List ℕ) →
    read_place least slots (slice_range bytes start end)
    ≡ place_named least slots (Some slot) (drop (k + 1) (slice_range bytes start end)) → start + k + 1 ≤ end →
    text ≡ slice_range bytes (start + k + 1) end →
    read_place least slots (slice_range bytes start end) ≡ if_place least slots (record { slot = slot; text = text })
line_place least slots bytes start end k slot text read within is =
    rw (is, range_rest bytes start k end within) read

-- ---- the lines one after the other

-- places before those that are read after them
abbrev pub after : List Place → Option (List Place) → Option (List Place)
after front (Some places) = Some (front ++ places)
after front None = None

after_one : (front : List Place) (place : Place) (rest : Option (List Place)) →
    after front (before_places place rest) ≡ after (front ++ place ∷ []) rest
after_one front place (Some places) = ap Some (sym (append_assoc front (place ∷ []) places))
after_one front place None = refl

some_pieces : (text : List ℕ) → (length (slice_split is_line_feed text) == 0) ≡ false
some_pieces text = ne_eqb _ 0 (λ e. omega (arith, length-slice_split is_line_feed text))

split_whole : (p : ℕ → Bool) (xs : List ℕ) → length xs ≤ position_or_len p xs → slice_split p xs ≡ xs ∷ []
split_whole p [] h = refl
split_whole p (x ∷ xs) h = grind (arith, split_whole p xs)

-- what the lines up to a place said, and those from it on
pub record IsReadTo (slots : ℕ) (text : List ℕ) (front : List Place) (least : ℕ) (rest : List ℕ) : Type 0 where
  pub so_far : places_of slots text ≡ after front (read_places least slots (slice_split is_line_feed rest))

first_line : (least slots : ℕ) (rest : List ℕ) (k : ℕ) → IsFirstByte (is_byte 10) rest (Some k) →
    read_places least slots (slice_split is_line_feed rest) ≡ with_place (read_place least slots (take k rest))
    (λ next. read_places next slots (slice_split is_line_feed (drop (k + 1) rest)))
first_line least slots rest k h =
    let at : position_or_len is_line_feed rest ≡ k = first_found 10 rest k h in
    let within : position_or_len is_line_feed rest < length rest = omega (arith, h.0.high) in
    rw (slice_split_first is_line_feed rest 0 within, at, some_pieces (drop (k + 1) rest))

pub read_more : (slots : ℕ) (text : List ℕ) (front : List Place) (least : ℕ) (rest : List ℕ) (k : ℕ) (place : Place) →
    IsReadTo slots text front least rest → IsFirstByte (is_byte 10) rest (Some k) →
    read_place least slots (take k rest) ≡ Some place →
    IsReadTo slots text (front ++ place ∷ []) (place.slot + 1) (drop (k + 1) rest)
read_more slots text front least rest k place before h read =
    record { so_far = rw (before.so_far, first_line least slots rest k h, read, after_one) }

pub read_refused : (slots : ℕ) (text : List ℕ) (front : List Place) (least : ℕ) (rest : List ℕ) (k : ℕ) →
    IsReadTo slots text front least rest → IsFirstByte (is_byte 10) rest (Some k) →
    read_place least slots (take k rest) ≡ None → places_of slots text ≡ None
read_refused slots text front least rest k before h refused =
    rw (before.so_far, first_line least slots rest k h, refused)

pub read_cut : (slots : ℕ) (text : List ℕ) (front : List Place) (least : ℕ) (rest : List ℕ) →
    IsReadTo slots text front least rest → IsFirstByte (is_byte 10) rest None → 0 < length rest →
    places_of slots text ≡ None
read_cut slots text front least rest before h some =
    let at : position_or_len is_line_feed rest ≡ length rest = no_first 10 rest h in
    let other : (length rest == 0) ≡ false = ne_eqb (length rest) 0 (λ e. omega arith) in
    rw (before.so_far, split_whole is_line_feed rest (omega arith), other)

pub read_all : (slots : ℕ) (text : List ℕ) (front : List Place) (least : ℕ) (rest : List ℕ) →
    IsReadTo slots text front least rest → length rest ≡ 0 → places_of slots text ≡ Some front
read_all slots text front least rest before none =
    rw (before.so_far, nil_from_length rest none) (ap Some (append-nil front))

-- the bytes from a place on, up to one of them
pub line_range : (bytes : List ℕ) (at size : ℕ) → slice_range bytes at (at + size) ≡ take size (drop at bytes)
line_range bytes at size = let same : at + size - at ≡ size = omega arith in rw same

-- ---- answers

pub refused_by : (place : Option Place) (fault : FileFault) → ok_or place Lines ≡ Err fault →
    (place ≡ None) × (Lines ≡ fault)
refused_by (Some place) fault e = cc
refused_by None fault e = (refl, cc)

pub taken_by : (place : Option Place) (place' : Place) → ok_or place Lines ≡ Ok place' → place ≡ Some place'
taken_by (Some place) place' e = cc
taken_by None place' e = cc

pub answered : (ran_out : FileFault) (answer said : Result Place FileFault) → answer ≡ said →
    AnswersAs ran_out (λ place. place) answer said
answered ran_out (Ok place) said e = sym e
answered ran_out (Err fault) said e = λ other. sym e

-- ---- lines that are written are read

-- the parts of a line without its line feed
abbrev pub line_text : Place → List ℕ
line_text place = decimal place.slot ++ 32 ∷ place.text

line_apart : (place : Place) (rest : List ℕ) → line_of place ++ rest ≡ line_text place ++ 10 ∷ rest
line_apart place rest =
    rw (
      append_assoc (decimal place.slot) (32 ∷ (place.text ++ 10 ∷ [])) rest,
      append_assoc place.text (10 ∷ []) rest,
      append_assoc (decimal place.slot) (32 ∷ place.text) (10 ∷ rest),
    )

pub record IsWithin (least slots : ℕ) (place : Place) : Type 0 where
  pub least_le : least ≤ place.slot
  pub below : place.slot < slots
  pub one_line : list_all (λ b. not (is_line_feed b)) place.text ≡ true

pub within_parts : (least slots : ℕ) (place : Place) → is_place least slots place ≡ true → IsWithin least slots place
within_parts least slots place is =
    let first = and_parts _ _ is in
    let second = and_parts _ _ first.1 in
    let third = and_parts _ _ (and_parts _ _ second.1).1 in
    record { least_le = leb-true _ _ first.0; below = ltb-true _ _ second.0; one_line = third.1 }

digits_lack : (byte n : ℕ) → byte < 48 → n < 2 ^ 64 → All (λ b. (b == byte) ≡ false) (decimal n)
digits_lack byte n low small =
    let numeral = (decimal_is_IsNumeral n small).0 in
    All-from_get_or (λ (b : ℕ). (b == byte) ≡ false) (decimal n) 0 (λ i within.
    let digit = digit_at (decimal n) i numeral.1 within in ne_eqb (get_or (decimal n) i 0) byte (λ e. omega arith))

not_true : (b : Bool) → not b ≡ true → b ≡ false
not_true true e = sym e
not_true false e = refl

text_lacks : (text : List ℕ) → list_all (λ b. not (is_line_feed b)) text ≡ true →
    All (λ b. is_line_feed b ≡ false) text
text_lacks text one_line =
    All-weaker (λ (b : ℕ). not (is_line_feed b) ≡ true) (λ (b : ℕ). is_line_feed b ≡ false)
    (λ b e. not_true (is_line_feed b) e) text (AllPass-from_list_all _ text one_line)

line_lacks : (slots : ℕ) (place : Place) → place.slot < 2 ^ 64 →
    list_all (λ b. not (is_line_feed b)) place.text ≡ true → All (λ b. is_line_feed b ≡ false) (line_text place)
line_lacks slots place small one_line =
    All-append (λ (b : ℕ). is_line_feed b ≡ false) (decimal place.slot) (32 ∷ place.text)
    (digits_lack 10 place.slot (omega arith) small)
    (All-cons (λ (b : ℕ). is_line_feed b ≡ false) 32 place.text refl (text_lacks place.text one_line))

-- the first space of a line is the one after its slot
space_at : (slot : ℕ) (text : List ℕ) → slot < 2 ^ 64 →
    position_or_len is_space (decimal slot ++ 32 ∷ text) ≡ length (decimal slot)
space_at slot text small =
    let digits = decimal slot in
    let lacks = digits_lack 32 slot (omega arith) small in
    position_or_len_is is_space (digits ++ 32 ∷ text) (length digits) 0 (omega (arith, length-append digits (32 ∷ text)))
    (λ k before. rw (get_or_append_left digits (32 ∷ text) 0 k before) (lacks k 0 before))
    (λ within. rw (get_or_at digits 32 text 0 (length digits) refl) refl)

pub line_again : (least slots : ℕ) (place : Place) → slots ≤ 2 ^ 32 → is_place least slots place ≡ true →
    read_place least slots (line_text place) ≡ Some place
line_again least slots place few is =
    let within = within_parts least slots place is in
    let small : place.slot < 2 ^ 32 = omega (arith, within.below) in
    let digits = decimal place.slot in
    let at = space_at place.slot place.text (omega arith) in
    let front : take (length digits) (digits ++ 32 ∷ place.text) ≡ digits = take_at digits (32 ∷ place.text) _ refl in
    let rest : drop (length digits + 1) (digits ++ 32 ∷ place.text) ≡ place.text =
    rw (← append_assoc digits (32 ∷ []) place.text)
    (drop_at (digits ++ 32 ∷ []) place.text _ (length-append digits (32 ∷ []))) in
    let some : nat_lt (length digits) (length (digits ++ 32 ∷ place.text)) ≡ true =
    lt-ltb _ _ (omega (arith, length-append digits (32 ∷ place.text))) in
    rw (at, some, front, rest, slot_of digits place.slot (record { small = small; text = refl }), is)

pub lines_again : (least slots : ℕ) (places : List Place) → slots ≤ 2 ^ 32 → are_places least slots places ≡ true →
    read_places least slots (slice_split is_line_feed (lines_of places)) ≡ Some places
lines_again least slots [] few are = refl
lines_again least slots (place ∷ places) few are =
    let both = and_parts _ _ are in
    let within = within_parts least slots place both.0 in
    let text = line_text place in
    let pieces = slice_split_at is_line_feed text 10 (lines_of places)
    (line_lacks slots place (omega (arith, within.below)) within.one_line) refl in
    rw (
      line_apart place (lines_of places),
      pieces,
      some_pieces (lines_of places),
      line_again least slots place few both.0,
      lines_again (place.slot + 1) slots places few both.1,
    )

-- ---- lines that are read are written so

-- what a line says whose place may stand after those of slots below the least one
pub record IsLine (least slots : ℕ) (line : List ℕ) (place : Place) : Type 0 where
  pub fits : is_place least slots place ≡ true
  pub text : line ≡ line_text place

cond_ok : (b : Bool) (o : Option Place) (place : Place) → (if b then o else None) ≡ Some place →
    (b ≡ true) × (o ≡ Some place)
cond_ok true o place e = (refl, e)
cond_ok false o place e = cc

named_is : (least slots : ℕ) (word text : List ℕ) (slot : Option ℕ) (place : Place) → slot ≡ slot_named word →
    place_named least slots slot text ≡ Some place →
    (is_place least slots place ≡ true) × (word ≡ decimal place.slot) × (text ≡ place.text)
named_is least slots word text (Some n) place says e =
    let is = cond_some _ _ place e in
    let slot = slot_is word n (sym says) in
    (subst (λ (p : Place). is_place least slots p ≡ true) is.1 is.0, slot.text ∙ ap (λ (p : Place). decimal p.slot) is.1, ap (λ (p : Place). p.text) is.1)
named_is least slots word text None place says e = cc

pub line_is : (least slots : ℕ) (line : List ℕ) (place : Place) → read_place least slots line ≡ Some place →
    IsLine least slots line place
line_is least slots line place e =
    let some = cond_ok (nat_lt (position_or_len is_space line) (length line)) _ place e in
    let within : position_or_len is_space line < length line = ltb-true _ _ some.0 in
    let space : get_or line (position_or_len is_space line) 0 ≡ 32 =
    eqb-true _ _ (passes_at_first is_space line 0 within) in
    let is = named_is least slots (before_first is_space line) (after_first is_space line) _ place refl some.1 in
    let parts = split_at_first is_space line 0 within in
    record { fits = is.0; text = rw (space, is.1, is.2) at parts }

-- what pieces say whose places may stand after those of slots below the least one
pub record AreLines (least slots : ℕ) (pieces : List (List ℕ)) (places : List Place) : Type 0 where
  pub fit : are_places least slots places ≡ true
  pub text : join_with_byte 10 pieces ≡ lines_of places

-- a choice that is some places
choice_is : (b : Bool) (x y : Option (List Place)) (places : List Place) → (if b then x else y) ≡ Some places →
    ((b ≡ true) × (x ≡ Some places)) ⊎ ((b ≡ false) × (y ≡ Some places))
choice_is true x y places e = inl (refl, e)
choice_is false x y places e = inr (refl, e)

-- a place that was taken, and those after it
record IsTaken (read : Option Place) (later : ℕ → Option (List Place)) (places : List Place) : Type 0 where
  place : Place
  rest : List Place
  is : read ≡ Some place
  after_is : later (place.slot + 1) ≡ Some rest
  all : places ≡ place ∷ rest

before_is : (place : Place) (later : Option (List Place)) (places : List Place) →
    before_places place later ≡ Some places →
    (rest : List Place) × ((later ≡ Some rest) × (places ≡ place ∷ rest))
before_is place (Some rest) places e = (rest, (refl, cc))
before_is place None places e = let no : ⊥ = cc in absurd no

taken : (read : Option Place) (later : ℕ → Option (List Place)) (places : List Place) →
    with_place read later ≡ Some places → IsTaken read later places
taken (Some place) later places e =
    let is = before_is place (later (place.slot + 1)) places e in
    record { place = place; rest = is.0; is = refl; after_is = is.1.0; all = is.1.1 }
taken None later places e = let no : ⊥ = cc in absurd no

end_is : (least slots : ℕ) (line : List ℕ) (lines : List (List ℕ)) (places : List Place) → lines ≡ [] → line ≡ [] →
    [] ≡ places → AreLines least slots (line ∷ lines) places
end_is least slots line lines places none empty is =
    record { fit = rw (← is) refl; text = rw (none, empty, ← is) refl }

join_more : (line : List ℕ) (lines : List (List ℕ)) → (length lines ≡ 0 → ⊥) →
    join_with_byte 10 (line ∷ lines) ≡ line ++ 10 ∷ join_with_byte 10 lines
join_more line [] some = absurd (some refl)
join_more line (next ∷ lines) some = refl

more_is : (least slots : ℕ) (line : List ℕ) (lines : List (List ℕ)) (places rest : List Place) (place : Place) →
    (length lines ≡ 0 → ⊥) → IsLine least slots line place → AreLines (place.slot + 1) slots lines rest →
    places ≡ place ∷ rest → AreLines least slots (line ∷ lines) places
more_is least slots line lines places rest place some first others all =
    record {
      fit = rw (all, first.fits, others.fit) refl;
      text = rw (all, join_more line lines some, first.text, others.text) (sym (line_apart place (lines_of rest)));
    }

pub lines_are : (least slots : ℕ) (pieces : List (List ℕ)) (places : List Place) →
    read_places least slots pieces ≡ Some places → AreLines least slots pieces places
lines_are least slots [] places e = let no : ⊥ = cc in absurd no
lines_are least slots (line ∷ lines) places e =
    elim (choice_is (length lines == 0) _ _ places e) [
      | inl last ↦
          let empty = cond_some _ _ places last.1 in
          end_is least slots line lines places (nil_from_length lines (eqb-true _ _ last.0))
          (nil_from_length line (eqb-true _ _ empty.0)) empty.1
      | inr more ↦
          let first = taken (read_place least slots line) _ places more.1 in
          more_is least slots line lines places first.rest first.place (eqb-false _ _ more.0)
          (line_is least slots line first.place first.is)
          (lines_are (first.place.slot + 1) slots lines first.rest first.after_is) first.all
    ]
