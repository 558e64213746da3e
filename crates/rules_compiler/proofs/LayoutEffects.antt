-- What the code of a number in bytes of a part does.
use Rattle.std.proofs.Common.{◌≡◌, ℕ, zero, suc, ◌+◌, ◌-◌, ◌%◌, ◌^◌, ◌<◌, ◌≤◌, pos, Bool, true, false}
use Rattle.std.proofs.Common.{nat_le, if◌then◌else◌, List, [], ◌∷◌, ◌++◌, length, Option, Some}
use Rattle.std.proofs.Common.{None, refl, sym, ap, ◌∙◌, subst, arith}
use Rattle.std.specs.Int.{w32, w64, swap_bytes}
use Rattle.machine_spec.specs.declared.instruction.Source.TheVariants.{Immediate}
use Rattle.machine_spec.specs.declared.operation.Width.TheVariants.{Bits64}
use Rattle.machine_spec.specs.declared.operation.Test.TheVariants as jumps
use Rattle.machine_spec.specs.Values.{Number, immediate}
use Rattle.machine_spec.specs.Machine.{Input, State, state_after, goes_to}
use Rattle.machine_spec.specs.Machine.{has_part}
use Rattle.machine_spec.specs.Signatures.{helper_among}
use Rattle.machine_spec.specs.{Parts.part_in}
use Rattle.verifier_spec.specs.StandsFor.{IsInput}
use Rattle.rules.specs.declared.{rule.Part.Part, rule.Layout.Layout}
use Rattle.rules.specs.Meaning.{part_bytes, holds}
use Rattle.rules.specs.Limits.{IsText, FitsPart}
use Rattle.rules_compiler.specs.Code.{Code, Plain, Then, Unless}
use Rattle.rules_compiler.specs.Pieces.{part_code}
use Rattle.rules_compiler.proofs.Ready.{Ready, small_immediate}
use Rattle.rules_compiler.proofs.Texts.{runs_both}
use Rattle.rules_compiler.proofs.Parts.{found, bytes_found, part_run}
use Rattle.machine_spec.specs.{Parts.part_numbered}
use Rattle.rules.specs.{Meaning.in_bytes}
use Rattle.std.specs.Prelude.{drop}
use Rattle.std.proofs.lemmas.List.{length-take, length-drop}
use Rattle.std.proofs.lemmas.Bool.{lt-leb, leb-true}
use Rattle.std.proofs.Common.{unwrap_or, take}
use Rattle.rules_compiler.proofs.Walks.{On, run_list}
use Rattle.std.specs.Int.{w16, from_be_bytes, from_le_bytes}
use Rattle.std.proofs.lemmas.Option.{slice_get_within}
use Rattle.std.proofs.lemmas.Nat.{le_bytes_2, le_bytes_4, le_bytes_8}
use Rattle.std.proofs.Common.{slice_get, get_or}
use Rattle.machine_spec.specs.Values.{byte_count, little_endian}
use Rattle.machine_spec.specs.Machine.{has_part, part_of, stack_with_bytes, bytes_from}
use Rattle.rules.specs.declared.rule.Layout.TheVariants.{Byte, U16Be, U32Be, U64Be, U16Le, U32Le, U64Le}
use Rattle.rules.specs.Meaning.{layout_size, layout_number, number_at}
use Rattle.rules_compiler.specs.Terms.{size_of, room_call, load_list, layout_code}
use Rattle.rules_compiler.proofs.Texts.{AreBytes, read_from, written}
use Rattle.rules_compiler.proofs.Parts.{found_below}
use Rattle.rules_compiler.proofs.Courses.{Values, skipped, entered, then_values, bytes_of_found}

-- ---- the numbers of bytes

-- what an instruction makes of the number of bytes that were loaded
abbrev pub order_of : Layout → ℕ → ℕ
order_of Byte n = n
order_of U16Be n = swap_bytes w16 (n % 2 ^ 16)
order_of U32Be n = swap_bytes w32 (n % 2 ^ 32)
order_of U64Be n = swap_bytes w64 n
order_of U16Le n = n
order_of U32Le n = n
order_of U64Le n = n

two : (text : List ℕ) → length text ≡ 2 → text ≡ get_or text 0 0 ∷ get_or text 1 0 ∷ []
two (a ∷ b ∷ []) e = refl
two [] e = absurd (omega arith)
two (a ∷ []) e = absurd (omega arith)
two (a ∷ b ∷ c ∷ text) e = absurd (omega arith)

number_two : (a b : ℕ) → a < 256 → b < 256 → (little_endian (a ∷ b ∷ []) % 2 ^ 16 ≡ from_le_bytes w16 (a ∷ b ∷ []))
    × (little_endian (a ∷ b ∷ []) ≡ from_le_bytes w16 (a ∷ b ∷ []))
number_two a b x y = (omega arith, omega arith)

number_four : (a b c d : ℕ) → a < 256 → b < 256 → c < 256 → d < 256 →
    (little_endian (a ∷ b ∷ c ∷ d ∷ []) % 2 ^ 32 ≡ from_le_bytes w32 (a ∷ b ∷ c ∷ d ∷ []))
    × (little_endian (a ∷ b ∷ c ∷ d ∷ []) ≡ from_le_bytes w32 (a ∷ b ∷ c ∷ d ∷ []))
number_four a b c d x y z u = (omega arith, omega arith)

number_eight : (a b c d e f g h : ℕ) →
    little_endian (a ∷ b ∷ c ∷ d ∷ e ∷ f ∷ g ∷ h ∷ []) ≡ from_le_bytes w64 (a ∷ b ∷ c ∷ d ∷ e ∷ f ∷ g ∷ h ∷ [])
number_eight a b c d e f g h = omega arith

swapped_two : (text : List ℕ) (n : ℕ) → length text ≡ 2 → AreBytes text → n ≡ from_le_bytes w16 text →
    swap_bytes w16 n ≡ from_be_bytes w16 text
swapped_two text n long bytes is = ap (from_be_bytes w16) (le_bytes_2 text n long bytes is)

swapped_four : (text : List ℕ) (n : ℕ) → length text ≡ 4 → AreBytes text → n ≡ from_le_bytes w32 text →
    swap_bytes w32 n ≡ from_be_bytes w32 text
swapped_four text n long bytes is = ap (from_be_bytes w32) (le_bytes_4 text n long bytes is)

swapped_eight : (text : List ℕ) (n : ℕ) → length text ≡ 8 → AreBytes text → n ≡ from_le_bytes w64 text →
    swap_bytes w64 n ≡ from_be_bytes w64 text
swapped_eight text n long bytes is = ap (from_be_bytes w64) (le_bytes_8 text n long bytes is)

pub order_is : (layout : Layout) (text : List ℕ) → length text ≡ layout_size layout → AreBytes text →
    order_of layout (little_endian text) ≡ layout_number layout text
order_is Byte (a ∷ []) long bytes = omega arith
order_is U16Be (a ∷ b ∷ []) long bytes = swapped_two (a ∷ b ∷ []) _ refl bytes (number_two a b (bytes 0) (bytes 1)).0
order_is U32Be (a ∷ b ∷ c ∷ d ∷ []) long bytes =
    swapped_four (a ∷ b ∷ c ∷ d ∷ []) _ refl bytes (number_four a b c d (bytes 0) (bytes 1) (bytes 2) (bytes 3)).0
order_is U64Be (a ∷ b ∷ c ∷ d ∷ e ∷ f ∷ g ∷ h ∷ []) long bytes =
    swapped_eight (a ∷ b ∷ c ∷ d ∷ e ∷ f ∷ g ∷ h ∷ []) _ refl bytes (number_eight a b c d e f g h)
order_is U16Le (a ∷ b ∷ []) long bytes = (number_two a b (bytes 0) (bytes 1)).1
order_is U32Le (a ∷ b ∷ c ∷ d ∷ []) long bytes = (number_four a b c d (bytes 0) (bytes 1) (bytes 2) (bytes 3)).1
order_is U64Le (a ∷ b ∷ c ∷ d ∷ e ∷ f ∷ g ∷ h ∷ []) long bytes = number_eight a b c d e f g h
order_is layout text long bytes = absurd (omega arith)

-- ---- the copy

module _ (input : Input) (t : State) (ready : Ready input t) (layout : Layout) (number place : ℕ)
    (is : t.registers 6 ≡ Number number) where
  room_ready : Ready input (run_list input (room_call (layout_size layout) place) t)
  unfolding state_after helper_among
  room_ready = assumption ready

  room_truth : (run_list input (room_call (layout_size layout) place) t).registers 8 ≡ Number 0
  unfolding state_after helper_among
  room_truth = refl

  room_answer : (run_list input (room_call (layout_size layout) place) t).registers 0
      ≡ Number (if has_part (bytes_of_found (part_in input.given (part_numbered number))) (immediate Bits64 (pos place))
      (immediate Bits64 (pos (layout_size layout))) then 0 else 1)
  unfolding state_after helper_among
  room_answer = rw is refl

  room_stack : (run_list input (room_call (layout_size layout) place) t).stack
      ≡ stack_with_bytes t.stack 256 (part_of (bytes_of_found (part_in input.given (part_numbered number)))
      (immediate Bits64 (pos place)) (immediate Bits64 (pos (layout_size layout))))
  unfolding state_after helper_among
  room_stack = let frame = ready.frame_is in rw (is, frame) refl

size_immediate : (layout : Layout) → immediate Bits64 (pos (layout_size layout)) ≡ layout_size layout
size_immediate Byte = refl
size_immediate _ = refl

sizes_same : (layout : Layout) → byte_count (size_of layout) ≡ layout_size layout
sizes_same Byte = refl
sizes_same _ = refl

-- ---- the load

module _ (input : Input) (t : State) (ready : Ready input t) (text : List ℕ) (stack : ℕ → Option ℕ)
    (holds : t.stack ≡ stack_with_bytes stack 256 text) where
  stack_read : bytes_from t.stack 256 (length text) ≡ text
  stack_read = read_from t.stack 256 text (λ j x at.
      let low = slice_get_within text j x at in
      let place : 256 + j - 256 ≡ j = omega arith in
      ap (λ (f : ℕ → Option ℕ). f (256 + j)) holds
      ∙ written stack 256 (256 + j) text (omega arith) (omega arith)
      ∙ ap (slice_get text) place ∙ at)

  load_ready : (layout : Layout) → Ready input (run_list input (load_list layout) t)
  unfolding state_after
  load_ready Byte = assumption ready
  load_ready _ = assumption ready

  load_truth : (layout : Layout) → (run_list input (load_list layout) t).registers 8 ≡ Number 1
  unfolding state_after
  load_truth Byte = refl
  load_truth _ = refl

  load_number : (layout : Layout) → (run_list input (load_list layout) t).registers 0
      ≡ Number (order_of layout (little_endian (bytes_from t.stack 256 (layout_size layout))))
  unfolding state_after
  load_number Byte = let frame = ready.frame_is in rw frame refl
  load_number U16Be = let frame = ready.frame_is in rw frame refl
  load_number U32Be = let frame = ready.frame_is in rw frame refl
  load_number U64Be = let frame = ready.frame_is in rw frame refl
  load_number U16Le = let frame = ready.frame_is in rw frame refl
  load_number U32Le = let frame = ready.frame_is in rw frame refl
  load_number U64Le = let frame = ready.frame_is in rw frame refl

  loads_number : (layout : Layout) → length text ≡ layout_size layout → AreBytes text →
      (run_list input (load_list layout) t).registers 0 ≡ Number (layout_number layout text)
  loads_number layout long bytes =
      load_number layout
      ∙ ap (λ (n : ℕ). Number (order_of layout (little_endian (bytes_from t.stack 256 n)))) (sym long)
      ∙ ap (λ (l : List ℕ). Number (order_of layout (little_endian l))) stack_read
      ∙ ap Number (order_is layout text long bytes)

-- ---- the whole

-- the bytes of a piece are some, where all are
pub piece_bytes : (layout : Layout) (place : ℕ) (bytes : List ℕ) → AreBytes bytes →
    AreBytes (take (layout_size layout) (drop place bytes))
piece_bytes layout place bytes are at = taken (layout_size layout) (drop place bytes) (dropped place bytes are) at
  where
    dropped : (n : ℕ) (l : List ℕ) → AreBytes l → AreBytes (drop n l)
    dropped zero l h = h
    dropped (suc n) [] h = h
    dropped (suc n) (x ∷ l) h = dropped n l (λ at. h (suc at))

    taken : (n : ℕ) (l : List ℕ) → AreBytes l → AreBytes (take n l)
    taken zero l h at = omega arith
    taken (suc n) [] h at = h at
    taken (suc n) (x ∷ l) h zero = h 0
    taken (suc n) (x ∷ l) h (suc at) = taken n l (λ at. h (suc at)) at

module _ (input : Input) (t : State) (ready : Ready input t) (layout : Layout) (place : ℕ) (bytes : List ℕ)
    (are : AreBytes bytes) (stack : ℕ → Option ℕ) (truth : t.registers 8 ≡ Number 0) where
  abbrev loading : Code
  loading = Unless jumps.NotEqual 0 (Immediate (pos 0)) (Plain (load_list layout))

  load_values : (b : Bool) → has_part bytes place (layout_size layout) ≡ b →
      t.registers 0 ≡ Number (if has_part bytes place (layout_size layout) then 0 else 1) →
      t.stack ≡ stack_with_bytes stack 256 (part_of bytes place (layout_size layout)) →
      Values input loading t (if b then Some (layout_number layout (take (layout_size layout) (drop place bytes))) else None)
  load_values false has answer holds = record {
    state = goes_to t (t.slot + 1 + length (load_list layout));
    runs = skipped input jumps.NotEqual 0 (Immediate (pos 0)) (Plain (load_list layout)) t (rw (answer, has) refl);
    ready = assumption ready;
    has = truth;
  }
  load_values true has answer holds =
      let text = take (layout_size layout) (drop place bytes) in
      let filled : t.stack ≡ stack_with_bytes stack 256 text = holds ∙ rw has refl in
      let within = leb-true (place + layout_size layout) (length bytes) has in
      let long : length text ≡ layout_size layout =
      omega (arith, length-take (layout_size layout) (drop place bytes), length-drop place bytes) in
      let u = goes_to t (t.slot + 1) in
      record {
        state = run_list input (load_list layout) u;
        runs = entered input jumps.NotEqual 0 (Immediate (pos 0)) (Plain (load_list layout)) t (rw (answer, has) refl);
        ready = load_ready input u (assumption ready) text stack filled layout;
        has = (
          load_truth input u (assumption ready) text stack filled layout,
          loads_number input u (assumption ready) text stack filled layout long (piece_bytes layout place bytes are),
        );
      }

pub number_found : (layout : Layout) (place : ℕ) (o : Option (Option (List ℕ))) →
    (if has_part (bytes_of_found o) place (layout_size layout) then Some (layout_number layout (take (layout_size layout)
    (drop place (bytes_of_found o)))) else None) ≡ in_bytes (number_at layout place) (unwrap_or o None)
number_found layout place None = let none = lt-leb (place + layout_size layout) 0 (positive layout) in rw none refl
  where
    positive : (layout : Layout) → 0 < place + layout_size layout
    positive Byte = omega arith
    positive _ = omega arith
number_found layout place (Some None) = let none = lt-leb (place + layout_size layout) 0 (positive layout) in rw none refl
  where
    positive : (layout : Layout) → 0 < place + layout_size layout
    positive Byte = omega arith
    positive _ = omega arith
number_found layout place (Some (Some bytes)) =
    let size : place + layout_size layout - place ≡ layout_size layout = omega arith in
    ap (λ (n : ℕ). if nat_le (place + layout_size layout) (length bytes) then Some (layout_number layout (take n (drop place bytes)))
    else None) (sym size)

pub layout_values : (input : Input) → IsInput input → (s : State) → Ready input s → (layout : Layout) (p : Part) (place : ℕ) →
    FitsPart IsText p → place ≤ 1048576 →
    Values input (layout_code layout p place) s (in_bytes (number_at layout place) (part_bytes p input.given))
unfolding layout_code
layout_values input given s ready layout p place fits low =
    let r = part_run input given p fits s ready in
    let t = run_list input (part_code p) s in
    let size = layout_size layout in
    let u = run_list input (room_call size place) t in
    let bytes = bytes_of_found (found p input.given) in
    let both = runs_both input (part_code p) (room_call size place) s in
    let same = ap bytes_of_found r.names in
    let answer = room_answer input t r.ready layout r.number place r.is
    ∙ rw (small_immediate place (omega arith), size_immediate layout, same) refl in
    let stack = room_stack input t r.ready layout r.number place r.is
    ∙ rw (small_immediate place (omega arith), size_immediate layout, same) refl in
    let v = load_values input u (room_ready input t r.ready layout r.number place r.is) layout place bytes
    (found_below input given p) t.stack (room_truth input t r.ready layout r.number place r.is)
    (has_part bytes place size) refl answer stack in
    let is = number_found layout place (found p input.given)
    ∙ ap (in_bytes (number_at layout place)) (sym (bytes_found p input.given)) in
    subst (Values input (Then (Plain (part_code p ++ room_call (layout_size layout) place))
    (Unless jumps.NotEqual 0 (Immediate (pos 0)) (Plain (load_list layout)))) s) is
    (then_values input (Plain (part_code p ++ room_call (layout_size layout) place))
    (Unless jumps.NotEqual 0 (Immediate (pos 0)) (Plain (load_list layout))) s u _ (ap On both) v)
