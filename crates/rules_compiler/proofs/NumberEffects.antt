-- What the code does of numbers that are read in the value itself.
use Rattle.std.proofs.Common.{◌≡◌, ℕ, zero, suc, ◌+◌, ◌<◌, ◌≤◌, pos, Bool, true, false}
use Rattle.std.proofs.Common.{nat_lt, nat_le, if◌then◌else◌, List, [], ◌∷◌, length, take, drop, slice_get}
use Rattle.std.proofs.Common.{Option, Some, None, unwrap_or, refl, sym, ap, ◌∙◌, subst, arith, ⊎_elim}
use Rattle.std.proofs.lemmas.Bool.{cases_lt, lt-ltb, le-ltb, le-leb, leb-true}
use Rattle.std.proofs.lemmas.List.{length-take, length-drop}
use Rattle.machine_spec.specs.declared.instruction.Instruction.TheVariants.{Load}
use Rattle.machine_spec.specs.declared.instruction.Extension.TheVariants.{Zero}
use Rattle.machine_spec.specs.declared.instruction.Source.TheVariants.{Immediate}
use Rattle.machine_spec.specs.declared.operation.Test.TheVariants as jumps
use Rattle.machine_spec.specs.Values.{Number, little_endian}
use Rattle.machine_spec.specs.Machine.{Input, State, state_after, goes_to, bytes_of, bytes_from, has_part}
use Rattle.verifier_spec.specs.StandsFor.{IsInput}
use Rattle.rules.specs.declared.rule.Layout.{Layout}
use Rattle.rules.specs.declared.rule.Part.TheVariants as part
use Rattle.rules.specs.declared.rule.Layout.TheVariants.{Byte, U16Be, U32Be, U64Be, U16Le, U32Le, U64Le}
use Rattle.rules.specs.Meaning.{in_bytes, number_at, layout_size, layout_number}
use Rattle.rules_compiler.specs.Code.{Code, Plain, Then, Unless}
use Rattle.rules_compiler.specs.Pieces.{set}
use Rattle.rules_compiler.specs.Terms.{first_size, more_of, append_byte, more_code, read_code, value_number_code}
use Rattle.rules_compiler.specs.Code.{instructions}
use Rattle.rules.specs.declared.rule.Comparison.{Comparison}
use Rattle.rules.specs.Meaning.{compares, compares_if}
use Rattle.rules_compiler.proofs.Walks.{Course, On, run}
use Rattle.rules_compiler.proofs.Courses.{then_runs}
use Rattle.rules_compiler.proofs.Texts.{AreBytes}
use Rattle.machine_spec.specs.declared.instruction.Instruction.{Instruction}
use Rattle.machine_spec.specs.Values.{byte_count}
use Rattle.std.specs.Int.{w16, w32, w64, from_be_bytes}
use Rattle.std.proofs.Common.{◌*◌, ◌%◌, ◌^◌}
use Rattle.rules_compiler.proofs.Ready.{Ready, small_immediate}
use Rattle.rules_compiler.proofs.Texts.{read_from}
use Rattle.rules_compiler.proofs.Walks.{run_list}
use Rattle.rules_compiler.proofs.Courses.{Decides, Values, then_decides}
use Rattle.rules_compiler.proofs.Courses.{skipped, entered, then_values}
use Rattle.rules_compiler.proofs.LayoutEffects.{order_is, piece_bytes, number_found}
use Rattle.rules_compiler.proofs.ValueEffects.{zero_ready, zero_truth}

-- ---- numbers

take_get : (n j : ℕ) (l : List ℕ) (x : ℕ) → slice_get (take n l) j ≡ Some x → slice_get l j ≡ Some x
take_get zero j l x e = absurd cc
take_get (suc n) j [] x e = absurd cc
take_get (suc n) zero (y ∷ l) x e = e
take_get (suc n) (suc j) (y ∷ l) x e = take_get n j l x e

drop_get : (p j : ℕ) (l : List ℕ) (x : ℕ) → slice_get (drop p l) j ≡ Some x → slice_get l (p + j) ≡ Some x
drop_get zero j l x e = let same : j ≡ 0 + j = omega arith in subst (λ (n : ℕ). slice_get l n ≡ Some x) same e
drop_get (suc p) j [] x e = absurd cc
drop_get (suc p) j (y ∷ l) x e =
    let same : suc (p + j) ≡ suc p + j = omega arith in
    subst (λ (n : ℕ). slice_get (y ∷ l) n ≡ Some x) same (drop_get p j l x e)

-- a byte behind others
abbrev appended : (front byte : ℕ) → ℕ
appended front byte = (front * 2 ^ 8 % 2 ^ 64 + byte) % 2 ^ 64

abbrev grown : ℕ → List ℕ → ℕ
grown front [] = front
grown front (byte ∷ bytes) = grown (appended front byte) bytes

-- what is read first, and then byte by byte
abbrev read_number : Layout → List ℕ → ℕ
read_number layout text =
    grown (little_endian (take (byte_count (first_size layout)) text)) (drop (byte_count (first_size layout)) text)

grows : (front byte : ℕ) → front < 2 ^ 56 → byte < 256 → appended front byte ≡ front * 256 + byte
grows front byte small low = omega arith

two_read : (a b : ℕ) → a < 256 → b < 256 → appended (a + 256 * 0) b ≡ from_be_bytes w16 (a ∷ b ∷ [])
two_read a b x y = omega (arith, grows (a + 256 * 0) b (omega arith) y)

four_read : (a b c d : ℕ) → a < 256 → b < 256 → c < 256 → d < 256 →
    appended (appended (appended (a + 256 * 0) b) c) d ≡ from_be_bytes w32 (a ∷ b ∷ c ∷ d ∷ [])
four_read a b c d x y z u =
    let first = grows (a + 256 * 0) b (omega arith) y in
    let second = grows (appended (a + 256 * 0) b) c (omega (arith, first)) z in
    let third = grows (appended (appended (a + 256 * 0) b) c) d (omega (arith, first, second)) u in
    omega (arith, first, second, third)

eight_read : (a b c d e f g h : ℕ) → a < 256 → b < 256 → c < 256 → d < 256 → e < 256 → f < 256 → g < 256 → h < 256 →
    appended (appended (appended (appended (appended (appended (appended (a + 256 * 0) b) c) d) e) f) g) h
    ≡ from_be_bytes w64 (a ∷ b ∷ c ∷ d ∷ e ∷ f ∷ g ∷ h ∷ [])
eight_read a b c d e f g h x y z u v w q r =
    let n1 = appended (a + 256 * 0) b in
    let e1 = grows (a + 256 * 0) b (omega arith) y in
    let n2 = appended n1 c in
    let e2 = grows n1 c (omega (arith, e1)) z in
    let n3 = appended n2 d in
    let e3 = grows n2 d (omega (arith, e1, e2)) u in
    let n4 = appended n3 e in
    let e4 = grows n3 e (omega (arith, e1, e2, e3)) v in
    let n5 = appended n4 f in
    let e5 = grows n4 f (omega (arith, e1, e2, e3, e4)) w in
    let n6 = appended n5 g in
    let e6 = grows n5 g (omega (arith, e1, e2, e3, e4, e5)) q in
    let e7 = grows n6 h (omega (arith, e1, e2, e3, e4, e5, e6)) r in
    omega (arith, e1, e2, e3, e4, e5, e6, e7)

read_is : (layout : Layout) (text : List ℕ) → length text ≡ layout_size layout → AreBytes text →
    read_number layout text ≡ layout_number layout text
read_is Byte (a ∷ []) long bytes = order_is Byte (a ∷ []) long bytes
read_is U16Be (a ∷ b ∷ []) long bytes = two_read a b (bytes 0) (bytes 1)
read_is U32Be (a ∷ b ∷ c ∷ d ∷ []) long bytes = four_read a b c d (bytes 0) (bytes 1) (bytes 2) (bytes 3)
read_is U64Be (a ∷ b ∷ c ∷ d ∷ e ∷ f ∷ g ∷ h ∷ []) long bytes =
    eight_read a b c d e f g h (bytes 0) (bytes 1) (bytes 2) (bytes 3) (bytes 4) (bytes 5) (bytes 6) (bytes 7)
read_is U16Le (a ∷ b ∷ []) long bytes = order_is U16Le (a ∷ b ∷ []) long bytes
read_is U32Le (a ∷ b ∷ c ∷ d ∷ []) long bytes = order_is U32Le (a ∷ b ∷ c ∷ d ∷ []) long bytes
read_is U64Le (a ∷ b ∷ c ∷ d ∷ e ∷ f ∷ g ∷ h ∷ []) long bytes =
    order_is U64Le (a ∷ b ∷ c ∷ d ∷ e ∷ f ∷ g ∷ h ∷ []) long bytes
read_is layout text long bytes = absurd (omega arith)

-- r0 has a number behind code that leaves r8
record Reads (input : Input) (code : Code) (s : State) (n : ℕ) : Type 0 where
  pub state : State
  pub runs : run input code s ≡ On state
  pub ready : Ready input state
  pub truth : state.registers 8 ≡ s.registers 8
  pub answer : state.registers 0 ≡ Number n

module _ (input : Input) where
  append_ready : (t : State) (place : ℕ) → Ready input t → Ready input (run_list input (append_byte place) t)
  unfolding state_after
  append_ready t place ready = assumption ready

  append_truth : (t : State) (place : ℕ) → (run_list input (append_byte place) t).registers 8 ≡ t.registers 8
  unfolding state_after
  append_truth t place = refl

  append_answer : (t : State) (place front : ℕ) → Ready input t → t.registers 0 ≡ Number front →
      (run_list input (append_byte place) t).registers 0
      ≡ Number ((front * 2 ^ 8 % 2 ^ 64 + (unwrap_or (slice_get (bytes_of input.given.value) place) 0 + 256 * 0)) % 2 ^ 64)
  unfolding state_after
  append_answer t place front ready answer =
      let sum : 0 + place ≡ place = omega arith in
      let base = ready.value_is in
      rw (base, answer, sum) refl

  more_reads : (place count : ℕ) (t : State) (front : ℕ) → Ready input t → t.registers 0 ≡ Number front →
      Reads input (more_code place count) t (grown front (bytes_from (slice_get (bytes_of input.given.value)) place count))
  unfolding more_code
  more_reads place zero t front ready answer =
      record { state = t; runs = refl; ready = ready; truth = refl; answer = answer }
  more_reads place (suc count) t front ready answer =
      let u = run_list input (append_byte place) t in
      let byte = unwrap_or (slice_get (bytes_of input.given.value) place) 0 in
      let same : (front * 2 ^ 8 % 2 ^ 64 + (byte + 256 * 0)) % 2 ^ 64 ≡ appended front byte = omega arith in
      let r = more_reads (place + 1) count u (appended front byte) (append_ready t place ready)
      (append_answer t place front ready answer ∙ ap Number same) in
      record {
        state = r.state;
        runs = then_runs input (Plain (append_byte place)) (more_code (place + 1) count) t u (On r.state) refl r.runs;
        ready = r.ready;
        truth = r.truth ∙ append_truth t place;
        answer = r.answer;
      }

module _ (input : Input) (t : State) (ready : Ready input t) (place : ℕ) where
  abbrev first_load : Layout → List Instruction
  first_load layout = Load (first_size layout) Zero 0 9 (pos place) ∷ []

  load_ready : (layout : Layout) → Ready input (run_list input (first_load layout) t)
  unfolding state_after
  load_ready layout = assumption ready

  load_truth : (layout : Layout) → (run_list input (first_load layout) t).registers 8 ≡ t.registers 8
  unfolding state_after
  load_truth layout = refl

  start_is : 0 + place ≡ place
  start_is = omega arith

  load_answer : (layout : Layout) → (run_list input (first_load layout) t).registers 0
      ≡ Number (little_endian (bytes_from (slice_get (bytes_of input.given.value)) place (byte_count (first_size layout))))
  unfolding state_after
  load_answer Byte = let base = ready.value_is in rw (base, start_is) refl
  load_answer U16Be = let base = ready.value_is in rw (base, start_is) refl
  load_answer U32Be = let base = ready.value_is in rw (base, start_is) refl
  load_answer U64Be = let base = ready.value_is in rw (base, start_is) refl
  load_answer U16Le = let base = ready.value_is in rw (base, start_is) refl
  load_answer U32Le = let base = ready.value_is in rw (base, start_is) refl
  load_answer U64Le = let base = ready.value_is in rw (base, start_is) refl

  piece_read : (text : List ℕ) (size : ℕ) → text ≡ take size (drop place (bytes_of input.given.value)) → length text ≡ size →
      bytes_from (slice_get (bytes_of input.given.value)) place size ≡ text
  piece_read text size is long =
      ap (bytes_from (slice_get (bytes_of input.given.value)) place) (sym long)
      ∙ read_from (slice_get (bytes_of input.given.value)) place text (λ j x at.
      drop_get place j (bytes_of input.given.value) x (take_get size j (drop place (bytes_of input.given.value)) x
      (subst (λ (l : List ℕ). slice_get l j ≡ Some x) is at)))

  -- the bytes as they are read
  parts_are : (layout : Layout) →
      grown (little_endian (bytes_from (slice_get (bytes_of input.given.value)) place (byte_count (first_size layout))))
      (bytes_from (slice_get (bytes_of input.given.value)) (place + 1) (more_of layout))
      ≡ read_number layout (bytes_from (slice_get (bytes_of input.given.value)) place (layout_size layout))
  parts_are Byte = refl
  parts_are U16Be = refl
  parts_are U32Be = refl
  parts_are U64Be = refl
  parts_are U16Le = refl
  parts_are U32Le = refl
  parts_are U64Le = refl

  reads : (layout : Layout) (text : List ℕ) → text ≡ take (layout_size layout) (drop place (bytes_of input.given.value)) →
      length text ≡ layout_size layout → AreBytes text → Reads input (read_code layout place) t (layout_number layout text)
  unfolding read_code
  reads layout text is long bytes =
      let u = run_list input (first_load layout) t in
      let front = little_endian (bytes_from (slice_get (bytes_of input.given.value)) place (byte_count (first_size layout))) in
      let r = more_reads input (place + 1) (more_of layout) u front (load_ready layout) (load_answer layout) in
      record {
        state = r.state;
        runs = then_runs input (Plain (first_load layout)) (more_code (place + 1) (more_of layout)) t u (On r.state) refl r.runs;
        ready = r.ready;
        truth = r.truth ∙ load_truth layout;
        answer = r.answer ∙ ap Number (parts_are layout
            ∙ ap (read_number layout) (piece_read text (layout_size layout) is long) ∙ read_is layout text long bytes);
      }

module _ (input : Input) (given : IsInput input) (layout : Layout) (place : ℕ) (near : place + layout_size layout ≤ 32768)
    (t : State) (ready : Ready input t) where
  -- the value has not all bytes of the number
  short_skips : has_part (bytes_of input.given.value) place (layout_size layout) ≡ false → (rest : Code) →
      run input (Unless jumps.Less 7 (Immediate (pos (place + layout_size layout))) rest) t
      ≡ On (goes_to t (t.slot + 1 + length (instructions rest)))
  short_skips has rest =
      let imm = small_immediate (place + layout_size layout) (omega arith) in
      let long = ready.length_is in
      let test = past (place + layout_size layout) (length (bytes_of input.given.value)) has in
      skipped input jumps.Less 7 (Immediate (pos (place + layout_size layout))) rest t (rw (long, imm) test)
    where
      past : (n m : ℕ) → nat_le n m ≡ false → nat_lt m n ≡ true
      past n m e = ⊎_elim (λ less. lt-ltb m n less) (λ there. let test = le-leb n m there in absurd (cc)) (cases_lt m n)

  -- it has them
  record Enters (rest : Code) : Type 0 where
    pub state : State
    pub stays : Ready input state
    pub truth : state.registers 8 ≡ t.registers 8
    pub answer : state.registers 0
        ≡ Number (layout_number layout (take (layout_size layout) (drop place (bytes_of input.given.value))))
    pub runs : (c : Course) → run input rest state ≡ c →
        run input (Unless jumps.Less 7 (Immediate (pos (place + layout_size layout))) (Then (read_code layout place) rest)) t ≡ c

  enters : has_part (bytes_of input.given.value) place (layout_size layout) ≡ true → (rest : Code) → Enters rest
  enters has rest =
      let imm = small_immediate (place + layout_size layout) (omega arith) in
      let long = ready.length_is in
      let within = leb-true (place + layout_size layout) (length (bytes_of input.given.value)) has in
      let test = le-ltb (length (bytes_of input.given.value)) (place + layout_size layout) within in
      let size : length (take (layout_size layout) (drop place (bytes_of input.given.value))) ≡ layout_size layout =
      omega (
        arith,
        length-take (layout_size layout) (drop place (bytes_of input.given.value)),
        length-drop place (bytes_of input.given.value),
      ) in
      let u = goes_to t (t.slot + 1) in
      let r = reads input u (assumption ready) place layout (take (layout_size layout) (drop place (bytes_of input.given.value)))
      refl size (piece_bytes layout place (bytes_of input.given.value) given.value) in
      record {
        state = r.state;
        stays = r.ready;
        truth = r.truth;
        answer = r.answer;
        runs = λ c e. entered input jumps.Less 7 (Immediate (pos (place + layout_size layout)))
            (Then (read_code layout place) rest) t (rw (long, imm) test)
            ∙ then_runs input (read_code layout place) rest u r.state c r.runs e;
      }

module _ (input : Input) (given : IsInput input) (s : State) (ready : Ready input s) (layout : Layout) (place : ℕ)
    (near : place + layout_size layout ≤ 32768) where
  zeroes_ready : Ready input (run_list input (set 0 (pos 0) ∷ set 8 (pos 0) ∷ []) s)
  unfolding state_after
  zeroes_ready = assumption ready

  zeroes_truth : (run_list input (set 0 (pos 0) ∷ set 8 (pos 0) ∷ []) s).registers 8 ≡ Number 0
  unfolding state_after
  zeroes_truth = refl

  marked_ready : (u : State) → Ready input u → Ready input (run_list input (set 8 (pos 1) ∷ []) u)
  unfolding state_after
  marked_ready u r = assumption r

  marked_truth : (u : State) → (run_list input (set 8 (pos 1) ∷ []) u).registers 8 ≡ Number 1
  unfolding state_after
  marked_truth u = refl

  marked_answer : (u : State) → (run_list input (set 8 (pos 1) ∷ []) u).registers 0 ≡ u.registers 0
  unfolding state_after
  marked_answer u = refl

  read_values : (b : Bool) → has_part (bytes_of input.given.value) place (layout_size layout) ≡ b →
      Values input (Unless jumps.Less 7 (Immediate (pos (place + layout_size layout)))
      (Then (read_code layout place) (Plain (set 8 (pos 1) ∷ []))))
      (run_list input (set 0 (pos 0) ∷ set 8 (pos 0) ∷ []) s)
      (if b then Some (layout_number layout (take (layout_size layout) (drop place (bytes_of input.given.value)))) else None)
  read_values false has =
      let t = run_list input (set 0 (pos 0) ∷ set 8 (pos 0) ∷ []) s in
      let rest : Code = Then (read_code layout place) (Plain (set 8 (pos 1) ∷ [])) in
      record {
        state = goes_to t (t.slot + 1 + length (instructions rest));
        runs = short_skips input given layout place near t zeroes_ready has rest;
        ready = assumption zeroes_ready;
        has = zeroes_truth;
      }
  read_values true has =
      let t = run_list input (set 0 (pos 0) ∷ set 8 (pos 0) ∷ []) s in
      let e = enters input given layout place near t zeroes_ready has (Plain (set 8 (pos 1) ∷ [])) in
      let u = run_list input (set 8 (pos 1) ∷ []) e.state in
      record {
        state = u;
        runs = e.runs (On u) refl;
        ready = marked_ready e.state e.stays;
        has = (marked_truth e.state, marked_answer e.state ∙ e.answer);
      }

  pub number_values : Values input (value_number_code layout place) s (in_bytes (number_at layout place) input.given.value)
  unfolding value_number_code
  number_values =
      let b = has_part (bytes_of input.given.value) place (layout_size layout) in
      subst (Values input (Then (Plain (set 0 (pos 0) ∷ set 8 (pos 0) ∷ []))
      (Unless jumps.Less 7 (Immediate (pos (place + layout_size layout)))
      (Then (read_code layout place) (Plain (set 8 (pos 1) ∷ []))))) s)
      (number_found layout place (Some input.given.value))
      (then_values input (Plain (set 0 (pos 0) ∷ set 8 (pos 0) ∷ []))
      (Unless jumps.Less 7 (Immediate (pos (place + layout_size layout)))
      (Then (read_code layout place) (Plain (set 8 (pos 1) ∷ [])))) s
      (run_list input (set 0 (pos 0) ∷ set 8 (pos 0) ∷ []) s) _ refl (read_values b refl))

  -- a test of the number, where what follows decides it
  number_decides : (how : Comparison) (n : ℕ) (rest : Code) →
      ((u : State) (a : ℕ) → Ready input u → u.registers 0 ≡ Number a → Decides input rest u (compares how a n)) →
      (b : Bool) → has_part (bytes_of input.given.value) place (layout_size layout) ≡ b →
      Decides input (Unless jumps.Less 7 (Immediate (pos (place + layout_size layout))) (Then (read_code layout place) rest))
      (run_list input (set 8 (pos 0) ∷ []) s) (compares_if how
      (if b then Some (layout_number layout (take (layout_size layout) (drop place (bytes_of input.given.value)))) else None) n)
  number_decides how n rest go false has =
      let t = run_list input (set 8 (pos 0) ∷ []) s in
      record {
        state = goes_to t (t.slot + 1 + length (instructions (Then (read_code layout place) rest)));
        runs = short_skips input given layout place near t (zero_ready input given s ready) has (Then (read_code layout place) rest);
        ready = skipped_ready t (zero_ready input given s ready) (t.slot + 1 + length (instructions (Then (read_code layout place) rest)));
        truth = zero_truth input given s;
      }
    where
      skipped_ready : (u : State) → Ready input u → (slot : ℕ) → Ready input (goes_to u slot)
      skipped_ready u r slot = assumption r
  number_decides how n rest go true has =
      let t = run_list input (set 8 (pos 0) ∷ []) s in
      let e = enters input given layout place near t (zero_ready input given s ready) has rest in
      let d = go e.state (layout_number layout (take (layout_size layout) (drop place (bytes_of input.given.value)))) e.stays e.answer in
      record { state = d.state; runs = e.runs (On d.state) d.runs; ready = d.ready; truth = d.truth }

  pub compare_number_decides : (how : Comparison) (n : ℕ) (rest : Code) →
      ((u : State) (a : ℕ) → Ready input u → u.registers 0 ≡ Number a → Decides input rest u (compares how a n)) →
      Decides input (Then (Plain (set 8 (pos 0) ∷ [])) (Unless jumps.Less 7 (Immediate (pos (place + layout_size layout)))
      (Then (read_code layout place) rest))) s (compares_if how (in_bytes (number_at layout place) input.given.value) n)
  compare_number_decides how n rest go =
      let b = has_part (bytes_of input.given.value) place (layout_size layout) in
      let code : Code = Unless jumps.Less 7 (Immediate (pos (place + layout_size layout))) (Then (read_code layout place) rest) in
      let t = run_list input (set 8 (pos 0) ∷ []) s in
      subst (λ (o : Option ℕ). Decides input (Then (Plain (set 8 (pos 0) ∷ [])) (Unless jumps.Less 7
      (Immediate (pos (place + layout_size layout))) (Then (read_code layout place) rest))) s (compares_if how o n))
      (number_found layout place (Some input.given.value))
      (then_decides input (Plain (set 8 (pos 0) ∷ [])) code s t _ refl (number_decides how n rest go b refl))
