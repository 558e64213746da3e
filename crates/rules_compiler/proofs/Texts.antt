-- A text in the stack: the stores that put it there, and a call that reads it.
use Rattle.std.proofs.Common.{◌≡◌, ℕ, zero, suc, ◌+◌, ◌-◌, ◌*◌, ◌/◌, ◌%◌, ◌^◌, ◌<◌, ◌≤◌, ℤ, pos, ◌+ℤ◌, neg_ℤ, Bool, true, false}
use Rattle.std.proofs.Common.{◌&&◌, int_le, List, [], ◌∷◌, ◌++◌, length, get_or, slice_get, Option, Some, None}
use Rattle.std.proofs.Common.{is_none, is_some, refl, sym, ap, ◌∙◌, subst, arith, ⊎_elim}
use Rattle.std.specs.{Ordering.int_eq, List.AllByRecursion}
use Rattle.std.specs.Int.{w32, from_le_bytes, to_le_bytes, cast_signed, bytes_low_first}
use Rattle.std.proofs.lemmas.Bool.{and_from, le-leb, lt-leb, lt-ltb, cases_lt}
use Rattle.std.proofs.lemmas.{Int.ints, Bool.Decides.Decides-int_eq, Nat.le_bytes_4}
use Rattle.std.proofs.lemmas.Option.{slice_get_within, get_or_from_slice_get}
use Rattle.machine_spec.specs.declared.{instruction.Instruction.Instruction, instruction.Region.Region, limits.TheConstants.STACK_SIZE}
use Rattle.machine_spec.specs.declared.{helper.TheConstants.HELPERS, summary.Direction.Direction}
use Rattle.machine_spec.specs.declared.instruction.Instruction.TheVariants.{Store}
use Rattle.machine_spec.specs.declared.instruction.Source.TheVariants.{Immediate}
use Rattle.machine_spec.specs.declared.instruction.Size.TheVariants.{Word}
use Rattle.machine_spec.specs.declared.operation.Width.TheVariants.{Bits64}
use Rattle.machine_spec.specs.Values.{Value, Number, Address, immediate}
use Rattle.machine_spec.specs.Machine.{Input, State, state_after, bytes_from, bytes_read, named_access, stack_with_bytes}
use Rattle.wire_spec.specs.declared.limits.TheConstants.{MAX_KEY, MAX_VALUE}
use Rattle.wire_spec.specs.declared.record.Header.{Header}
use Rattle.verifier_spec.specs.declared.{state.Abs.Abs, state.Abstract.Abstract, state.StackSet.StackSet}
use Rattle.verifier_spec.specs.{StackSets.is_set, StackSets.with_places, Ranges.lengths_from_to}
use Rattle.verifier_spec.specs.{Intervals.from_to, Transfer.falls_to, Checks.failed_check}
use Rattle.verifier_spec.specs.Checks.{may_name_wrongly, named_reach, are_set}
use Rattle.verifier_spec.proofs.{Whole.le-le_z, Safety.failed_from, StackSets.places_kept, StackSets.places_set}
use Rattle.rules.specs.Limits.{IsText}
use Rattle.rules_compiler.specs.declared.pieces.TheConstants.{NEAR, FAR}
use Rattle.rules_compiler.specs.Pieces.{byte_at, word_at, word_store, words_code, word_count, text_code}
use Rattle.rules_compiler.proofs.Flows.{leads_on, next, pass, after}
use Rattle.rules_compiler.proofs.Walks.{run_list}
use Rattle.rules_compiler.proofs.Ready.{ReadyWith}

-- ---- lists of instructions one after another

pub record LeadsTo (list : List Instruction) (a b : Abstract) : Type 0 where
  pub passed : pass list a ≡ true
  pub is : after list a ≡ b

both_same : (b x y z : Bool) → x ≡ (y && z) → (b && x) ≡ ((b && y) && z)
both_same true x y z e = e
both_same false x y z e = refl

pass_both : (xs ys : List Instruction) (a : Abstract) → pass (xs ++ ys) a ≡ (pass xs a && pass ys (after xs a))
pass_both [] ys a = refl
pass_both (i ∷ xs) ys a =
    both_same (leads_on i && (is_none (failed_check HELPERS i a) && is_some (falls_to i a)))
    (pass (xs ++ ys) (next i a)) (pass xs (next i a)) (pass ys (after xs (next i a))) (pass_both xs ys (next i a))

after_both : (xs ys : List Instruction) (a : Abstract) → after (xs ++ ys) a ≡ after ys (after xs a)
after_both [] ys a = refl
after_both (i ∷ xs) ys a = after_both xs ys (next i a)

pub leads_both : (xs ys : List Instruction) (a b c : Abstract) → LeadsTo xs a b → LeadsTo ys b c → LeadsTo (xs ++ ys) a c
leads_both xs ys a b c x y = record {
  passed = pass_both xs ys a ∙ rw x.passed (subst (λ (d : Abstract). pass ys d ≡ true) (sym x.is) y.passed);
  is = after_both xs ys a ∙ ap (after ys) x.is ∙ y.is;
}

pub runs_both : (input : Input) (xs ys : List Instruction) (s : State) →
    run_list input (xs ++ ys) s ≡ run_list input ys (run_list input xs s)
runs_both input [] ys s = refl
runs_both input (i ∷ xs) ys s = runs_both input xs ys (state_after i input s)

-- ---- where a text stands

-- a place that is counted from the stack's end is one that is counted from its begin
pub record StandsAt (start : ℤ) (base : ℕ) : Type 0 where
  pub is : pos 512 +ℤ start ≡ pos base
  pub low : base ≤ 256

pub near_stands : StandsAt NEAR 256
near_stands = record { is = refl; low = omega arith }

pub far_stands : StandsAt FAR 0
far_stands = record { is = refl; low = omega arith }

pub word_stands : (start : ℤ) (base : ℕ) → StandsAt start base → (k : ℕ) → pos 512 +ℤ (start +ℤ pos (4 * k)) ≡ pos (base + 4 * k)
word_stands start base stands k = let is = stands.is in omega (arith, ints)

-- ---- abstract states with a set of stack bytes

abbrev pub shape : (r0 r1 r2 r3 r4 r5 r6 r8 : Abs) (places : StackSet) → Abstract
shape r0 r1 r2 r3 r4 r5 r6 r8 places = record {
  registers =
      r0 ∷ r1 ∷ r2 ∷ r3 ∷ r4 ∷ r5 ∷ r6 ∷ Abs.Len Region.Value ∷ r8 ∷ Abs.Addr Region.Value (pos 0) (pos 0)
      ∷ Abs.Addr Region.Stack (pos STACK_SIZE) (pos STACK_SIZE) ∷ [];
  key = lengths_from_to 0 MAX_KEY;
  value = lengths_from_to 0 MAX_VALUE;
  set = places;
}

int_same : (z : ℤ) → int_eq z z ≡ true
int_same z = (Decides-int_eq z z).1 refl

-- the places of so many words from one on
abbrev pub words_from : ℕ → StackSet → ℕ → StackSet
words_from base places zero = places
words_from base places (suc k) = with_places (words_from base places k) (base + 4 * k) 4

-- the same of a text that stands alone
abbrev pub words_of : StackSet → ℕ → StackSet
words_of places k = words_from 256 places k

module _ (r0 r1 r2 r3 r4 r5 r6 r8 : Abs) where
  abbrev over : StackSet → Abstract
  over places = shape r0 r1 r2 r3 r4 r5 r6 r8 places

  store_check : (z : ℤ) (n : ℕ) (w : ℤ) (places : StackSet) → pos 512 +ℤ z ≡ pos n → n + 4 ≤ 512 →
      failed_check HELPERS (Store Word 10 z (Immediate w)) (over places) ≡ None
  store_check z n w places at low =
      let start : int_le (pos 0) (pos n) ≡ true = le-le_z (pos 0) (pos n) (omega (arith, ints)) in
      let end : int_le (pos n +ℤ pos 4) (pos 512) ≡ true = le-le_z (pos n +ℤ pos 4) (pos 512) (omega (arith, ints)) in
      failed_from HELPERS (Store Word 10 z (Immediate w)) (over places) (record {
        frame = refl;
        helper = refl;
        unset = refl;
        operands = refl;
        base = refl;
        condition = refl;
        record_write = refl;
        record_bounds = refl;
        stack_bounds = rw (at, start, end) refl;
        stack_unset = refl;
        argument = refl;
        exit = refl;
      })

  store_falls : (z : ℤ) (n : ℕ) (w : ℤ) (places : StackSet) → pos 512 +ℤ z ≡ pos n →
      falls_to (Store Word 10 z (Immediate w)) (over places) ≡ Some (over (with_places places n 4))
  unfolding falls_to
  store_falls z n w places at = rw (at, int_same (pos n)) refl

  store_leads : (z : ℤ) (n : ℕ) (w : ℤ) (places : StackSet) → pos 512 +ℤ z ≡ pos n → n + 4 ≤ 512 →
      LeadsTo (Store Word 10 z (Immediate w) ∷ []) (over places) (over (with_places places n 4))
  store_leads z n w places at low = record {
    passed = rw (store_check z n w places at low, store_falls z n w places at) refl;
    is = rw (store_falls z n w places at) refl;
  }

  pub words_lead : (start : ℤ) (base : ℕ) → StandsAt start base → (text : List ℕ) (k : ℕ) (places : StackSet) → k ≤ 64 →
      LeadsTo (words_code start text k) (over places) (over (words_from base places k))
  unfolding words_code
  words_lead start base stands text zero places few = record { passed = refl; is = refl }
  words_lead start base stands text (suc k) places few =
      leads_both (words_code start text k) (word_store start text k ∷ []) (over places) (over (words_from base places k))
      (over (words_from base places (suc k))) (words_lead start base stands text k places (omega arith))
      (store_leads (start +ℤ pos (4 * k)) (base + 4 * k) (word_at text (4 * k)) (words_from base places k)
      (word_stands start base stands k) (omega (arith, stands.low)))

pub words_set : (base : ℕ) (places : StackSet) (k q : ℕ) → base ≤ 256 → k ≤ 64 → base ≤ q → q < base + 4 * k →
    is_set (words_from base places k) q ≡ true
words_set base places zero q at few low high = absurd (omega arith)
words_set base places (suc k) q at few low high = ⊎_elim
    (λ before. places_kept (words_from base places k) (base + 4 * k) 4 q (omega arith)
    (words_set base places k q at (omega arith) low before))
    (λ here. places_set (words_from base places k) (base + 4 * k) 4 q (omega arith) here (omega arith))
    (cases_lt q (base + 4 * k))

-- places that were set before
pub words_keep : (base : ℕ) (places : StackSet) (k q : ℕ) → q < 512 → is_set places q ≡ true →
    is_set (words_from base places k) q ≡ true
words_keep base places zero q low e = e
words_keep base places (suc k) q low e =
    places_kept (words_from base places k) (base + 4 * k) 4 q low (words_keep base places k q low e)

-- ---- a text that is named

pub all_set : (places : StackSet) (from count : ℕ) → ((q : ℕ) → from ≤ q → q < from + count → is_set places q ≡ true) →
    are_set places from count ≡ true
all_set places from zero h = refl
all_set places from (suc count) h =
    and_from _ _ (h from (omega arith) (omega arith)) (all_set places (from + 1) count (λ q low high. h q (omega arith) (omega arith)))

pub named_rightly : (base : ℕ) (a : Abstract) (n size : ℕ) → n ≡ size → base + size ≤ 512 →
    ((q : ℕ) → base ≤ q → q < base + size → is_set a.set q ≡ true) →
    may_name_wrongly a (named_reach Direction.Read (Abs.Addr Region.Stack (pos base) (pos base)) (Some (from_to n n))) ≡ false
named_rightly base a n size same few h =
    let start : int_le (pos 0) (pos base) ≡ true = le-le_z (pos 0) (pos base) (omega (arith, ints)) in
    let end : int_le (pos base +ℤ pos size) (pos 512) ≡ true = le-le_z (pos base +ℤ pos size) (pos 512) (omega (arith, ints)) in
    let none : pos base +ℤ neg_ℤ (pos base) ≡ pos 0 = omega (arith, ints) in
    let count : 0 + size ≡ size = omega arith in
    rw (same, start, end, none, count, all_set a.set base size h) refl

-- ---- the bytes of a text in the machine's stack

-- the low bytes of a word that is sign-extended
word_again : (n : ℕ) → n < 2 ^ 32 → immediate Bits64 (cast_signed w32 n) % 2 ^ 32 ≡ n
word_again n small = grind (arith, ints)

low_bytes : (n m : ℕ) → n % 2 ^ 32 ≡ m → bytes_low_first 0 4 n ≡ to_le_bytes w32 m
low_bytes n m e =
    let a : n % 256 ≡ m % 256 = omega arith in
    let b : n / 256 % 256 ≡ m / 256 % 256 = omega arith in
    let c : n / 65536 % 256 ≡ m / 65536 % 256 = omega arith in
    let d : n / 16777216 % 256 ≡ m / 16777216 % 256 = omega arith in
    rw (a, b, c, d) refl

-- the bytes of a text are some
abbrev pub AreBytes : List ℕ → Type 0
AreBytes text = (p : ℕ) → get_or text p 0 < 256

abbrev pub quad : List ℕ → ℕ → List ℕ
quad text p = byte_at text p ∷ byte_at text (p + 1) ∷ byte_at text (p + 2) ∷ byte_at text (p + 3) ∷ []

quad_bytes : (text : List ℕ) → AreBytes text → (p i : ℕ) → get_or (quad text p) i 0 < 256
quad_bytes text bytes p zero = bytes p
quad_bytes text bytes p (suc zero) = bytes (p + 1)
quad_bytes text bytes p (suc (suc zero)) = bytes (p + 2)
quad_bytes text bytes p (suc (suc (suc zero))) = bytes (p + 3)
quad_bytes text bytes p (suc (suc (suc (suc i)))) = omega arith

pub quad_small : (text : List ℕ) → AreBytes text → (p : ℕ) → from_le_bytes w32 (quad text p) < 2 ^ 32
quad_small text bytes p = omega (arith, bytes p, bytes (p + 1), bytes (p + 2), bytes (p + 3))

stored_bytes : (text : List ℕ) → AreBytes text → (p : ℕ) → bytes_low_first 0 4 (immediate Bits64 (word_at text p)) ≡ quad text p
stored_bytes text bytes p =
    let small = quad_small text bytes p in
    low_bytes (immediate Bits64 (word_at text p)) (from_le_bytes w32 (quad text p)) (word_again (from_le_bytes w32 (quad text p)) small)
    ∙ le_bytes_4 (quad text p) (from_le_bytes w32 (quad text p)) refl (quad_bytes text bytes p) refl

quad_get : (text : List ℕ) (p j : ℕ) → j < 4 → slice_get (quad text p) j ≡ Some (byte_at text (p + j))
quad_get text p zero low = let same : p ≡ p + 0 = omega arith in ap (λ (n : ℕ). Some (byte_at text n)) same
quad_get text p (suc zero) low = refl
quad_get text p (suc (suc zero)) low = refl
quad_get text p (suc (suc (suc zero))) low = refl
quad_get text p (suc (suc (suc (suc j)))) low = absurd (omega arith)

pub written : (stack : ℕ → Option ℕ) (start q : ℕ) (bytes : List ℕ) → start ≤ q → q < start + length bytes →
    stack_with_bytes stack start bytes q ≡ slice_get bytes (q - start)
written stack start q bytes low high =
    let a = le-leb start q low in
    let b = lt-ltb q (start + length bytes) high in
    rw (a, b) refl

unwritten : (stack : ℕ → Option ℕ) (start q : ℕ) (bytes : List ℕ) → q < start →
    stack_with_bytes stack start bytes q ≡ stack q
unwritten stack start q bytes low = let a = lt-leb start q low in rw a refl

-- the first words of a text stand in the stack from a place on
abbrev pub HoldsFrom : ℕ → (ℕ → Option ℕ) → List ℕ → ℕ → Type 0
HoldsFrom base stack text k = (p : ℕ) → p < 4 * k → stack (base + p) ≡ Some (byte_at text p)

-- the same of a text that stands alone
abbrev pub HoldsText : (ℕ → Option ℕ) → List ℕ → ℕ → Type 0
HoldsText stack text k = HoldsFrom 256 stack text k

store_stack : (input : Input) (s : State) (z : ℤ) (n : ℕ) (w : ℤ) → s.registers 10 ≡ Address Region.Stack (pos STACK_SIZE) →
    pos 512 +ℤ z ≡ pos n →
    (state_after (Store Word 10 z (Immediate w)) input s).stack ≡ stack_with_bytes s.stack n (bytes_low_first 0 4 (immediate Bits64 w))
unfolding state_after
store_stack input s z n w frame at = rw (frame, at) refl

-- a state in which a text stands in the stack, beside what another one has
pub record HasText (input : Input) (added : List Header) (base : ℕ) (t s : State) (text : List ℕ) (k : ℕ) : Type 0 where
  pub ready : ReadyWith input added t
  pub kept : (r : ℕ) → t.registers r ≡ s.registers r
  pub holds : HoldsFrom base t.stack text k
  pub below : (q : ℕ) → q < base → t.stack q ≡ s.stack q

stored_holds : (base : ℕ) (text : List ℕ) → AreBytes text → (k : ℕ) (stack next : ℕ → Option ℕ) → HoldsFrom base stack text k →
    next ≡ stack_with_bytes stack (base + 4 * k) (bytes_low_first 0 4 (immediate Bits64 (word_at text (4 * k)))) →
    HoldsFrom base next text (suc k)
stored_holds base text bytes k stack next before is p low = ⊎_elim
    (λ old. ap (λ (f : ℕ → Option ℕ). f (base + p)) is
    ∙ unwritten stack (base + 4 * k) (base + p) (bytes_low_first 0 4 (immediate Bits64 (word_at text (4 * k)))) (omega arith)
    ∙ before p old)
    (λ new.
    let place : base + p - (base + 4 * k) ≡ p - 4 * k = omega arith in
    let sum : 4 * k + (p - 4 * k) ≡ p = omega arith in
    ap (λ (f : ℕ → Option ℕ). f (base + p)) is
    ∙ written stack (base + 4 * k) (base + p) (bytes_low_first 0 4 (immediate Bits64 (word_at text (4 * k)))) (omega arith)
    (omega arith)
    ∙ ap (λ (l : List ℕ). slice_get l (base + p - (base + 4 * k))) (stored_bytes text bytes (4 * k))
    ∙ ap (slice_get (quad text (4 * k))) place
    ∙ quad_get text (4 * k) (p - 4 * k) (omega arith)
    ∙ ap (λ (n : ℕ). Some (byte_at text n)) sum)
    (cases_lt p (4 * k))

module _ (input : Input) (added : List Header) (start : ℤ) (base : ℕ) (stands : StandsAt start base) (text : List ℕ)
    (bytes : AreBytes text) (s : State) where
  store_has : (t : State) (z w : ℤ) (k : ℕ) → HasText input added base t s text k → pos 512 +ℤ z ≡ pos (base + 4 * k) →
      w ≡ word_at text (4 * k) → HasText input added base (state_after (Store Word 10 z (Immediate w)) input t) s text (suc k)
  unfolding state_after
  store_has t z w k has at is =
      let stored = store_stack input t z (base + 4 * k) w has.ready.frame_is at in
      let next = stored ∙ ap (λ (v : ℤ). stack_with_bytes t.stack (base + 4 * k) (bytes_low_first 0 4 (immediate Bits64 v))) is in
      record {
        ready = assumption has.ready;
        kept = has.kept;
        holds = stored_holds base text bytes k t.stack _ has.holds next;
        below = λ q low. ap (λ (f : ℕ → Option ℕ). f q) stored
            ∙ unwritten t.stack (base + 4 * k) q (bytes_low_first 0 4 (immediate Bits64 w)) (omega arith) ∙ has.below q low;
      }

  pub words_has : (k : ℕ) → k ≤ 64 → HasText input added base s s text 0 →
      HasText input added base (run_list input (words_code start text k) s) s text k
  unfolding words_code
  words_has zero few has = has
  words_has (suc k) few has =
      let t = run_list input (words_code start text k) s in
      subst (λ (u : State). HasText input added base u s text (suc k))
      (sym (runs_both input (words_code start text k) (word_store start text k ∷ []) s))
      (store_has t (start +ℤ pos (4 * k)) (word_at text (4 * k)) k (words_has k (omega arith) has)
      (word_stands start base stands k) refl)

words_enough : (size : ℕ) → size ≤ 4 * word_count size
words_enough size = omega arith

words_few : (size : ℕ) → size ≤ 255 → word_count size ≤ 64
words_few size few = omega arith

-- a text in the stack
pub text_has : (input : Input) {added : List Header} {start : ℤ} {base : ℕ} → StandsAt start base → (text : List ℕ) →
    AreBytes text → length text ≤ 255 → (s : State) → ReadyWith input added s →
    HasText input added base (run_list input (text_code start text) s) s text (word_count (length text))
text_has input {added = added} {start = start} {base = base} stands text bytes few s ready =
    words_has input added start base stands text bytes s (word_count (length text)) (words_few (length text) few)
    (record { ready = ready; kept = λ r. refl; holds = λ p low. absurd (omega arith); below = λ q low. refl })

pub read_from : (byte : ℕ → Option ℕ) (place : ℕ) (text : List ℕ) →
    ((j x : ℕ) → slice_get text j ≡ Some x → byte (place + j) ≡ Some x) → bytes_from byte place (length text) ≡ text
read_from byte place [] h = refl
read_from byte place (x ∷ text) h =
    let zero : place + 0 ≡ place = omega arith in
    let first : byte place ≡ Some x = ap byte (sym zero) ∙ h 0 x refl in
    rw (
      first,
      read_from byte (place + 1) text (λ j y at.
          let same : place + 1 + j ≡ place + suc j = omega arith in ap byte same ∙ h (suc j) y at),
    ) refl

-- what a call reads where two registers name a text in the stack
pub text_read : (base : ℕ) (input : Input) (stack : ℕ → Option ℕ) (text : List ℕ) (n : ℕ) (address count : Value) →
    HoldsFrom base stack text (word_count (length text)) → address ≡ Address Region.Stack (pos base) → count ≡ Number n →
    n ≡ length text → bytes_read input stack (named_access Direction.Read address count) ≡ text
text_read base input stack text n address count holds x y same =
    rw (x, y, same) (read_from stack base text (λ j v at.
    let low = slice_get_within text j v at in
    let enough = words_enough (length text) in
    holds j (omega (arith, low, enough)) ∙ ap Some (get_or_from_slice_get text j v 0 at)))

-- ---- the flow of a text

pub text_leads : {start : ℤ} {base : ℕ} → StandsAt start base → (r0 r1 r2 r3 r4 r5 r6 r8 : Abs) (text : List ℕ) →
    length text ≤ 255 → (places : StackSet) →
    LeadsTo (text_code start text) (shape r0 r1 r2 r3 r4 r5 r6 r8 places)
    (shape r0 r1 r2 r3 r4 r5 r6 r8 (words_from base places (word_count (length text))))
text_leads {start = start} {base = base} stands r0 r1 r2 r3 r4 r5 r6 r8 text few places =
    words_lead r0 r1 r2 r3 r4 r5 r6 r8 start base stands text (word_count (length text)) places (words_few (length text) few)

pub text_set : (base : ℕ) (places : StackSet) (size q : ℕ) → base ≤ 256 → size ≤ 255 → base ≤ q → q < base + size →
    is_set (words_from base places (word_count size)) q ≡ true
text_set base places size q at few low high =
    let enough = words_enough size in
    words_set base places (word_count size) q at (words_few size few) low (omega (arith, enough))

pub bytes_of_text : (text : List ℕ) → IsText text → AreBytes text
bytes_of_text text is = each text is.bytes
  where
    each : (text : List ℕ) → AllByRecursion (λ byte. byte < 256) text → AreBytes text
    each [] all p = omega arith
    each (x ∷ text) all zero = all.0
    each (x ∷ text) all (suc p) = each text all.1 p
