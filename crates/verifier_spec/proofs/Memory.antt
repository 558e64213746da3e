-- Memory: the number that a load gives is in the range of its size, and after a store or a call the stack's bytes are
-- bytes, and what is known to be set is.
use Rattle.std.proofs.Common.{◌≡◌, ℕ, zero, suc, ◌+◌, ◌^◌, ◌<◌, ℤ, true, Option, Some, None, unwrap_or, refl, arith}
use Rattle.std.proofs.Common.{pow-suc, ◌-◌, ◌≤◌, ◌+ℤ◌, ◌≤ℤ◌, nat_le, nat_lt, ◌&&◌, List, if◌then◌else◌, length}
use Rattle.std.proofs.Common.{slice_get, IsSome, unsigned_abs, ◌⊎◌, ap, inl, inr, ⊎_elim, false, [], ◌∷◌, slice_index}
use Rattle.std.proofs.Common.{sym, ◌∙◌}
use Rattle.std.proofs.lemmas.Option.{unwrap_or-slice_get, same_Some, get_or_from_slice_get, slice_get_within}
use Rattle.machine_spec.specs.declared.instruction.{Region.Region, Size.Size, Extension.Extension, Source.Source}
use Rattle.machine_spec.specs.declared.summary.Direction.TheVariants.{Read, Write}
use Rattle.machine_spec.specs.declared.instruction.Region.TheVariants as region
use Rattle.machine_spec.specs.declared.instruction.Size.TheVariants as size
use Rattle.machine_spec.specs.declared.instruction.Extension.TheVariants.{Zero, Sign}
use Rattle.machine_spec.proofs.{Results.signed_bytes-lt, Slots.element}
use Rattle.machine_spec.specs.{Values.Number, Values.Address, Values.byte_count, Values.little_endian}
use Rattle.machine_spec.specs.{Values.extended_value, Values.Value, Values.Nothing, Values.operand, Traps.is_stack}
use Rattle.machine_spec.specs.Machine.{Input, State, access_at, byte_in, bytes_from, value_loaded, Access}
use Rattle.machine_spec.specs.Machine.{stack_with_bytes, stack_after_store, state_after, bytes_of, signature_of}
use Rattle.machine_spec.specs.Machine.{named_access, stack_after_fill, number_held, effect_of, key_bytes, value_bytes}
use Rattle.verifier_spec.specs.Kinds.{is_proper_kind, kind_at, is_number_kind, is_address_kind, range_of}
use Rattle.verifier_spec.specs.Transfer.{loaded_kind, with_stored, falls_to, with_room, with_argument}
use Rattle.verifier_spec.specs.{StandsFor.HasKind, StandsFor.IsInput, StandsFor.StandsFor, States.is_proper}
use Rattle.std.specs.{Ordering.int_eq, Int.bytes_low_first, List.list_any, List.fold}
use Rattle.std.proofs.lemmas.{Bool.cases_Bool, Bool.and_parts, Bool.or_parts, Bool.Decides.Decides-int_eq, Int.ints}
use Rattle.machine_spec.specs.declared.operation.Width.TheVariants.{Bits64}
use Rattle.machine_spec.specs.declared.instruction.Instruction.TheVariants.{Store}
use Rattle.verifier_spec.specs.declared.state.{Abs.Abs, StackSet.StackSet, Abstract.Abstract}
use Rattle.verifier_spec.specs.StackSets.{is_set, with_places}
use Rattle.verifier_spec.specs.Checks.{source_kind, reach_at, named_reach, may_be_wrong_room, is_wrong_argument_kind}
use Rattle.verifier_spec.proofs.{Narrowing.Propagates, Proper.with_set_proper, Safety.source_holds, Safety.room_kinds}
use Rattle.verifier_spec.proofs.StackSets.{places_only}
use Rattle.verifier_spec.proofs.Whole.{shift_le}
use Rattle.verifier_spec.proofs.Values.{IsNumber, IsAddress, at_number, at_address}
use Rattle.std.proofs.lemmas.List.Elements as elements
use Rattle.machine_spec.specs.declared.helper.Argument.TheVariants as argument
use Rattle.machine_spec.specs.declared.helper.{Argument.Argument, Helper.Helper}
use Rattle.machine_spec.proofs.Helpers.{AreBelow, HasFilled, stack_filled}

-- ---- loads

little_endian_below : (byte : ℕ → Option ℕ) → ((place : ℕ) → unwrap_or (byte place) 0 < 256) → (count place : ℕ) →
    little_endian (bytes_from byte place count) < 256 ^ count
little_endian_below byte h zero place = omega arith
little_endian_below byte h (suc count) place =
    let rest = little_endian_below byte h count (place + 1) in
    let here = h place in
    omega (arith, pow-suc 256 count)

stack_byte : (byte : Option ℕ) → ((b : ℕ) → byte ≡ Some b → b < 256) → unwrap_or byte 0 < 256
stack_byte None h = omega arith
stack_byte (Some b) h = h b refl

-- the byte at each place of a region is one
byte_below : (input : Input) (s : State) → IsInput input → ((place b : ℕ) → s.stack place ≡ Some b → b < 256) →
    (at : Region) (place : ℕ) → unwrap_or (byte_in input s.stack at place) 0 < 256
byte_below input s b t region.Stack place = stack_byte (s.stack place) (t place)
byte_below input s b t region.Key place = rw unwrap_or-slice_get (b.key place)
byte_below input s b t region.Value place = rw unwrap_or-slice_get (b.value place)

size_below : (size : Size) (n : ℕ) → n < 256 ^ byte_count size → n < 2 ^ 64
size_below size.Byte n h = omega arith
size_below size n h = omega arith

size_holds : (input : Input) (size : Size) (extension : Extension) (n : ℕ) → n < 256 ^ byte_count size →
    HasKind input (loaded_kind size extension) (extended_value extension size (Number n))
size_holds input size Sign n h =
    let small = signed_bytes-lt size n (size_below size n h) in (omega arith, omega arith)
size_holds input size.Byte Zero n h = (omega arith, omega arith)
size_holds input size extension n h = (omega arith, omega arith)

pub loaded_holds : (input : Input) (s : State) (size : Size) (extension : Extension) (offset : ℤ) (at : Region)
    (from : ℤ) → IsInput input → ((place b : ℕ) → s.stack place ≡ Some b → b < 256) →
    HasKind input (loaded_kind size extension) (extended_value extension size
    (value_loaded input s.stack (access_at Read (Address at from) offset size)))
loaded_holds input s size extension offset at from b t =
    size_holds input size extension _ (little_endian_below (byte_in input s.stack at) (byte_below input s b t at)
    (byte_count size) _)

pub loaded_proper : (size : Size) (extension : Extension) → is_proper_kind (loaded_kind size extension) ≡ true
loaded_proper size Sign = refl
loaded_proper size.Byte Zero = refl
loaded_proper size extension = refl

-- ---- the bytes that a store writes

length-low_first : (i count n : ℕ) → length (bytes_low_first i count n) ≡ count
length-low_first i zero n = refl
length-low_first i (suc count) n = ap suc (length-low_first (suc i) count n)

low_first_below : (i count n k b : ℕ) → slice_get (bytes_low_first i count n) k ≡ Some b → b < 256
low_first_below i zero n k b e = cc
low_first_below zero (suc count) n zero b e = omega (arith, same_Some _ b e)
low_first_below (suc i) (suc count) n zero b e = omega (arith, same_Some _ b e)
low_first_below i (suc count) n (suc k) b e = low_first_below (suc i) count n k b e

module _ (stack : ℕ → Option ℕ) (start : ℕ) (bytes : List ℕ) (place : ℕ) where
  -- a written byte is set, and a byte that is set stays so
  pub written_set : IsSome (stack place) ⊎ ((start ≤ place) × (place < start + length bytes)) →
      IsSome (stack_with_bytes stack start bytes place)
  written_set either = elim (cases_Bool (nat_le start place && nat_lt place (start + length bytes))) [
    | inl inside ↦
        let there = element bytes (place - start) (grind arith) in
        rw (inside, there.1)
    | inr outside ↦
        rw outside (⊎_elim (λ set. set) (λ among. absurd (grind arith)) either)
  ]

  pub written_below : ((b : ℕ) → stack place ≡ Some b → b < 256) → ((k b : ℕ) → slice_get bytes k ≡ Some b → b < 256) →
      (b : ℕ) → stack_with_bytes stack start bytes place ≡ Some b → b < 256
  written_below old new b e = elim (cases_Bool (nat_le start place && nat_lt place (start + length bytes))) [
    | inl inside ↦ new (place - start) b (cc)
    | inr outside ↦ old b (cc)
  ]

-- the stack's bytes are bytes after a store
pub stored_below : (stack : ℕ → Option ℕ) (access : Option Access) (value : Value) (place : ℕ) →
    ((b : ℕ) → stack place ≡ Some b → b < 256) → (b : ℕ) → stack_after_store stack access value place ≡ Some b → b < 256
stored_below stack None value place old b e = old b e
stored_below stack (Some a) Nothing place old b e = old b e
stored_below stack (Some a) (Address at offset) place old b e = old b e
stored_below stack (Some a) (Number n) place old b e =
    written_below stack (unsigned_abs a.start) (bytes_low_first 0 a.size n) place old (low_first_below 0 a.size n) b e

-- ---- what is known of the stack after a store

abbrev pub AreSet : StackSet → (ℕ → Option ℕ) → Type 0
AreSet set stack = (place : ℕ) → place < 512 → is_set set place ≡ true → IsSome (stack place)

-- bytes written at an address that is known to lie from lo to hi, and is from, of which there are as many as become set
pub written_at : (set : StackSet) (stack : ℕ → Option ℕ) (at : Region) (lo hi from : ℤ) (count : ℕ) (bytes : List ℕ) →
    lo ≤ℤ from → from ≤ℤ hi → count ≤ length bytes → AreSet set stack →
    AreSet (if is_stack at && int_eq lo hi then with_places set (unsigned_abs lo) count else set)
    (stack_with_bytes stack (unsigned_abs from) bytes)
written_at set stack at lo hi from count bytes low high long holds place inside h =
    elim (cases_Bool (is_stack at && int_eq lo hi)) [
      | inl one ↦
          let same : lo ≡ hi = (Decides-int_eq lo hi).0 (and_parts (is_stack at) (int_eq lo hi) one).1 in
          let is : lo ≡ from = omega (arith, ints) in
          let start : unsigned_abs lo ≡ unsigned_abs from = cc in
          written_set stack (unsigned_abs from) bytes place (⊎_elim (λ before. inl (holds place inside before))
          (λ among. inr (omega arith, omega arith))
          (places_only set (unsigned_abs lo) count place inside (rw one at h)))
      | inr many ↦ written_set stack (unsigned_abs from) bytes place (inl (holds place inside (rw many at h)))
    ]

-- of an address and a number that are known
stored_known : (a : Abstract) (s : State) (kind known : Abs) (word value : Value) (offset : ℤ) (size : Size) →
    IsAddress kind word → IsNumber a known value → AreSet a.set s.stack →
    AreSet (with_stored a.set (reach_at Write kind offset size))
    (stack_after_store s.stack (access_at Write word offset size) value)
stored_known a s kind known word value offset size x n holds =
    let long = length-low_first 0 (byte_count size) n.n in
    rw (x.kind_is, x.is, n.is) (written_at a.set s.stack x.at (x.lo +ℤ offset) (x.hi +ℤ offset) (x.offset +ℤ offset)
    (byte_count size) (bytes_low_first 0 (byte_count size) n.n) (shift_le _ _ _ x.low) (shift_le _ _ _ x.high)
    (omega arith) holds)

-- a store sets bytes of the stack
pub store_propagates : (input : Input) (a : Abstract) (s : State) (size : Size) (base : ℕ) (offset : ℤ)
    (source : Source) → StandsFor input a s → is_proper a ≡ true → is_address_kind (kind_at a base) ≡ true →
    is_number_kind (source_kind a Bits64 source) ≡ true →
    Propagates input (falls_to (Store size base offset source) a) (state_after (Store size base offset source) input s)
unfolding falls_to state_after
store_propagates input a s size base offset source h p address number =
    let x = at_address input (kind_at a base) (s.registers base) address (h.registers base) in
    let n = at_number input a (source_kind a Bits64 source) (operand Bits64 s.registers source) h.lengths number
    (source_holds input a s Bits64 source h) in
    let set = with_stored a.set (reach_at Write (kind_at a base) offset size) in
    record {
      to = record a { set = set };
      is = refl;
      stands = assumption (
        h,
        (λ (place : ℕ). stored_below s.stack (access_at Write (s.registers base) offset size)
            (operand Bits64 s.registers source) place (h.bytes place)),
        stored_known a s (kind_at a base) (source_kind a Bits64 source) (s.registers base)
            (operand Bits64 s.registers source) offset size x n h.set,
      );
      proper = with_set_proper a set p;
    }

-- ---- the bytes that a call writes

bytes_are : (bytes : List ℕ) → ((at : ℕ) → slice_index bytes at < 256) → AreBelow bytes
bytes_are bytes h = elements.All-from_get_or (λ b. b < 256) bytes 0 (λ i inside. h i)

-- a helper fills the room of its arguments with bytes
pub called_fills : (input : Input) (s : State) (helper : Helper) → IsInput input →
    HasFilled s s.stack (signature_of helper).arguments (effect_of helper input s).stack
called_fills input s helper given =
    stack_filled helper input s (bytes_are (bytes_of input.given.key) given.key)
    (bytes_are (bytes_of input.given.value) given.value)
    (λ position. bytes_are (key_bytes (slice_get input.given.headers position)) (given.headers.keys position))
    (λ position. bytes_are (value_bytes (slice_get input.given.headers position)) (given.headers.values position))

element_below : (bytes : List ℕ) → AreBelow bytes → (k b : ℕ) → slice_get bytes k ≡ Some b → b < 256
element_below bytes below k b e =
    rw (← get_or_from_slice_get bytes k b b e) (below k b (slice_get_within _ _ _ e))

filled_byte : (stack : ℕ → Option ℕ) (access : Option Access) (bytes : List ℕ) (place : ℕ) → AreBelow bytes →
    ((b : ℕ) → stack place ≡ Some b → b < 256) → (b : ℕ) → stack_after_fill stack access bytes place ≡ Some b → b < 256
filled_byte stack None bytes place below old = old
filled_byte stack (Some a) bytes place below old =
    written_below stack (unsigned_abs a.start) bytes place old (element_below bytes below)

-- the stack's bytes are bytes after a call
pub filled_below : (s : State) (xs : List Argument) (stack next : ℕ → Option ℕ) → HasFilled s stack xs next →
    (place : ℕ) → ((b : ℕ) → stack place ≡ Some b → b < 256) → (b : ℕ) → next place ≡ Some b → b < 256
filled_below s [] stack next f place old b e = old b (ap (λ t. t place) (sym f) ∙ e)
filled_below s (argument.Room address count ∷ xs) stack next f place old b e =
    let access = named_access Write (s.registers address) (s.registers count) in
    filled_below s xs (stack_after_fill stack access f.0) next f.3 place (filled_byte stack access f.0 place f.2 old) b
    e
filled_below s (x ∷ xs) stack next f place old b e = filled_below s xs stack next f place old b e

-- ---- what is known of the stack after a call

module _ (input : Input) (a : Abstract) (s : State) (h : StandsFor input a s) where
  -- of an address and a number that are known
  known_at : (set : StackSet) (stack : ℕ → Option ℕ) (j k : Abs) (address count : Value) (bytes : List ℕ) →
      IsAddress j address → IsNumber a k count → length bytes ≡ number_held count → AreSet set stack →
      AreSet (with_room set j (range_of a k)) (stack_after_fill stack (named_access Write address count) bytes)
  known_at set stack j k address count bytes x n long holds =
      let long' : length bytes ≡ n.n = long ∙ ap number_held n.is in
      rw (x.kind_is, x.is, n.ranged, n.is) (written_at set stack x.at x.lo x.hi x.offset n.range.low bytes x.low x.high
      (omega arith) holds)

  known_room : (set : StackSet) (stack : ℕ → Option ℕ) (j k : Abs) (address count : Value) (bytes : List ℕ) →
      HasKind input j address → HasKind input k count →
      may_be_wrong_room (named_reach Write j (range_of a k)) (range_of a k) ≡ false → length bytes ≡ number_held count →
      AreSet set stack → AreSet (with_room set j (range_of a k))
      (stack_after_fill stack (named_access Write address count) bytes)
  known_room set stack j k address count bytes hj hk c long holds =
      let kinds = room_kinds a j k c in
      known_at set stack j k address count bytes (at_address input _ _ kinds.0 hj)
      (at_number input a _ _ h.lengths kinds.1 hk) long holds

  -- what is known to be set after a call is
  pub filled_holds : (xs : List Argument) (set : StackSet) (stack next : ℕ → Option ℕ) →
      list_any (is_wrong_argument_kind a) xs ≡ false → HasFilled s stack xs next → AreSet set stack →
      AreSet (fold (with_argument a) set xs) next
  filled_holds [] set stack next c f holds place inside is =
      rw f (holds place inside is)
  filled_holds (argument.Room address count ∷ xs) set stack next c f holds place inside is =
      let p = or_parts (is_wrong_argument_kind a (argument.Room address count)) (list_any (is_wrong_argument_kind a) xs)
      c in
      let room = known_room set stack _ _ (s.registers address) (s.registers count)
      f.0 (h.registers address) (h.registers count) p.0 f.1 holds in
      filled_holds xs (with_argument a set (argument.Room address count))
      (stack_after_fill stack (named_access Write (s.registers address) (s.registers count)) f.0) next p.1 f.3
      room place inside is
  filled_holds (x ∷ xs) set stack next c f holds place inside is =
      filled_holds xs set stack next
      (or_parts (is_wrong_argument_kind a x) (list_any (is_wrong_argument_kind a) xs) c).1 f holds place inside is
