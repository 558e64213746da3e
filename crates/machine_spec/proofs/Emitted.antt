-- The emissions of a run: no more than there may be, and each within the limits of a record.
use Rattle.std.proofs.Common.{◌≡◌, ℕ, zero, suc, ◌+◌, ◌<◌, ◌≤◌, Bool, true, false, ℤ, if◌then◌else◌, List, [], ◌∷◌}
use Rattle.std.proofs.Common.{length, length-append, Option, Some, None, refl, sym, subst, ⊎_elim, inl, inr, ◌⊎◌, arith}
use Rattle.std.proofs.Common.{◌==◌, ◌++◌, ◌||◌, not, nat_le, nat_lt, unsigned_abs, All, take, drop}
use Rattle.std.specs.{List.list_any, List.AllByRecursion, Str.is_utf8}
use Rattle.std.proofs.lemmas.Bool.{or_parts, and_parts, not-false, leb-true, leb-false, ltb-false, cases_Bool}
use Rattle.std.proofs.lemmas.Bool.{cond-true, cond-false, cond_both, eqb-true, false≢true}
use Rattle.std.proofs.lemmas.{List.length-take, List.length-drop, Str.IsUtf8-from_is_utf8}
use Rattle.std.proofs.lemmas.List.Elements as elements
use Rattle.wire_spec.specs.declared.limits.TheConstants.{MAX_KEY, MAX_VALUE, MAX_HEADERS, MAX_HEADER_KEY}
use Rattle.wire_spec.specs.declared.limits.TheConstants.{MAX_HEADER_VALUE}
use Rattle.wire_spec.specs.{declared.record.Header.Header, declared.record.Record.Record, RecordSpelling.HeaderFits}
use Rattle.machine_spec.specs.{declared.limits.TheConstants.STACK_SIZE, declared.limits.TheConstants.MAX_EMISSIONS}
use Rattle.machine_spec.specs.{declared.instruction.Region.Region, declared.instruction.Instruction.Instruction}
use Rattle.machine_spec.specs.{declared.helper.Helper.Helper, declared.outcome.Emission.Emission, Summaries.summary_of}
use Rattle.machine_spec.specs.{declared.summary.Direction.TheVariants.Read, Meaning.Reaches}
use Rattle.machine_spec.specs.declared.instruction.Region.TheVariants as region
use Rattle.machine_spec.specs.declared.instruction.Instruction.TheVariants.{Call}
use Rattle.machine_spec.specs.declared.helper.Helper.TheVariants.{EmitRecord, EmitValue, Emit, EmitNull, EmitPart}
use Rattle.machine_spec.specs.declared.helper.Helper.TheVariants.{EmitChanged, AddHeader}
use Rattle.machine_spec.specs.Image.{Program}
use Rattle.machine_spec.specs.Values.{Value, Number, Address}
use Rattle.machine_spec.specs.Machine.{Yield, no_yield, with_headers, header_of, header_refusal, header_added}
use Rattle.machine_spec.specs.Machine.{Input, State, Access, bytes_of, length_of, byte_in, bytes_from, bytes_read}
use Rattle.machine_spec.specs.Machine.{bytes_at, named_access, signature_of, helper_of, number_held, emit_code}
use Rattle.machine_spec.specs.Machine.{emitted_after, whole_record, bare_record, effect_of, state_after_call}
use Rattle.machine_spec.specs.Machine.{state_after, cut_record, changed_record, emitted_unless, cut_refusal}
use Rattle.machine_spec.specs.Machine.{change_refusal}
use Rattle.machine_spec.specs.Machine.{changed_bytes, has_part, number_in, part_named}
use Rattle.machine_spec.specs.Traps.{is_in_region, names_wrongly, is_wrong_argument, calls_wrongly, arguments_of}
use Rattle.machine_spec.specs.Parts.{part_numbered}
use Rattle.machine_spec.proofs.{Free.is_free, Helpers.names_parts, PartAnswers.IsShort, PartAnswers.part_short}

-- The headers of an emission are the record's or none, and then those that the run had added. They are no more than
-- there may be, and those that were added are within the limits of a header.
pub record HasHeaders (given : Record) (headers : List Header) : Type 0 where
  pub own : List Header
  pub own_is : (own ≡ given.headers) ⊎ (own ≡ [])
  pub added : List Header
  pub are : headers ≡ own ++ added
  pub few : length headers ≤ MAX_HEADERS
  pub fit : AllByRecursion HeaderFits added

-- An emission is within the limits of a record: it goes to an output partition, and its key, its value and its headers
-- are short enough.
pub record IsEmission (input : Input) (emission : Emission) : Type 0 where
  pub out : emission.out < input.place.outputs
  pub key : length (bytes_of emission.key) ≤ MAX_KEY
  pub value : length (bytes_of emission.value) ≤ MAX_VALUE
  pub headers : HasHeaders input.given emission.headers

-- So are all of a yield, and there are no more than there may be. The added headers are within the limits of a header,
-- and there is room for them beside the record's own.
pub record AreEmissions (input : Input) (emitted : Yield) : Type 0 where
  pub each : All (IsEmission input) emitted.emissions
  pub few : length emitted.emissions ≤ MAX_EMISSIONS
  pub added : AllByRecursion HeaderFits emitted.added
  pub room : length input.given.headers + length emitted.added ≤ MAX_HEADERS

-- so many headers are the record's or none
own_few : (given : Record) (own : List Header) → (own ≡ given.headers) ⊎ (own ≡ []) →
    length own ≤ length given.headers
own_few given own is = ⊎_elim (λ same. rw same (omega arith)) (λ none. rw none (omega arith)) is

-- what holds of each of two lists holds of each of both
pub all_of_both : {A : Type 0} (P : A → Type 0) (xs ys : List A) → AllByRecursion P xs → AllByRecursion P ys →
    AllByRecursion P (xs ++ ys)
all_of_both P [] ys first second = second
all_of_both P (x ∷ xs) ys first second = (first.0, all_of_both P xs ys first.1 second)

-- ---- an emission that is added

abbrev code_by : Bool → Bool → Bool → ℕ
code_by a b c = if a then 1 else if b then 2 else if c then 3 else 0

no_refusal : (a b c : Bool) → code_by a b c ≡ 0 → (a ≡ false) × (b ≡ false) × (c ≡ false)
no_refusal false false false e = (refl, refl, refl)
no_refusal _ _ _ e = absurd (omega arith)

one_emission : (P : Emission → Type 0) (x : Emission) → P x → All P (x ∷ [])
one_emission P x p zero d h = p
one_emission P x p (suc k) d h = absurd (omega arith)

-- the number of bytes that are taken
pub length_from : (byte : ℕ → Option ℕ) (place count : ℕ) → length (bytes_from byte place count) ≡ count
length_from byte place zero = refl
length_from byte place (suc count) = let rest = length_from byte (place + 1) count in omega (arith, rest)

within_is_few : (start : ℤ) (size len : ℕ) → is_in_region start size len ≡ true → len ≤ MAX_VALUE → size ≤ MAX_VALUE
within_is_few start size len inside few = grind (arith, leb-true, and_parts)

abbrev change_by : Bool → Bool → ℕ
change_by has long = if has then (if long then 5 else 0) else 4

no_change_refusal : (has long : Bool) → change_by has long ≡ 0 → long ≡ false
no_change_refusal true false e = refl
no_change_refusal _ _ e = absurd (omega arith)

-- a change that is not refused gives no longer value than there may be
change_fits : (value : List ℕ) (place count : ℕ) (others : List ℕ) →
    (change_refusal value place count others == 0) ≡ true → length (changed_bytes value place count others) ≤ MAX_VALUE
change_fits value place count others none =
    ltb-false MAX_VALUE (length (changed_bytes value place count others))
    (no_change_refusal (has_part value place count)
    (nat_lt MAX_VALUE (length (changed_bytes value place count others))) (eqb-true _ 0 none))

cut_fits : (part : List ℕ) (place count : ℕ) → length part ≤ MAX_VALUE →
    length (take count (drop place part)) ≤ MAX_VALUE
cut_fits part place count few =
    let taken = length-take count (drop place part) in
    let dropped = length-drop place part in omega (arith, taken, dropped, few)

module _ (input : Input) (short : IsShort input.given) where
  emitted_one : (emitted : Yield) (emission : Emission) → length (bytes_of emission.value) ≤ MAX_VALUE →
      (emission.headers ≡ input.given.headers) ⊎ (emission.headers ≡ []) → AreEmissions input emitted →
      AreEmissions input (emitted_after input emitted emission)
  emitted_one emitted emission few headers are = ⊎_elim
      (λ added.
      let fits = no_refusal (nat_le input.place.outputs emission.out) (nat_lt MAX_KEY (length (bytes_of emission.key)))
      (nat_le MAX_EMISSIONS (length emitted.emissions)) (eqb-true _ 0 added) in
      let room : length emitted.emissions < MAX_EMISSIONS =
      leb-false MAX_EMISSIONS (length emitted.emissions) fits.2 in
      let longer = with_headers emitted.added emission in
      let is : IsEmission input longer =
      record {
        out = leb-false input.place.outputs emission.out fits.0;
        key = ltb-false MAX_KEY (length (bytes_of emission.key)) fits.1;
        value = few;
        headers = record {
          own = emission.headers;
          own_is = headers;
          added = emitted.added;
          are = refl;
          few = let all = length-append emission.headers emitted.added in
              let own = own_few input.given emission.headers headers in omega (arith, all, own, are.room);
          fit = are.added;
        };
      } in
      subst (AreEmissions input) (sym (cond-true _ _ _ added))
      (record {
        each = elements.All-append (IsEmission input) emitted.emissions (longer ∷ []) are.each
            (one_emission (IsEmission input) longer is);
        few = let more = length-append emitted.emissions (longer ∷ []) in omega (arith, more);
        added = are.added;
        room = are.room;
      }))
      (λ refused. subst (AreEmissions input) (sym (cond-false _ _ _ refused)) are)
      (cases_Bool (emit_code input emitted emission == 0))

  -- so it is where the emission may be refused
  emitted_or_not : (emitted : Yield) (refusal : ℕ) (emission : Emission) →
      ((refusal == 0) ≡ true → length (bytes_of emission.value) ≤ MAX_VALUE) →
      (emission.headers ≡ input.given.headers) ⊎ (emission.headers ≡ []) → AreEmissions input emitted →
      AreEmissions input (emitted_unless input emitted refusal emission)
  emitted_or_not emitted refusal emission few headers are =
      cond_both (refusal == 0) (emitted_after input emitted emission) emitted (AreEmissions input)
      (λ none. emitted_one emitted emission (few none) headers are) (λ refused. are)

  -- ---- a header that is added

  added_one : (emitted : Yield) (key value : List ℕ) → AreEmissions input emitted →
      AreEmissions input (header_added input.given emitted key value)
  added_one emitted key value are = ⊎_elim
      (λ added.
      let fits = no_refusal (nat_le MAX_HEADERS (length input.given.headers + length emitted.added))
      (nat_lt MAX_HEADER_KEY (length key) || not (is_utf8 key)) (nat_lt MAX_HEADER_VALUE (length value))
      (eqb-true _ 0 added) in
      let text = or_parts (nat_lt MAX_HEADER_KEY (length key)) (not (is_utf8 key)) fits.1 in
      let room = leb-false MAX_HEADERS (length input.given.headers + length emitted.added) fits.0 in
      let one : HeaderFits (header_of key value) =
      record {
        key = ltb-false MAX_HEADER_KEY (length key) text.0;
        text = IsUtf8-from_is_utf8 key (not-false _ text.1);
        value = ltb-false MAX_HEADER_VALUE (length value) fits.2;
      } in
      subst (AreEmissions input) (sym (cond-true _ _ _ added))
      (record {
        each = are.each;
        few = are.few;
        added = all_of_both HeaderFits emitted.added (header_of key value ∷ []) are.added (one, tt);
        room = let more = length-append emitted.added (header_of key value ∷ []) in omega (arith, more, room);
      }))
      (λ refused. subst (AreEmissions input) (sym (cond-false _ _ _ refused)) are)
      (cases_Bool (header_refusal input.given emitted key value == 0))

  -- ---- bytes named by address

  -- no region is longer than a value may be
  few_bytes : (at : Region) → length_of input at ≤ MAX_VALUE
  few_bytes region.Stack = omega arith
  few_bytes region.Key = let key = short.key in omega (arith, key)
  few_bytes region.Value = short.value

  abbrev read_from : Region → ℤ → ℕ → Access
  read_from at start n = record { direction = Read; region = at; start = start; size = n }

  within_few : (stack : ℕ → Option ℕ) (at : Region) (start : ℤ) (n : ℕ) →
      names_wrongly input stack (Some (read_from at start n)) ≡ false → n ≤ MAX_VALUE
  within_few stack region.Stack start n h =
      let parts = names_parts input stack (read_from region.Stack start n) h in
      within_is_few start n STACK_SIZE (not-false _ parts.1) (omega arith)
  within_few stack at start n h =
      let parts = names_parts input stack (read_from at start n) h in
      within_is_few start n (length_of input at) (not-false _ parts.0) (few_bytes at)

  named_few : (stack : ℕ → Option ℕ) (address count : Value) →
      names_wrongly input stack (named_access Read address count) ≡ false →
      length (bytes_read input stack (named_access Read address count)) ≤ MAX_VALUE
  named_few stack (Address at start) (Number n) h =
      subst (λ k. k ≤ MAX_VALUE) (sym (length_from (byte_in input stack at) (unsigned_abs start) n))
      (within_few stack at start n h)
  named_few stack _ _ h = absurd (false≢true (sym h))

  -- ---- a call, an instruction and a run

  effect_emits : (helper : Helper) (s : State) →
      list_any (is_wrong_argument input s) (signature_of helper).arguments ≡ false → AreEmissions input s.emitted →
      AreEmissions input (effect_of helper input s).emitted
  effect_emits EmitRecord s right are =
      emitted_one s.emitted (whole_record input (number_held (s.registers 1))) short.value (inl refl) are
  effect_emits EmitValue s right are =
      let bytes = named_few s.stack (s.registers 2) (s.registers 3) (or_parts _ _ (or_parts _ _ right).1).0 in
      emitted_one s.emitted (bare_record (number_held (s.registers 1)) input.given.key (Some (bytes_at input s 2 3)))
      bytes (inr refl) are
  effect_emits Emit s right are =
      let bytes = named_few s.stack (s.registers 4) (s.registers 5)
      (or_parts _ _ (or_parts _ _ (or_parts _ _ right).1).1).0 in
      emitted_one s.emitted (bare_record (number_held (s.registers 1)) (Some (bytes_at input s 2 3))
      (Some (bytes_at input s 4 5))) bytes (inr refl) are
  effect_emits EmitNull s right are =
      emitted_one s.emitted (bare_record (number_held (s.registers 1)) input.given.key None) (omega arith) (inr refl)
      are
  effect_emits EmitPart s right are =
      let part = part_named input s 2 in
      emitted_or_not s.emitted (cut_refusal part (number_in s 3) (number_in s 4))
      (cut_record input (number_in s 1) part (number_in s 3) (number_in s 4))
      (λ none. cut_fits part (number_in s 3) (number_in s 4)
      (part_short input.given short (part_numbered (number_in s 2)))) (inl refl) are
  effect_emits EmitChanged s right are =
      let value = bytes_of input.given.value in
      let others = bytes_at input s 4 5 in
      emitted_or_not s.emitted (change_refusal value (number_in s 2) (number_in s 3) others)
      (changed_record input (number_in s 1) (number_in s 2) (number_in s 3) others)
      (λ none. change_fits value (number_in s 2) (number_in s 3) others none) (inl refl) are
  effect_emits AddHeader s right are = added_one s.emitted (bytes_at input s 1 2) (bytes_at input s 3 4) are
  effect_emits _ s right are = are

  call_emits : (helper : Option Helper) (s : State) →
      list_any (is_wrong_argument input s) (arguments_of helper) ≡ false → AreEmissions input s.emitted →
      AreEmissions input (state_after_call helper input s).emitted
  call_emits None s right are = are
  call_emits (Some helper) s right are = effect_emits helper s right are

  instruction_emits : (i : Instruction) (s : State) → calls_wrongly input (summary_of i).call s ≡ false →
      AreEmissions input s.emitted → AreEmissions input (state_after i input s).emitted
  unfolding state_after
  instruction_emits (Call number) s right are = call_emits (helper_of number) s right are
  instruction_emits _ s right are = are

  short_room : length input.given.headers + length no_yield.added ≤ MAX_HEADERS
  short_room = let few = short.headers.few in omega (arith, few)

  -- the emissions of a run are within the limits at each state on its way
  pub run_emits : (program : Program) (n : ℕ) (s : State) → Reaches program input n s → AreEmissions input s.emitted
  run_emits program zero s reached =
      rw reached (record { each = λ k d h. absurd (omega arith); few = omega arith; added = tt; room = short_room })
  run_emits program (suc n) s reached =
      let step = reached.2 in
      let right = (is_free program input reached.0 step.instruction step.no_trap step.form).argument in
      rw step.next_is
      (instruction_emits step.instruction reached.0 right (run_emits program n reached.0 reached.1))
