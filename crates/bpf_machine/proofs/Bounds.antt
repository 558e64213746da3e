-- How far a run can have come: the slot grows with each step, and an address moves by less than 2^63 and 1 in each.
use Rattle.std.proofs.Common.{◌≡◌, ◌≢◌, ℕ, zero, suc, ◌+◌, ◌*◌, ◌^◌, ◌<◌, ◌≤◌, Bool, true, false, not, ◌&&◌}
use Rattle.std.proofs.Common.{if◌then◌else◌, nat_lt, nat_le, ◌==◌, List, [], ◌∷◌, Option, Some, None, refl, sym}
use Rattle.std.proofs.Common.{⊎_elim, arith, ℤ, pos, negsuc, ◌+ℤ◌, neg_ℤ, is_none, unsigned_abs}
use Rattle.std.specs.List.{list_any}
use Rattle.std.proofs.lemmas.Int.{ints}
use Rattle.std.proofs.lemmas.Bool.{cond_both, eqb-true, ltb-true, false≢true, not-false, or_cases}
use Rattle.machine_spec.specs.declared.{operation.Width.Width, operation.Operation.Operation, operation.Change.Change}
use Rattle.machine_spec.specs.declared.{instruction.Region.Region, instruction.Size.Size}
use Rattle.machine_spec.specs.declared.{instruction.Extension.Extension, helper.Helper.Helper}
use Rattle.machine_spec.specs.declared.{instruction.Source.Source, instruction.Instruction.Instruction}
use Rattle.machine_spec.specs.declared.operation.Width.TheVariants.{Bits32, Bits64}
use Rattle.machine_spec.specs.declared.instruction.Extension.TheVariants as extension
use Rattle.machine_spec.specs.declared.instruction.Source.TheVariants.{Register, Immediate}
use Rattle.machine_spec.specs.declared.instruction.Instruction.TheVariants.{Move, Compute, Load, Unary, JumpIf}
use Rattle.machine_spec.specs.declared.instruction.Instruction.TheVariants.{Jump, Wide, Call, Exit}
use Rattle.machine_spec.specs.{Arithmetic.signed, Traps.is_valid_target, Meaning.Step, Meaning.Reaches}
use Rattle.machine_spec.specs.Values.{Value, Nothing, Number, Address, Registers, operand, moved_value, moves_address}
use Rattle.machine_spec.specs.Values.{is_subtraction, displacement, result_of, changed_value, is_taken, extended_value}
use Rattle.machine_spec.specs.Image.{Program, helpers_of, slot_count, slot_after, first_slots_from, first_slots}
use Rattle.machine_spec.specs.Image.{is_first_slot, jump_target, distance_of}
use Rattle.machine_spec.specs.Machine.{Input, State, Access, with_register, entry_register, value_loaded, helper_of}
use Rattle.machine_spec.specs.Machine.{effect_of, after_call, state_after_call, slot_after_jump, state_after}
use Rattle.machine_spec.proofs.{Helpers.is_helper, Free.IsFree, Free.is_free}
use Rattle.bpf_machine.specs.Views.{IsNear}
use Rattle.bpf_machine.proofs.Rows.{slot_within}

-- ---- the slot

-- a first slot lies in the image
first_within : (image : List ℕ) (steps slot target : ℕ) →
    list_any (λ first. first == target) (first_slots_from image steps slot) ≡ true → target < slot_count image
first_within image zero slot target e = absurd (false≢true e)
first_within image (suc steps) slot target e =
    cond_both (nat_lt slot (slot_count image)) (slot ∷ first_slots_from image steps (slot_after image slot)) []
    (λ slots. list_any (λ first. first == target) slots ≡ true → target < slot_count image)
    (λ is here. ⊎_elim (λ same. omega (arith, eqb-true slot target same, ltb-true slot (slot_count image) is))
    (first_within image steps (slot_after image slot) target) (or_cases (slot == target) _ here))
    (λ is here. absurd (false≢true here)) e

is_first_within : (image : List ℕ) (target : ℕ) → is_first_slot image target ≡ true → target < slot_count image
unfolding first_slots
is_first_within image target e = first_within image (slot_count image) 0 target e

-- where a taken jump leads
lands : (program : Program) (slot : ℕ) (offset : ℤ) → is_valid_target program (jump_target slot offset) ≡ true →
    (slot < slot_after_jump slot offset) × (slot_after_jump slot offset < slot_count program.image)
lands program slot (pos distance) e = (omega arith, is_first_within program.image (slot + 1 + distance) e)
lands program slot (negsuc distance) e = absurd (false≢true e)

-- each step of the machine goes further on, and at most to one slot past the end
module _ (program : Program) (input : Input) (s : State) (within : s.slot < slot_count program.image) where
  goes_one : (s.slot < s.slot + 1) × (s.slot + 1 ≤ slot_count program.image + 1)
  goes_one = (omega arith, omega arith)

  goes_landing : (offset : ℤ) → is_valid_target program (jump_target s.slot offset) ≡ true →
      (s.slot < slot_after_jump s.slot offset) × (slot_after_jump s.slot offset ≤ slot_count program.image + 1)
  goes_landing offset e = let l = lands program s.slot offset e in (l.0, omega (arith, l.1))

  goes_if : (b : Bool) (offset : ℤ) → (b && not (is_valid_target program (jump_target s.slot offset))) ≡ false →
      (s.slot < (if b then slot_after_jump s.slot offset else s.slot + 1))
      × ((if b then slot_after_jump s.slot offset else s.slot + 1) ≤ slot_count program.image + 1)
  goes_if true offset e = goes_landing offset (not-false _ e)
  goes_if false offset e = goes_one

  goes_called : (helper : Option Helper) → is_none helper ≡ false →
      (s.slot < (state_after_call helper input s).slot)
      × ((state_after_call helper input s).slot ≤ slot_count program.image + 1)
  goes_called (Some helper) e = goes_one
  goes_called None e = absurd (false≢true (sym e))

  pub goes_further : (i : Instruction) → i ≢ Exit → IsFree program input i s →
      (s.slot < (state_after i input s).slot) × ((state_after i input s).slot ≤ slot_count program.image + 1)
  unfolding state_after
  goes_further (JumpIf width test dst source offset) other free =
      goes_if (is_taken width test (s.registers dst) (operand width s.registers source)) offset free.jump
  goes_further (Jump distance) other free = goes_landing (distance_of distance) (not-false _ free.jump)
  goes_further (Wide a b) other free = (omega arith, omega arith)
  goes_further (Call number) other free = goes_called (helper_of number)
      (is_helper (helpers_of program.table) number free.helper)
  goes_further Exit other free = absurd (other refl)
  goes_further _ other free = goes_one

-- ---- addresses

-- an address is at most so far from its region
abbrev pub IsNearBy : ℕ → Value → Type 0
IsNearBy bound Nothing = Unit {0}
IsNearBy bound (Number _) = Unit {0}
IsNearBy bound (Address _ at) = unsigned_abs at ≤ bound

further : (b c : ℕ) (value : Value) → b ≤ c → IsNearBy b value → IsNearBy c value
further b c (Address region at) le near = omega arith
further b c _ le near = tt

signed_size : (n : ℕ) → unsigned_abs (signed Bits64 n) ≤ 2 ^ 63
signed_size n = omega (arith, ints)

neg_size : (z : ℤ) → unsigned_abs (neg_ℤ z) ≡ unsigned_abs z
neg_size (pos zero) = refl
neg_size (pos (suc n)) = refl
neg_size (negsuc n) = refl

sum_size : (a b : ℤ) → unsigned_abs (a +ℤ b) ≤ unsigned_abs a + unsigned_abs b
sum_size a b = omega (arith, ints)

displacement_size : (operation : Operation) (n : ℕ) → unsigned_abs (displacement operation n) ≤ 2 ^ 63
displacement_size operation n =
    cond_both (is_subtraction operation) (neg_ℤ (signed Bits64 n)) (signed Bits64 n) (λ z. unsigned_abs z ≤ 2 ^ 63)
    (λ e. omega (arith, neg_size (signed Bits64 n), signed_size n))
    (λ e. signed_size n)

near_operand : (b : ℕ) (width : Width) (registers : Registers) (source : Source) →
    ((r : ℕ) → IsNearBy b (registers r)) → IsNearBy b (operand width registers source)
near_operand b width registers (Register r) near = near r
near_operand b width registers (Immediate imm) near = tt

near_moved : (b : ℕ) (width : Width) (value : Value) → IsNearBy b value → IsNearBy b (moved_value width value)
near_moved b Bits64 value near = near
near_moved b Bits32 (Number n) near = tt
near_moved b _ _ near = tt

near_shifted : (b : ℕ) (moves : Bool) (operation : Operation) (region : Region) (at : ℤ) (n : ℕ) → unsigned_abs at ≤ b →
    IsNearBy (b + 2 ^ 63) (if moves then Address region (at +ℤ displacement operation n) else Nothing)
near_shifted b true operation region at n near =
    omega (arith, sum_size at (displacement operation n), displacement_size operation n)
near_shifted b false operation region at n near = tt

near_result : (b : ℕ) (width : Width) (operation : Operation) (first second : Value) → IsNearBy b first →
    IsNearBy (b + 2 ^ 63) (result_of width operation first second)
near_result b width operation (Number m) (Number n) near = tt
near_result b width operation (Address region at) (Number n) near =
    near_shifted b (moves_address width operation) operation region at n near
near_result b width operation _ _ near = tt

near_changed : (b : ℕ) (change : Change) (value : Value) → IsNearBy b (changed_value change value)
near_changed b change (Number n) = tt
near_changed b change _ = tt

near_extended : (b : ℕ) (ext : Extension) (size : Size) (input : Input) (stack : ℕ → Option ℕ) (access : Option Access)
    → IsNearBy b (extended_value ext size (value_loaded input stack access))
near_extended b extension.Zero size input stack (Some a) = tt
near_extended b extension.Sign size input stack (Some a) = tt
near_extended b _ size input stack _ = tt

near_after_call : (b : ℕ) (registers : Registers) (answer : Value) (r : ℕ) → ((q : ℕ) → IsNearBy b (registers q)) →
    IsNearBy b answer → IsNearBy b (after_call registers answer r)
near_after_call b registers answer r near new =
    cond_both (r == 0) answer (if nat_le r 5 then Nothing else registers r) (λ v. IsNearBy b v) (λ e. new)
    (λ e. cond_both (nat_le r 5) Nothing (registers r) (λ v. IsNearBy b v) (λ f. tt) (λ f. near r))

near_called : (b : ℕ) (helper : Option Helper) (input : Input) (s : State) → ((r : ℕ) → IsNearBy b (s.registers r)) →
    (r : ℕ) → IsNearBy b ((state_after_call helper input s).registers r)
near_called b (Some helper) input s near r =
    near_after_call b s.registers (Number (effect_of helper input s).answer) r near tt
near_called b None input s near r = near r

near_set : (b : ℕ) (registers : Registers) (dst : ℕ) (value : Value) → ((r : ℕ) → IsNearBy b (registers r)) →
    IsNearBy (b + 2 ^ 63) value → (r : ℕ) → IsNearBy (b + 2 ^ 63) (with_register registers dst value r)
near_set b registers dst value near new r =
    cond_both (dst == r) value (registers r) (λ v. IsNearBy (b + 2 ^ 63) v) (λ e. new)
    (λ e. further b (b + 2 ^ 63) (registers r) (omega arith) (near r))

near_after : (b : ℕ) (i : Instruction) (input : Input) (s : State) → ((r : ℕ) → IsNearBy b (s.registers r)) → (r : ℕ) →
    IsNearBy (b + 2 ^ 63) ((state_after i input s).registers r)
unfolding state_after
near_after b (Move width dst source) input s near r =
    let moved = near_moved b width _ (near_operand b width s.registers source near) in
    near_set b s.registers dst _ near (further b (b + 2 ^ 63) _ (omega arith) moved) r
near_after b (Compute width operation dst source) input s near r =
    near_set b s.registers dst _ near
    (near_result b width operation _ (operand width s.registers source) (near dst)) r
near_after b (Load size ext dst base offset) input s near r =
    near_set b s.registers dst _ near (near_extended (b + 2 ^ 63) ext size input s.stack _) r
near_after b (Unary change dst src) input s near r =
    near_set b s.registers dst _ near (near_changed (b + 2 ^ 63) change (s.registers src)) r
near_after b (Wide dst number) input s near r = near_set b s.registers dst (Number number) near tt r
near_after b (Call number) input s near r =
    further b (b + 2 ^ 63) _ (omega arith) (near_called b (helper_of number) input s near r)
near_after b _ input s near r = further b (b + 2 ^ 63) (s.registers r) (omega arith) (near r)

near_entry : (input : Input) (r : ℕ) → IsNearBy 512 (entry_register input r)
near_entry input (suc zero) = omega arith
near_entry input (suc (suc (suc zero))) = omega arith
near_entry input (suc (suc (suc (suc (suc (suc (suc (suc (suc (suc zero)))))))))) = omega arith
near_entry input _ = tt

-- ---- runs

-- how far a state is that n steps lead to
pub record IsBounded (program : Program) (n : ℕ) (s : State) : Type 0 where
  pub counted : n ≤ s.slot
  pub within : s.slot ≤ slot_count program.image + 1
  pub near : (r : ℕ) → IsNearBy (512 + s.slot * 2 ^ 63) (s.registers r)

module _ (program : Program) (input : Input) where
  -- a step goes further on
  pub step_further : (s t : State) → Step program input s t →
      (s.slot < t.slot) × (t.slot ≤ slot_count program.image + 1)
  step_further s t step =
      let free = is_free program input s step.instruction step.no_trap step.form in
      rw step.next_is
      (goes_further program input s (slot_within program input s step.no_trap) step.instruction step.goes_on free)

  next_bounded : (n : ℕ) (s t : State) → IsBounded program n s → Step program input s t → IsBounded program (suc n) t
  next_bounded n s t b step =
      let ahead = step_further s t step in
      let near = near_after (512 + s.slot * 2 ^ 63) step.instruction input s b.near in
      record {
        counted = omega (arith, b.counted, ahead.0);
        within = ahead.1;
        near = λ r. further (512 + s.slot * 2 ^ 63 + 2 ^ 63) (512 + t.slot * 2 ^ 63) (t.registers r)
            (omega (arith, ahead.0)) (rw step.next_is (near r));
      }

  pub bounded : (n : ℕ) (s : State) → Reaches program input n s → IsBounded program n s
  bounded zero s at =
      rw at (record { counted = omega arith; within = omega arith; near = near_entry input })
  bounded (suc n) s chain = next_bounded n chain.0 s (bounded n chain.0 chain.1) chain.2

is_near : (b : ℕ) (value : Value) → b < 2 ^ 126 → IsNearBy b value → IsNear value
is_near b (Address region at) small near = omega arith
is_near b _ small near = tt

-- so near that a sum has 128 bits, of an image that a slice can have
pub near_of : (program : Program) (input : Input) (n : ℕ) (s : State) → Reaches program input n s →
    slot_count program.image < 2 ^ 61 → (r : ℕ) → IsNear (s.registers r)
near_of program input n s chain small r =
    let b = bounded program input n s chain in
    let bound : 512 + s.slot * 2 ^ 63 < 2 ^ 126 = omega (arith, b.within) in
    is_near (512 + s.slot * 2 ^ 63) (s.registers r) bound (b.near r)
