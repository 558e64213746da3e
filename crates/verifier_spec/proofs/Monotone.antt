-- Checks and transfer keep the order of states: of two states, one within the other, the first passes each check that
-- the second passes, and what an edge propagates from the first is within what it propagates from the second.
use Rattle.std.proofs.Common.{◌≡◌, ℕ, zero, suc, ◌<◌, ◌≤◌, ℤ, pos, ◌+ℤ◌, ◌≤ℤ◌, Bool, true, false, not, List, [], ◌∷◌}
use Rattle.std.proofs.Common.{length, get_or, Option, Some, None, unsigned_abs, ◌&&◌, refl, inl, inr, ⊎_elim, arith}
use Rattle.std.specs.{Ordering.int_eq, List.list_any, List.fold}
use Rattle.std.proofs.{lemmas.Bool.Decides.Decides-int_eq, lemmas.Int.ints}
use Rattle.std.proofs.lemmas.Bool.{and_parts, and_from, and_right, or_parts, not-false, not_from_true, cases_Bool}
use Rattle.machine_spec.specs.declared.{instruction.Region.Region, instruction.Size.Size, helper.Helper.Helper}
use Rattle.machine_spec.specs.declared.{helper.Argument.Argument, instruction.Instruction.Instruction}
use Rattle.machine_spec.specs.declared.{summary.Operands.Operands, summary.MemoryOperand.MemoryOperand}
use Rattle.machine_spec.specs.declared.{summary.Condition.Condition, summary.Summary.Summary, operation.Width.Width}
use Rattle.machine_spec.specs.declared.{instruction.Source.Source}
use Rattle.machine_spec.specs.declared.operation.Width.TheVariants.{Bits32, Bits64}
use Rattle.machine_spec.specs.declared.helper.Argument.TheVariants as argument
use Rattle.machine_spec.specs.declared.instruction.Instruction.TheVariants.{Move, Compute, Load, Unary, Store, JumpIf}
use Rattle.machine_spec.specs.declared.instruction.Instruction.TheVariants.{Wide, Call}
use Rattle.machine_spec.specs.declared.summary.Operands.TheVariants as operands
use Rattle.machine_spec.specs.declared.summary.Direction.TheVariants as direction
use Rattle.machine_spec.specs.{Summaries.summary_of, Values.byte_count, Machine.signature_of, Machine.helper_of}
use Rattle.machine_spec.specs.Traps.{helper_called, arguments_of, read_registers, is_stack}
use Rattle.verifier_spec.specs.declared.{interval.Interval.Interval, state.Abs.Abs, state.StackSet.StackSet}
use Rattle.verifier_spec.specs.declared.state.Abstract.{Abstract}
use Rattle.verifier_spec.specs.declared.state.Abs.TheVariants as abs
use Rattle.verifier_spec.specs.{Intervals.from_to, StackSets.is_set, States.is_proper, States.is_within}
use Rattle.verifier_spec.specs.{Annotation.is_edge_covered, Soundness.KeepsOrder}
use Rattle.verifier_spec.specs.Kinds.{kind_at, range_of, is_unknown, is_number_kind, is_address_kind, is_proper_kind}
use Rattle.verifier_spec.specs.Kinds.{is_kind_within}
use Rattle.verifier_spec.specs.Checks.{source_kind, has_wrong_kinds, has_wrong_base_kind, has_wrong_condition_kind}
use Rattle.verifier_spec.specs.Checks.{reach_at, reach_of, may_write_record, named_reach, may_name_wrongly, is_whole}
use Rattle.verifier_spec.specs.Checks.{is_wrong_argument_kind, may_exit_wrongly, failed_check}
use Rattle.verifier_spec.specs.Transfer.{with_stored, with_room, with_argument, with_kind, loaded_kind, answer_kind}
use Rattle.verifier_spec.specs.Transfer.{after_call_kinds, called_kinds, jump_edge, falls_to, jumps_to}
use Rattle.verifier_spec.proofs.Order.{IsWithin, within_parts, within_from, region_is}
use Rattle.verifier_spec.proofs.Proper.{proper_parts, kind_at_proper, addr_order, number_if_ranged}
use Rattle.verifier_spec.proofs.{Narrowing.tested_within, Whole.shift_le, Joins.kind_within_refl}
use Rattle.verifier_spec.proofs.Safety.{Passes, passes, failed_from, none_kept, AreReaches, at_reaches, IsRight}
use Rattle.verifier_spec.proofs.Safety.{write_part, right_part, named_part, room_kinds, room_part, whole_parts}
use Rattle.verifier_spec.proofs.StackSets.{places_kept, places_set, places_only}
use Rattle.verifier_spec.proofs.Wider.{kind_within, known_within, AreAddresses, AreRanges, Narrows, register_narrows}
use Rattle.verifier_spec.proofs.Wider.{source_narrows, can_within, computed_within, changed_within, low_half_within}
use Rattle.verifier_spec.proofs.Wider.{source_within, within_set}

-- a call changes both sides alike
called_pairs : (P : Abs → Abs → Type 0) (js ks : List Abs) (answer : Abs) (q : ℕ) → length js ≡ 11 → length ks ≡ 11 →
    P (get_or js q abs.None) (get_or ks q abs.None) → P answer answer → P abs.None abs.None →
    P (get_or (after_call_kinds js answer) q abs.None) (get_or (after_call_kinds ks answer) q abs.None)
called_pairs P (j0 ∷ j1 ∷ j2 ∷ j3 ∷ j4 ∷ j5 ∷ js) (k0 ∷ k1 ∷ k2 ∷ k3 ∷ k4 ∷ k5 ∷ ks) answer zero d e h p n = p
called_pairs P (j0 ∷ j1 ∷ j2 ∷ j3 ∷ j4 ∷ j5 ∷ js) (k0 ∷ k1 ∷ k2 ∷ k3 ∷ k4 ∷ k5 ∷ ks) answer
    (suc (suc (suc (suc (suc (suc q)))))) d e h p n = h
called_pairs P (j0 ∷ j1 ∷ j2 ∷ j3 ∷ j4 ∷ j5 ∷ js) (k0 ∷ k1 ∷ k2 ∷ k3 ∷ k4 ∷ k5 ∷ ks) answer (suc q) d e h p n = n
called_pairs P js ks answer q d e h p n = absurd (omega arith)

-- bytes that are set stay so in a call
room_keeps : (set : StackSet) (at : Region) (low high : ℤ) (range : Interval) (q : ℕ) → q < 512 → is_set set q ≡ true →
    is_set (with_room set (abs.Addr at low high) (Some range)) q ≡ true
room_keeps set at low high range q inside h = grind (arith, places_kept)

-- room at a narrower address that has as many bytes becomes set where that at a wider one does
room_set : (inner outer : StackSet) (at : Region) (lo hi low high : ℤ) (part whole : Interval) →
    ((q : ℕ) → q < 512 → is_set outer q ≡ true → is_set inner q ≡ true) → low ≤ℤ lo → lo ≤ℤ hi → hi ≤ℤ high →
    whole.low ≤ part.low → (q : ℕ) → q < 512 → is_set (with_room outer (abs.Addr at low high) (Some whole)) q ≡ true →
    is_set (with_room inner (abs.Addr at lo hi) (Some part)) q ≡ true
room_set inner outer at lo hi low high part whole kept p order r more q inside h =
    elim (cases_Bool (is_stack at && int_eq low high)) [
      | inl one ↦
          let parts = and_parts (is_stack at) (int_eq low high) one in
          let same : low ≡ high = (Decides-int_eq low high).0 parts.1 in
          let is : low ≡ lo = omega (arith, ints) in
          let ends : lo ≡ hi = omega (arith, ints) in
          let starts : unsigned_abs low ≡ unsigned_abs lo = cc in
          let narrow : (is_stack at && int_eq lo hi) ≡ true = and_from _ _ parts.0 ((Decides-int_eq lo hi).1 ends) in
          rw narrow (⊎_elim
          (λ before. places_kept inner (unsigned_abs lo) part.low q inside (kept q inside before))
          (λ among. places_set inner (unsigned_abs lo) part.low q inside (omega arith)
          (omega arith)) (places_only outer (unsigned_abs low) whole.low q inside (rw one at h)))
      | inr many ↦ room_keeps inner at lo hi part q inside (kept q inside (rw many at h))
    ]

whole_within : (a : Abstract) (j k : Abs) (at : Region) → is_proper_kind j ≡ true →
    is_kind_within a j (abs.Addr at (pos 0) (pos 0)) ≡ true → is_kind_within a k (abs.Len at) ≡ true →
    is_whole j k ≡ true
whole_within a (abs.Addr r lo hi) (abs.Len q) at p h k =
    let is = region_is q at k in
    let order = addr_order r lo hi p in
    grind (arith, ints, Decides-int_eq)
whole_within a j k at p h l = cc

module _ (a b : Abstract) (w : IsWithin a b) (pa : is_proper a ≡ true) (pb : is_proper b ≡ true) where
  narrows : (r : ℕ) → Narrows a b (kind_at a r) (kind_at b r)
  narrows = register_narrows a b w pa pb

  -- ---- the rows of the checks

  number_at : (r : ℕ) → is_number_kind (kind_at b r) ≡ true → is_number_kind (kind_at a r) ≡ true
  number_at r u = number_if_ranged a _ _ ((narrows r).number u).inner_is

  source_number : (width : Width) (source : Source) → is_number_kind (source_kind b width source) ≡ true →
      is_number_kind (source_kind a width source) ≡ true
  source_number width source u =
      number_if_ranged a _ _ ((source_narrows a b w pa pb width source).number u).inner_is

  operands_kept : (takes : Operands) → has_wrong_kinds takes b ≡ false → has_wrong_kinds takes a ≡ false
  operands_kept (operands.Number width source) c = not_from_true _ (source_number width source (not-false _ c))
  operands_kept (operands.Computed width operation dst source) c =
      not_from_true _ (can_within a b width operation _ _ _ (source_narrows a b w pa pb width source) (kind_at b dst)
      (narrows dst) (not-false _ c))
  operands_kept takes c = refl

  base_kept : (memory : Option MemoryOperand) → has_wrong_base_kind memory b ≡ false →
      has_wrong_base_kind memory a ≡ false
  base_kept None c = refl
  base_kept (Some m) c = rw ((narrows m.base).address (not-false _ c)).inner

  condition_kept : (condition : Option Condition) → has_wrong_condition_kind condition b ≡ false →
      has_wrong_condition_kind condition a ≡ false
  condition_kept None c = refl
  condition_kept (Some k) c =
      let p = and_parts _ _ (not-false _ c) in
      not_from_true _ (and_from _ _ (number_at k.dst p.0) (source_number k.width k.source p.1))

  reaches : (m : MemoryOperand) → has_wrong_base_kind (Some m) b ≡ false →
      AreReaches (reach_of (Some m) a) (reach_of (Some m) b)
  reaches m k = at_reaches m.direction m.offset m.size ((narrows m.base).address (not-false _ k))

  record_write_kept : (memory : Option MemoryOperand) → has_wrong_base_kind memory b ≡ false →
      may_write_record (reach_of memory b) ≡ false → may_write_record (reach_of memory a) ≡ false
  record_write_kept None k c = refl
  record_write_kept (Some m) k c = write_part (reaches m k) c

  memory_kept : (memory : Option MemoryOperand) → has_wrong_base_kind memory b ≡ false →
      IsRight b (reach_of memory b) → IsRight a (reach_of memory a)
  memory_kept None k r = assumption
  memory_kept (Some m) k r = right_part a b w.lengths w.set (reaches m k) r

  -- what names a whole key or value does so in a narrower state
  whole_kept : (address count : ℕ) → is_whole (kind_at b address) (kind_at b count) ≡ true →
      is_whole (kind_at a address) (kind_at a count) ≡ true
  whole_kept address count h =
      let whole = whole_parts (kind_at b address) (kind_at b count) h in
      whole_within a (kind_at a address) (kind_at a count) whole.at (kind_at_proper a _ pa)
      (rw whole.address at (kind_within a b w pb address)) (rw whole.count at (kind_within a b w pb count))

  bytes_kept : (address count : ℕ) (whole : Bool) → is_whole (kind_at b address) (kind_at b count) ≡ whole →
      (not whole && may_name_wrongly b (named_reach direction.Read (kind_at b address) (range_of b (kind_at b count))))
      ≡ false → (not (is_whole (kind_at a address) (kind_at a count))
      && may_name_wrongly a (named_reach direction.Read (kind_at a address) (range_of a (kind_at a count)))) ≡ false
  bytes_kept address count true is c = rw (whole_kept address count is) refl
  bytes_kept address count false is c =
      and_right _ _ (named_part a b _ _ _ _ (narrows address) (narrows count) w.lengths w.set c)

  argument_kept : (x : Argument) → is_wrong_argument_kind b x ≡ false → is_wrong_argument_kind a x ≡ false
  argument_kept argument.Nothing c = refl
  argument_kept (argument.Number r) c = not_from_true _ (number_at r (not-false _ c))
  argument_kept (argument.Bytes address count) c = bytes_kept address count _ refl c
  argument_kept (argument.Room address count) c = room_part a b _ _ _ _ (narrows address) (narrows count) c

  exit_kept : (exits : Bool) → may_exit_wrongly exits b ≡ false → may_exit_wrongly exits a ≡ false
  exit_kept false c = refl
  exit_kept true c = not_from_true _ (number_at 0 (not-false _ c))

  passes_kept : (helpers : List Helper) (m : Summary) → Passes helpers m b → Passes helpers m a
  passes_kept helpers m p = assumption (
    p,
    none_kept (λ r. is_unknown (kind_at b r)) (λ r. is_unknown (kind_at a r))
        (λ r. known_within a _ _ (kind_within a b w pb r)) (read_registers m) p.unset,
    operands_kept m.takes p.operands,
    base_kept m.memory p.base,
    condition_kept m.condition p.condition,
    record_write_kept m.memory p.base p.record_write,
    memory_kept m.memory p.base (assumption p),
    none_kept (is_wrong_argument_kind b) (is_wrong_argument_kind a) argument_kept
        (arguments_of (helper_called m.call)) p.argument,
    exit_kept m.exits p.exit,
  )

  -- ---- the edges

  set_edge : (r : ℕ) (j k : Abs) → is_kind_within a j k ≡ true → is_within (with_kind a r j) (with_kind b r k) ≡ true
  set_edge r j k h = within_from _ _ (within_set a b w pa pb r j k h)

  set_kept : (set outer : StackSet) → ((q : ℕ) → q < 512 → is_set outer q ≡ true → is_set set q ≡ true) →
      is_within (record a { set = set }) (record b { set = outer }) ≡ true
  set_kept set outer kept = within_from _ _ (assumption (w, kept))

  store_edge : (size : Size) (base : ℕ) (offset : ℤ) → is_address_kind (kind_at b base) ≡ true
      → is_within (record a { set = with_stored a.set (reach_at direction.Write (kind_at a base) offset size) })
      (record b { set = with_stored b.set (reach_at direction.Write (kind_at b base) offset size) }) ≡ true
  store_edge size base offset address =
      let x = (narrows base).address address in
      let bytes = from_to (byte_count size) (byte_count size) in
      let kept : (q : ℕ) → q < 512 →
      is_set (with_stored b.set (reach_at direction.Write (kind_at b base) offset size)) q ≡ true →
      is_set (with_stored a.set (reach_at direction.Write (kind_at a base) offset size)) q ≡ true =
      rw (x.inner, x.outer) (room_set a.set b.set x.at (x.lo +ℤ offset) (x.hi +ℤ offset) (x.low +ℤ offset)
      (x.high +ℤ offset) bytes bytes w.set (shift_le _ _ _ x.from) (shift_le _ _ _ x.order) (shift_le _ _ _ x.to)
      (omega arith)) in
      set_kept _ _ kept

  room_set_at : (address count : ℕ) → AreAddresses (kind_at a address) (kind_at b address) →
      AreRanges a b (kind_at a count) (kind_at b count) → (inner outer : StackSet) →
      ((q : ℕ) → q < 512 → is_set outer q ≡ true → is_set inner q ≡ true) → (q : ℕ) → q < 512 →
      is_set (with_room outer (kind_at b address) (range_of b (kind_at b count))) q ≡ true →
      is_set (with_room inner (kind_at a address) (range_of a (kind_at a count))) q ≡ true
  room_set_at address count x y inner outer kept =
      rw (x.inner, x.outer, y.inner_is, y.outer_is) (room_set inner outer x.at x.lo x.hi x.low x.high y.inner y.outer
      kept x.from x.order x.to y.part.low)

  -- the room of an argument becomes set where it does in a wider state
  argument_set : (x : Argument) → is_wrong_argument_kind b x ≡ false → (inner outer : StackSet) →
      ((q : ℕ) → q < 512 → is_set outer q ≡ true → is_set inner q ≡ true) → (q : ℕ) → q < 512 →
      is_set (with_argument b outer x) q ≡ true → is_set (with_argument a inner x) q ≡ true
  argument_set (argument.Room address count) c inner outer kept =
      let kinds = room_kinds b _ _ c in
      room_set_at address count ((narrows address).address kinds.0) ((narrows count).number kinds.1) inner outer kept
  argument_set x c inner outer kept = kept

  arguments_set : (xs : List Argument) → list_any (is_wrong_argument_kind b) xs ≡ false → (inner outer : StackSet) →
      ((q : ℕ) → q < 512 → is_set outer q ≡ true → is_set inner q ≡ true) → (q : ℕ) → q < 512 →
      is_set (fold (with_argument b) outer xs) q ≡ true → is_set (fold (with_argument a) inner xs) q ≡ true
  arguments_set [] c inner outer kept = kept
  arguments_set (x ∷ xs) c inner outer kept =
      let p = or_parts _ _ c in
      arguments_set xs p.1 (with_argument a inner x) (with_argument b outer x) (argument_set x p.0 inner outer kept)

  call_edge : (helper : Option Helper) → list_any (is_wrong_argument_kind b) (arguments_of helper) ≡ false →
      is_edge_covered (called_kinds helper a) (called_kinds helper b) ≡ true
  call_edge None c = refl
  call_edge (Some helper) c =
      let set = fold (with_argument a) a.set (signature_of helper).arguments in
      let to : Abstract = record a { registers = after_call_kinds a.registers (answer_kind helper); set = set } in
      within_from _ _ (record {
        kinds = λ q low. called_pairs (λ j k. is_kind_within to j k ≡ true) a.registers b.registers (answer_kind helper)
            q (proper_parts a pa).eleven (proper_parts b pb).eleven
            (w.kinds q low) (kind_within_refl to (answer_kind helper)) refl;
        lengths = w.lengths;
        set = arguments_set (signature_of helper).arguments c a.set b.set w.set;
      })

  falls_kept : (helpers : List Helper) (i : Instruction) → is_within a b ≡ true → Passes helpers (summary_of i) b →
      is_edge_covered (falls_to i a) (falls_to i b) ≡ true
  unfolding falls_to
  falls_kept helpers (Move Bits64 dst source) h p =
      set_edge dst _ _ (source_within a b w pa pb Bits64 source)
  falls_kept helpers (Move Bits32 dst source) h p =
      set_edge dst _ _ (low_half_within a b (source_kind a Bits32 source) (source_kind b Bits32 source)
      ((source_narrows a b w pa pb Bits32 source).number (not-false _ p.operands)))
  falls_kept helpers (Compute width operation dst source) h p =
      set_edge dst _ _ (computed_within a b width operation _ _ _ (source_narrows a b w pa pb width source)
      (kind_at b dst) (narrows dst) (not-false _ p.operands))
  falls_kept helpers (Unary change dst src) h p =
      set_edge dst _ _ (changed_within a b change (kind_at a src) (kind_at b src)
      ((narrows src).number (not-false _ p.operands)))
  falls_kept helpers (Load size extension dst base offset) h p =
      set_edge dst _ _ (kind_within_refl a (loaded_kind size extension))
  falls_kept helpers (Store size base offset source) h p = store_edge size base offset (not-false _ p.base)
  falls_kept helpers (JumpIf width test dst source offset) h p =
      tested_within a b w pa pb width test false dst source h (and_parts _ _ (not-false _ p.condition)).0
  falls_kept helpers (Wide dst number) h p =
      set_edge dst _ _ (kind_within_refl a (abs.Num number number))
  falls_kept helpers (Call number) h p = call_edge (helper_of number) p.argument
  falls_kept helpers i h p = refl

  edge_kept : (condition : Option Condition) (jump : Option ℤ) → is_within a b ≡ true →
      has_wrong_condition_kind condition b ≡ false →
      is_edge_covered (jump_edge condition jump a) (jump_edge condition jump b) ≡ true
  edge_kept condition None h c = refl
  edge_kept None (Some offset) h c = h
  edge_kept (Some k) (Some offset) h c =
      tested_within a b w pa pb k.width k.test true k.dst k.source h (and_parts _ _ (not-false _ c)).0

  jumps_kept : (helpers : List Helper) (i : Instruction) → is_within a b ≡ true → Passes helpers (summary_of i) b →
      is_edge_covered (jumps_to i a) (jumps_to i b) ≡ true
  unfolding jumps_to
  jumps_kept helpers i h p = edge_kept (summary_of i).condition (summary_of i).jump h p.condition

-- ---- the order is kept

pub check_monotone : (helpers : List Helper) (i : Instruction) (a b : Abstract) → is_within a b ≡ true →
    is_proper a ≡ true → is_proper b ≡ true → failed_check helpers i b ≡ None → failed_check helpers i a ≡ None
check_monotone helpers i a b h pa pb pass =
    failed_from helpers i a (passes_kept a b (within_parts a b h) pa pb helpers (summary_of i)
    (passes helpers i b pass))

pub falls_monotone : (helpers : List Helper) (i : Instruction) (a b : Abstract) → is_within a b ≡ true →
    is_proper a ≡ true → is_proper b ≡ true → failed_check helpers i b ≡ None →
    is_edge_covered (falls_to i a) (falls_to i b) ≡ true
falls_monotone helpers i a b h pa pb pass =
    falls_kept a b (within_parts a b h) pa pb helpers i h (passes helpers i b pass)

pub jumps_monotone : (helpers : List Helper) (i : Instruction) (a b : Abstract) → is_within a b ≡ true →
    is_proper a ≡ true → is_proper b ≡ true → failed_check helpers i b ≡ None →
    is_edge_covered (jumps_to i a) (jumps_to i b) ≡ true
jumps_monotone helpers i a b h pa pb pass =
    jumps_kept a b (within_parts a b h) pa pb helpers i h (passes helpers i b pass)

-- Checks and transfer keep the order at each instruction whose checks pass in the outer state.
pub order_kept : (helpers : List Helper) (i : Instruction) (a b : Abstract) → is_within a b ≡ true →
    is_proper a ≡ true → is_proper b ≡ true → failed_check helpers i b ≡ None → KeepsOrder helpers i a b
order_kept helpers i a b h pa pb pass = record {
  checks = check_monotone _ _ _ _ h pa pb pass;
  falls = falls_monotone _ _ _ _ h pa pb pass;
  jumps = jumps_monotone _ _ _ _ h pa pb pass;
}
