-- Kinds against words: what a word is, of which a kind is known, and a register that is set, in the state of the
-- machine and in the abstract state that describes it.
use Rattle.std.proofs.Common.{◌≡◌, ℕ, ℤ, ◌≤ℤ◌, true, Some, refl, ap, zero, suc, ◌==◌, if◌then◌else◌, List, [], ◌∷◌}
use Rattle.std.proofs.Common.{get_or, set, sym, ⊎_elim}
use Rattle.machine_spec.specs.declared.instruction.Region.{Region}
use Rattle.machine_spec.specs.Machine.{Input, State, sets, goes_to}
use Rattle.machine_spec.specs.Values.{Value, Number, Address}
use Rattle.verifier_spec.specs.declared.{interval.Interval.Interval, state.Abs.Abs, state.Abstract.Abstract}
use Rattle.verifier_spec.specs.declared.state.Abs.TheVariants as abs
use Rattle.verifier_spec.specs.{Intervals.from_to, Intervals.IsIn, Ranges.interval_of, Transfer.with_kind}
use Rattle.verifier_spec.specs.StandsFor.{HasKind, HasLengths, StandsFor}
use Rattle.verifier_spec.specs.Kinds.{length_range, range_of, is_number_kind, is_address_kind}
use Rattle.std.proofs.lemmas.{Bool.cond_both, Bool.eqb-true, Bool.eqb-false, Bool.cases_eq, List.get_or-set_other}

-- a number in the range of its kind
pub record IsNumber (a : Abstract) (kind : Abs) (word : Value) : Type 0 where
  pub n : ℕ
  pub range : Interval
  pub is : word ≡ Number n
  pub ranged : range_of a kind ≡ Some range
  pub has : IsIn n range

-- an address in the range of its kind
pub record IsAddress (kind : Abs) (word : Value) : Type 0 where
  pub at : Region
  pub offset : ℤ
  pub lo : ℤ
  pub hi : ℤ
  pub is : word ≡ Address at offset
  pub kind_is : kind ≡ abs.Addr at lo hi
  pub low : lo ≤ℤ offset
  pub high : offset ≤ℤ hi

pub at_number : (input : Input) (a : Abstract) (kind : Abs) (word : Value) → HasLengths input a →
    is_number_kind kind ≡ true → HasKind input kind word → IsNumber a kind word
at_number input a (abs.Num lo hi) (Number n) l k h =
    record { n = n; range = from_to lo hi; is = refl; ranged = refl; has = record { low = h.0; high = h.1 } }
at_number input a (abs.Len r) (Number n) l k h =
    let range = interval_of (length_range a r) in
    record { n = n; range = range; is = refl; ranged = refl; has = rw h (l r) }
at_number input a kind word l k h = first_of (cc, search h)

pub at_address : (input : Input) (kind : Abs) (word : Value) → is_address_kind kind ≡ true → HasKind input kind word →
    IsAddress kind word
at_address input (abs.Addr r lo hi) (Address at offset) k h =
    record {
      at = at;
      offset = offset;
      lo = lo;
      hi = hi;
      is = refl;
      kind_is = ap (λ x. abs.Addr x lo hi) h.0;
      low = h.1;
      high = h.2;
    }
at_address input kind word k h = first_of (cc, search h)

-- ---- a register set

-- past the list's end a write changes nothing, and nothing is known
has_set_same : (input : Input) (kinds : List Abs) (r : ℕ) (kind : Abs) (word : Value) → HasKind input kind word →
    HasKind input (get_or (set kinds r kind) r abs.None) word
has_set_same input [] r kind word k = tt
has_set_same input (first ∷ kinds) zero kind word k = k
has_set_same input (first ∷ kinds) (suc r) kind word k = has_set_same input kinds r kind word k

has_set : (input : Input) (kinds : List Abs) (r q : ℕ) (kind : Abs) (word old : Value) →
    HasKind input (get_or kinds q abs.None) old → HasKind input kind word →
    HasKind input (get_or (set kinds r kind) q abs.None) (if r == q then word else old)
has_set input kinds r q kind word old h k =
    cond_both _ _ _ (λ w. HasKind input (get_or (set kinds r kind) q abs.None) w)
    (λ e. rw (← eqb-true r q e) (has_set_same input kinds r kind word k))
    (λ e. rw (get_or-set_other _ _ _ _ _ (λ d. eqb-false r q e (sym d))) h)

-- a register gets a word of a kind, and the abstract state gets that kind
pub stands_set : (input : Input) (a : Abstract) (s : State) (r : ℕ) (kind : Abs) (word : Value) → StandsFor input a s →
    HasKind input kind word → StandsFor input (with_kind a r kind) (sets s r word)
stands_set input a s r kind word h k =
    assumption (h, λ (q : ℕ). has_set input a.registers r q kind word (s.registers q) (h.registers q) k)

-- a register has a word of a kind, and the abstract state gets that kind
has_kind_set : (input : Input) (kinds : List Abs) (r q : ℕ) (kind : Abs) (registers : ℕ → Value) →
    HasKind input (get_or kinds q abs.None) (registers q) → HasKind input kind (registers r) →
    HasKind input (get_or (set kinds r kind) q abs.None) (registers q)
has_kind_set input kinds r q kind registers h k =
    ⊎_elim
    (λ e. rw (← e) (has_set_same input kinds r kind (registers r) k))
    (λ d. rw (get_or-set_other _ _ _ _ _ (λ e. d (sym e))) h)
    (cases_eq r q)

pub stands_kind : (input : Input) (a : Abstract) (s : State) (r : ℕ) (kind : Abs) → StandsFor input a s →
    HasKind input kind (s.registers r) → StandsFor input (with_kind a r kind) s
stands_kind input a s r kind h k =
    assumption (h, λ (q : ℕ). has_kind_set input a.registers r q kind s.registers (h.registers q) k)

-- nothing but the slot changes
pub stands_at : (input : Input) (a : Abstract) (s : State) (slot : ℕ) → StandsFor input a s →
    StandsFor input a (goes_to s slot)
stands_at input a s slot h = assumption h
