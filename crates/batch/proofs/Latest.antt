-- The greatest timestamp of the records so far, as a loop finds it.
use Rattle.std.proofs.Common.{◌≡◌, ℕ, ◌+◌, ◌≤◌, ◌<◌, Bool, true, false, cond, ◌||◌, List, [], ◌∷◌, ◌++◌, length, get_or}
use Rattle.std.proofs.Common.{take, Some, None, refl, sym, ap, subst, ◌∙◌, arith, int_cmp, ℤ, pos, ◌+ℤ◌, not}
use Rattle.std.specs.{Int.int_max, Ordering.ord_max, Ordering.int_eq, List.list_all}
use Rattle.std.proofs.{lemmas.Int.ints, lemmas.List.Sums.fold-append}
use Rattle.std.proofs.lemmas.List.{take_more, map_push, take_all}
use Rattle.std.proofs.lemmas.List.Folds.{list_all-append, list_all-map, list_all_at}
use Rattle.wire_spec.specs.{declared.record.Record.Record, BatchSpelling.timestamps, BatchSpelling.greatest}
use Rattle.wire_spec.specs.BatchReading.{base_timestamp, max_timestamp, is_timestamp, is_mistimed}
use Rattle.batch.specs.Latest.{when_timestamp, latest_of}

-- the first i records are in time, and g is the greatest of their timestamps
pub record UpTo (base : ℤ) (rs : List Record) (i : ℕ) (g : ℤ) : Type 0 where
  pub each : list_all is_timestamp (timestamps base (take i rs)) ≡ true
  pub greatest : g ≡ greatest (timestamps base (take i rs))

more : (base : ℤ) (rs : List Record) (i : ℕ) (r : Record) → i < length rs → r ≡ get_or rs i r
    → timestamps base (take (i + 1) rs) ≡ timestamps base (take i rs) ++ (base +ℤ r.timestamp_delta) ∷ []
more base rs i r lt e =
    ap (timestamps base) (take_more rs i r lt ∙ ap (λ (x : Record). take i rs ++ x ∷ []) (sym e))
    ∙ map_push (λ (x : Record). base +ℤ x.timestamp_delta) (take i rs) r

-- a timestamp that is one
pub in_time : (b : Bool) (t u : ℤ) → Some t ≡ cond b (Some u) None → (b ≡ true) × (u ≡ t)
in_time true t u e = (refl, cc)
in_time false t u e = absurd cc

out_of_time : (b : Bool) (u : ℤ) → None ≡ cond b (Some u) None → b ≡ false
out_of_time true u e = absurd cc
out_of_time false u e = refl

pub one_more : (base : ℤ) (rs : List Record) (i : ℕ) (r : Record) (t g : ℤ) → i < length rs → r ≡ get_or rs i r →
    Some t ≡ when_timestamp (base +ℤ r.timestamp_delta) → UpTo base rs i g → UpTo base rs (i + 1) (int_max g t)
one_more base rs i r t g lt e found so_far =
    let u = base +ℤ r.timestamp_delta in
    let ts = timestamps base (take i rs) in
    let here = in_time (is_timestamp u) t u found in
    let grown = more base rs i r lt e in
    let each : list_all is_timestamp (ts ++ u ∷ []) ≡ true = list_all-append is_timestamp ts (u ∷ [])
    ∙ rw (so_far.each, here.0) refl in
    let top : greatest (ts ++ u ∷ []) ≡ int_max g t = fold-append int_max (pos 0) ts (u ∷ [])
    ∙ rw (← so_far.greatest, here.1) refl in
    record { each = ap (list_all is_timestamp) grown ∙ each; greatest = sym (ap greatest grown ∙ top) }

pub one_wrong : (base : ℤ) (rs : List Record) (i : ℕ) (r : Record) → i < length rs → r ≡ get_or rs i r →
    None ≡ when_timestamp (base +ℤ r.timestamp_delta) → latest_of base rs ≡ None
unfolding latest_of
one_wrong base rs i r lt e missing =
    let here : is_timestamp (base +ℤ (get_or rs i r).timestamp_delta) ≡ false =
    rw (← e) (out_of_time (is_timestamp (base +ℤ r.timestamp_delta)) (base +ℤ r.timestamp_delta) missing) in
    let each : list_all is_timestamp (timestamps base rs) ≡ false =
    list_all-map is_timestamp (λ (x : Record). base +ℤ x.timestamp_delta) rs
    ∙ list_all_at (λ (x : Record). is_timestamp (base +ℤ x.timestamp_delta)) rs i r lt here in
    rw each refl

pub at_end : (base : ℤ) (rs : List Record) (i : ℕ) (g : ℤ) → length rs ≤ i → UpTo base rs i g →
    latest_of base rs ≡ Some g
unfolding latest_of
at_end base rs i g le so_far =
    let all : take i rs ≡ rs = take_all i rs le in
    let each : list_all is_timestamp (timestamps base rs) ≡ true =
    subst (λ (x : List Record). list_all is_timestamp (timestamps base x) ≡ true) all so_far.each in
    let top : g ≡ greatest (timestamps base rs) =
    subst (λ (x : List Record). g ≡ greatest (timestamps base x)) all so_far.greatest in
    rw (each, ← top) refl

pub max_is : (x y : ℤ) → ord_max int_cmp x y ≡ int_max x y
max_is x y = grind (arith, ints)

-- the base or a record's timestamp is out of range, or the greatest is another
pub mistimed_by : (base top : ℤ) (rs : List Record) (t : ℤ) → Some t ≡ latest_of base rs →
    (not (is_timestamp base) || not (int_eq top t))
    ≡ (not (is_timestamp base) || (not (list_all is_timestamp (timestamps base rs)) || not
    (int_eq top (greatest (timestamps base rs)))))
unfolding latest_of
mistimed_by base top rs t e =
    let h = in_time (list_all is_timestamp (timestamps base rs)) t (greatest (timestamps base rs)) e in
    rw (h.0, h.1) refl

always : (b : Bool) → true ≡ (not b || true)
always true = refl
always false = refl

pub mistimed_none : (base top : ℤ) (rs : List Record) → None ≡ latest_of base rs →
    true ≡ (not (is_timestamp base) || (not (list_all is_timestamp (timestamps base rs)) || not
    (int_eq top (greatest (timestamps base rs)))))
unfolding latest_of
mistimed_none base top rs e =
    let h = out_of_time (list_all is_timestamp (timestamps base rs)) (greatest (timestamps base rs)) e in
    rw h (always (is_timestamp base))

pub mistimed_when : (bytes : List ℕ) (rs : List Record) (base top t : ℤ) → base ≡ base_timestamp bytes →
    top ≡ max_timestamp bytes → Some t ≡ latest_of base rs → true ≡ is_timestamp base →
    not (int_eq top t) ≡ is_mistimed bytes rs
mistimed_when bytes rs base top t b m e in_range =
    let whole = mistimed_by base top rs t e in
    let first : (not (is_timestamp base) || not (int_eq top t)) ≡ not (int_eq top t) = rw (← in_range) refl in
    sym first ∙ whole ∙ rw (b, m) refl

pub mistimed_without : (bytes : List ℕ) (rs : List Record) (base : ℤ) → base ≡ base_timestamp bytes →
    None ≡ latest_of base rs → true ≡ is_mistimed bytes rs
mistimed_without bytes rs base b e = mistimed_none base (max_timestamp bytes) rs e ∙ rw b refl
