-- Shifts by groups of seven bits.
use Rattle.std.proofs.Common.{◌≡◌, ℕ, zero, suc, ◌+◌, ◌-◌, ◌*◌, ◌/◌, ◌%◌, ◌^◌, ◌<◌, ◌≤◌, ◌⊎◌, inl, inr, List, [], ◌∷◌}
use Rattle.std.proofs.Common.{◌++◌, length, get_or, take, sym, subst, ap, ◌∙◌, append_assoc, arith, ℤ}
use Rattle.std.proofs.Common.{FitsSigned}
use Rattle.std.proofs.lemmas.Bool.{cases_lt, lt-ltb, le-ltb}
use Rattle.std.proofs.{lemmas.List.length-append, lemmas.Int.to_z-of_z}
use Rattle.std.specs.Int.{w32, w64, cast_signed, cast_unsigned}
use Rattle.wire_spec.proofs.Varints.{zigzag-fits_32, groups_is, IsBase128-groups, worth, worth-128, worth-mono, Adds}
use Rattle.wire_spec.proofs.Varints.{adds, nine_groups, EndsAt}
use Rattle.wire_spec.specs.Varint.{groups_value, groups, zigzag, varint}

-- a group of seven bits in its place
pub shifted : (k b : ℕ) → k ≤ 8 → b < 128 → (b * 2 ^ (7 * k)) % 2 ^ 64 ≡ worth k b
shifted zero b le lt = omega arith
shifted (suc zero) b le lt = omega arith
shifted (suc (suc zero)) b le lt = omega arith
shifted (suc (suc (suc zero))) b le lt = omega arith
shifted (suc (suc (suc (suc zero)))) b le lt = omega arith
shifted (suc (suc (suc (suc (suc zero))))) b le lt = omega arith
shifted (suc (suc (suc (suc (suc (suc zero)))))) b le lt = omega arith
shifted (suc (suc (suc (suc (suc (suc (suc zero))))))) b le lt = omega arith
shifted (suc (suc (suc (suc (suc (suc (suc (suc zero)))))))) b le lt = omega arith
shifted (suc (suc (suc (suc (suc (suc (suc (suc (suc k))))))))) b le lt = absurd (omega arith)

-- the place is one of the first nine, as the loop's are
pub is_early : (most top at : ℕ) → ((most ≡ 5) × (top ≡ 15)) ⊎ ((most ≡ 10) × (top ≡ 1)) → at < most - 1 → at ≤ 8
is_early most top at (inl h) lt = omega arith
is_early most top at (inr h) lt = omega arith

-- the number with one group more
pub record Sum (bytes : List ℕ) (at number digit : ℕ) : Type 0 where
  pub adds : Adds bytes at (number + (digit * 2 ^ (7 * at)) % 2 ^ 64)
  pub fits : number + (digit * 2 ^ (7 * at)) % 2 ^ 64 < 2 ^ 63

pub sum_at : (bytes : List ℕ) (at number digit : ℕ) → at ≤ 8 → at < length bytes →
    number ≡ groups_value (take at bytes) → number < worth at 1 → digit < 128 → digit ≡ get_or bytes at 0 % 128 →
    Sum bytes at number digit
sum_at bytes at number digit few lt is below small e =
    let shift : (digit * 2 ^ (7 * at)) % 2 ^ 64 ≡ worth at digit = shifted at digit few small in
    let more : Adds bytes at (number + worth at digit) = adds bytes at number digit lt is below e in
    record {
      adds = subst (λ (x : ℕ). Adds bytes at (number + x)) (sym shift) more;
      fits = subst (λ (x : ℕ). number + x < 2 ^ 63) (sym shift)
          (nine_groups (at + 1) (number + worth at digit) (omega arith) more.below);
    }

-- the number in one group, and in two
pub value_of_one : (bytes : List ℕ) → 0 < length bytes → get_or bytes 0 0 < 128 →
    get_or bytes 0 0 ≡ groups_value (take 1 bytes)
value_of_one [] some low = absurd (omega arith)
value_of_one (b ∷ bs) some low = omega arith

pub value_of_two : (bytes : List ℕ) → 1 < length bytes → 128 ≤ get_or bytes 0 0 → get_or bytes 0 0 < 256 →
    get_or bytes 1 0 < 128 → (get_or bytes 0 0 - 128) + 128 * get_or bytes 1 0 ≡ groups_value (take 2 bytes)
value_of_two [] some high byte low = absurd (omega arith)
value_of_two (b ∷ []) some high byte low = absurd (omega arith)
value_of_two (b ∷ c ∷ bs) some high byte low = omega arith

pub ends_at_second : (bytes : List ℕ) → 1 < length bytes → 128 ≤ get_or bytes 0 0 → get_or bytes 1 0 < 128 →
    EndsAt bytes 1
ends_at_second bytes within high low = grind arith

-- what a number of 32 bits is after casts
pub cast_64 : (z : ℤ) → FitsSigned w32 z → cast_signed w64 (cast_unsigned w64 z) ≡ z
cast_64 z h = to_z-of_z w64 z (record { sfits = omega (arith, h.sfits) })

pub cast_32 : (z : ℤ) → FitsSigned w32 z →
    cast_signed w32 (cast_unsigned w32 (cast_signed w64 (cast_unsigned w64 z))) ≡ z
cast_32 z h = ap (λ (x : ℤ). cast_signed w32 (cast_unsigned w32 x)) (cast_64 z h) ∙ to_z-of_z w32 z h

-- ---- Writing

-- one group more was written at the end of what is there
pub push_more : (old out : List ℕ) (at rest number : ℕ) → at < 9 → 128 ≤ rest →
    out ++ groups (10 - at) rest ≡ old ++ groups 10 number →
    (out ++ (128 + rest % 128) ∷ []) ++ groups (10 - (at + 1)) (rest / 128) ≡ old ++ groups 10 number
unfolding groups
push_more old out at rest number lt more is =
    let left : 10 - at ≡ suc (10 - (at + 1)) = omega arith in
    let before : out ++ (128 + rest % 128) ∷ groups (10 - (at + 1)) (rest / 128) ≡ old ++ groups 10 number =
    rw (left, le-ltb rest 128 more) at is in
    append_assoc out ((128 + rest % 128) ∷ []) (groups (10 - (at + 1)) (rest / 128)) ∙ before

-- the last group was written
pub push_last : (old out : List ℕ) (at rest number : ℕ) → at < 10 → rest < 128 →
    out ++ groups (10 - at) rest ≡ old ++ groups 10 number → out ++ rest ∷ [] ≡ old ++ groups 10 number
unfolding groups
push_last old out at rest number lt few is =
    let left : 10 - at ≡ suc (9 - at) = omega arith in
    rw (left, lt-ltb rest 128 few) at is

-- there is room for one more group
pub some_group : (most rest : ℕ) → 1 ≤ most → 1 ≤ length (groups most rest)
unfolding groups
some_group zero rest some = absurd (omega (arith, some))
some_group (suc most) rest some = grind (arith, cases_lt, lt-ltb, le-ltb)

pub has_room : (old out : List ℕ) (at rest number capacity : ℕ) → at < 10 →
    out ++ groups (10 - at) rest ≡ old ++ groups 10 number → length old + length (groups 10 number) ≤ capacity →
    length out < capacity
has_room old out at rest number capacity lt is room =
    omega (
      arith,
      ap length is,
      length-append out (groups (10 - at) rest),
      length-append old (groups 10 number),
      some_group (10 - at) rest (omega (arith, lt)),
    )

pub rest_below : (at rest : ℕ) → worth at rest < 2 ^ 64 → worth (at + 1) (rest / 128) < 2 ^ 64
rest_below at rest lt =
    let plus : suc at ≡ at + 1 = omega arith in
    subst (λ (k : ℕ). worth k (rest / 128) < 2 ^ 64) plus
    (omega (arith, worth-128 at (rest / 128), worth-mono at (128 * (rest / 128)) rest (omega arith)))

pub rest_last : (at rest : ℕ) → 9 ≤ at → at ≤ 9 → worth at rest < 2 ^ 64 → rest < 2
rest_last at rest low high lt = grind (arith, worth)

-- a number of 32 bits has no more than five groups
pub groups_5 : (z : ℤ) → FitsSigned w32 z → groups 10 (zigzag z) ≡ groups 5 (zigzag z)
groups_5 z h = groups_is 5 (groups 10 (zigzag z)) (zigzag z) (omega (arith, zigzag-fits_32 z h)) (omega arith)
    (IsBase128-groups 10 (zigzag z) (omega (arith, zigzag-fits_32 z h)) (omega arith))

pub cast_from_32 : (z : ℤ) → FitsSigned w32 z →
    cast_signed w64 (cast_unsigned w64 (cast_signed w32 (cast_unsigned w32 z))) ≡ z
cast_from_32 z h = ap (λ (x : ℤ). cast_signed w64 (cast_unsigned w64 x)) (to_z-of_z w32 z h) ∙ cast_64 z h

-- its groups are its varint
pub varint_is : (z : ℤ) (n : ℕ) → FitsSigned w32 z →
    n ≡ zigzag (cast_signed w64 (cast_unsigned w64 (cast_signed w32 (cast_unsigned w32 z)))) →
    groups 10 n ≡ varint z
unfolding varint
varint_is z n h is = ap (groups 10) (is ∙ ap zigzag (cast_from_32 z h)) ∙ groups_5 z h

-- ---- Lengths

pub len_more : (len rest total : ℕ) → len < 10 → 128 ≤ rest → len + length (groups (11 - len) rest) ≡ total →
    (len + 1) + length (groups (11 - (len + 1)) (rest / 128)) ≡ total
unfolding groups
len_more len rest total lt more is =
    let left : 11 - len ≡ suc (11 - (len + 1)) = omega arith in
    let before : len + suc (length (groups (11 - (len + 1)) (rest / 128))) ≡ total =
    rw (left, le-ltb rest 128 more) at is in
    omega arith

pub len_last : (len rest total : ℕ) → len < 10 → rest < 128 → len + length (groups (11 - len) rest) ≡ 1 + total →
    len ≡ total
unfolding groups
len_last len rest total lt few is = grind (arith, lt-ltb)

one_group : (rest : ℕ) → length (groups 1 rest) ≡ 1
unfolding groups
one_group rest = grind (arith, cases_lt, lt-ltb, le-ltb)

pub len_end : (len rest total : ℕ) → 10 ≤ len → len ≤ 10 → len + length (groups (11 - len) rest) ≡ 1 + total →
    10 ≡ total
len_end len rest total low high is =
    let ten : len ≡ 10 = omega arith in
    let there : 10 + length (groups (11 - 10) rest) ≡ 1 + total =
    subst (λ (k : ℕ). k + length (groups (11 - k) rest) ≡ 1 + total) ten is in
    omega (arith, one_group rest, there)
