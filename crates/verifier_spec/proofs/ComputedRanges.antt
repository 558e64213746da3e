-- What an operation or a change makes of intervals: it has what they make of the intervals' numbers, keeps the order of
-- intervals, and is an interval of its width.
use Rattle.std.proofs.Common.{◌≡◌, ℕ, suc, ◌+◌, ◌*◌, ◌/◌, ◌%◌, ◌^◌, ◌<◌, ◌≤◌, pos, arith, zero-le, le_trans}
use Rattle.std.proofs.Common.{mod-eq_of_lt, mod-lt, pow_mono, ⊎_elim, ◌-◌, max, Bool, true, ◌&&◌, if◌then◌else◌, refl}
use Rattle.std.proofs.Common.{pow_pos}
use Rattle.std.proofs.Math.Nat.{div-mul-le_self, pow-suc, div-le_self, add-mod_right, mod-le}
use Rattle.std.proofs.lemmas.{Int.to_z_pos, Bool.cond_both, Bool.ltb-true, Bool.cases_lt, Bool.eq-eqb}
use Rattle.std.proofs.lemmas.Nat.{le-div, leading_length, and_le_l, and_le_r, or_lt, xor_lt, mul-le}
use Rattle.std.specs.{Int.w32, Int.w64, Int.w8, Int.w16, Prelude.bit_or, Prelude.bit_xor}
use Rattle.machine_spec.specs.declared.operation.{Width.Width, Width.TheVariants.Bits32, Width.TheVariants.Bits64}
use Rattle.machine_spec.specs.Arithmetic.{limit, low_bits, signed, bit_count, signed_part, extended_bits, swapped_bits}
use Rattle.machine_spec.specs.Arithmetic.{changed_bits, operation_result, number_of, changed_number}
use Rattle.verifier_spec.specs.declared.interval.Interval.{Interval}
use Rattle.verifier_spec.specs.Intervals.{IsIn, IsRangeOf, whole, cut_to_width, unless_wrapping, half, bit_length}
use Rattle.verifier_spec.specs.Intervals.{from_to, IsPartOf, is_non_negative, of_same_bits, quotients, remainders}
use Rattle.verifier_spec.specs.Intervals.{computed_range, result_range, changed_range}
use Rattle.machine_spec.specs.declared.{operation.Operation.Operation, operation.ExtendedWidth.ExtendedWidth}
use Rattle.machine_spec.specs.declared.operation.Change.{Change}
use Rattle.machine_spec.specs.declared.operation.Operation.TheVariants as operation
use Rattle.machine_spec.specs.declared.operation.ExtendedWidth.TheVariants as extended
use Rattle.machine_spec.specs.declared.operation.Change.TheVariants.{Negate, Order, SignExtend}
use Rattle.machine_spec.proofs.Results.{limit_pos, limit_le, half_lt, computed-lt, changed_number-lt}

-- ---- numbers

pub div_mono : (a b k : ℕ) → 0 < k → a ≤ b → a / k ≤ b / k
div_mono a b k positive h = le-div (a / k) b k positive (le_trans (div-mul-le_self a k) h)

-- a number that is not negative when it is read as signed is the same then
pub signed_pos : (width : Width) (n : ℕ) → n < half width → signed width n ≡ pos n
signed_pos Bits32 n h = to_z_pos w32 n h
signed_pos Bits64 n h = to_z_pos w64 n h

-- what is known of a number's length in bits
record IsLength (n m : ℕ) : Type 0 where
  is : bit_length n ≡ m
  below : n < 2 ^ m
  half_below : 2 ^ m ≤ 2 * n + 1

length_known : (n : ℕ) → n < 2 ^ 64 → (m : ℕ) × IsLength n m
length_known n h =
    let (m, e, below, above) = leading_length 64 n h in
    (m, record { is = omega arith; below = below; half_below = above })

-- the length in bits is the least k for which the number is below 2^k
pub bit_length-lt : (n : ℕ) → n < 2 ^ 64 → n < 2 ^ bit_length n
bit_length-lt n h = let (m, k) = length_known n h in rw k.is k.below

least_length : (n m k : ℕ) → IsLength n m → n < 2 ^ k → m ≤ k
least_length n m k l small =
    ⊎_elim (λ (h : k < m). let double : 2 ^ (suc k) ≤ 2 ^ m = pow_mono h in
    let twice : 2 ^ (suc k) ≡ 2 ^ k * 2 = pow-suc 2 k in absurd (omega arith)) (λ (h : m ≤ k). h)
    (cases_lt k m)

pub bit_length_least : (n k : ℕ) → n < 2 ^ 64 → n < 2 ^ k → bit_length n ≤ k
bit_length_least n k h small = let (m, l) = length_known n h in rw l.is (least_length n m k l small)

-- ---- intervals

pub in_whole : (width : Width) (n : ℕ) → n < limit width → IsIn n (whole width)
in_whole width n h = record { low = zero-le; high = omega arith }

-- a number that is wrapped at the limit
pub in_unless_wrapping : (width : Width) (low high n : ℕ) → 0 < limit width → low ≤ n → n ≤ high →
    IsIn (n % limit width) (unless_wrapping width low high)
in_unless_wrapping width low high n positive low_n n_high =
    cond_both _ _ _ (IsIn (n % limit width))
    (λ e. let small = ltb-true high (limit width) e in
    let same : n % limit width ≡ n = mod-eq_of_lt (omega arith) in
    record { low = omega arith; high = omega arith })
    (λ e. in_whole width (n % limit width) (mod-lt n positive))

-- ---- the part of an operand that an operation takes

pub cut_has : (width : Width) (x : Interval) (n : ℕ) → IsIn n x → IsIn (low_bits width n) (cut_to_width width x)
cut_has Bits32 x n h =
    cond_both _ _ _ (IsIn (n % 2 ^ 32))
    (λ e. let small = ltb-true x.high (2 ^ 32) e in record { low = omega arith; high = omega arith })
    (λ e. in_whole Bits32 (n % 2 ^ 32) (omega arith))
cut_has Bits64 x n h = h

pub cut_range : (width : Width) (x : Interval) → IsRangeOf Bits64 x → IsRangeOf width (cut_to_width width x)
cut_range Bits32 x h =
    cond_both _ _ _ (IsRangeOf Bits32)
    (λ e. record { order = h.order; limited = ltb-true _ _ e })
    (λ e. record { order = omega arith; limited = omega arith })
cut_range Bits64 x h = h

-- ---- the greatest result is one of the width

same_bits_limited : (width : Width) (x y : Interval) → x.high < limit width → y.high < limit width →
    (of_same_bits x y).high < limit width
same_bits_limited width x y p q =
    let le = limit_le width in
    let least : bit_length (max x.high y.high) ≤ bit_count width =
    bit_length_least (max x.high y.high) (bit_count width) (omega arith) (omega arith) in
    let power : 2 ^ bit_length (max x.high y.high) ≤ limit width = pow_mono least in
    let positive = pow_pos (bit_length (max x.high y.high)) in
    omega arith

computed_limited : (width : Width) (operation : Operation) (x y : Interval) → x.high < limit width →
    y.high < limit width → (computed_range width operation x y).high < limit width
computed_limited width operation.Or x y p q = same_bits_limited width x y p q
computed_limited width operation.Xor x y p q = same_bits_limited width x y p q
computed_limited width operation.Add x y p q = grind (arith, limit_pos)
computed_limited width operation.Sub x y p q = grind (arith, limit_pos)
computed_limited width operation.Mul x y p q = grind (arith, limit_pos)
computed_limited width operation.Div x y p q = grind (arith, div-le_self)
computed_limited width operation.SignedDiv x y p q = grind (arith, limit_pos, div-le_self)
computed_limited width operation.And x y p q = omega arith
computed_limited width operation.LeftShift x y p q = grind (arith, limit_pos)
computed_limited width operation.RightShift x y p q = grind (arith, div-le_self)
computed_limited width operation.Mod x y p q = grind arith
computed_limited width operation.SignedMod x y p q = grind (arith, limit_pos)
computed_limited width operation.ArithmeticRightShift x y p q = grind (arith, limit_pos, div-le_self)

-- ---- of operands within others the result is within theirs

same_bits_part : (x y a b : Interval) → IsPartOf x a → IsPartOf y b → a.high < 2 ^ 64 → b.high < 2 ^ 64 →
    IsPartOf (of_same_bits x y) (of_same_bits a b)
same_bits_part x y a b in_a in_b p q =
    let below = bit_length-lt (max a.high b.high) (omega arith) in
    let least = bit_length_least (max x.high y.high) (bit_length (max a.high b.high)) (omega arith) (omega arith) in
    let power : 2 ^ bit_length (max x.high y.high) ≤ 2 ^ bit_length (max a.high b.high) = pow_mono least in
    record { low = zero-le; high = omega arith }

quotients_part : (x y a b : Interval) → IsPartOf x a → IsPartOf y b → y.low ≤ y.high →
    IsPartOf (quotients x y) (quotients a b)
quotients_part x y a b in_a in_b order =
    record { low = grind (arith, div_mono); high = grind (arith, div_mono, div-le_self) }

remainders_part : (x y a b : Interval) → IsPartOf x a → IsPartOf y b → y.low ≤ y.high →
    IsPartOf (remainders x y) (remainders a b)
remainders_part x y a b in_a in_b order = record { low = grind arith; high = grind arith }

-- an interval where a test holds, or else every number, is within another where that one's test implies it
or_whole_part : (width : Width) (outer_test inner_test : Bool) (outer inner : Interval) →
    (outer_test ≡ true → inner_test ≡ true) → IsPartOf inner outer →
    (if inner_test then inner else whole width).high < limit width →
    IsPartOf (if inner_test then inner else whole width) (if outer_test then outer else whole width)
or_whole_part width outer_test inner_test outer inner follows part limited =
    record { low = grind arith; high = grind arith }

pub computed_part : (width : Width) (operation : Operation) (x y a b : Interval) → IsPartOf x a → IsPartOf y b →
    IsRangeOf width x → IsRangeOf width y → a.high < limit width → b.high < limit width →
    IsPartOf (computed_range width operation x y) (computed_range width operation a b)
computed_part width operation.Or x y a b in_a in_b xr yr p q =
    let le = limit_le width in same_bits_part x y a b in_a in_b (omega arith) (omega arith)
computed_part width operation.Xor x y a b in_a in_b xr yr p q =
    let le = limit_le width in same_bits_part x y a b in_a in_b (omega arith) (omega arith)
computed_part width operation.Add x y a b in_a in_b xr yr p q =
    record { low = grind arith; high = grind (arith, limit_pos) }
computed_part width operation.Sub x y a b in_a in_b xr yr p q =
    record { low = grind arith; high = grind (arith, limit_pos) }
computed_part width operation.Mul x y a b in_a in_b xr yr p q =
    record { low = grind (arith, mul-le); high = grind (arith, mul-le, limit_pos) }
computed_part width operation.Div x y a b in_a in_b xr yr p q = quotients_part x y a b in_a in_b yr.order
computed_part width operation.SignedDiv x y a b in_a in_b xr yr p q =
    or_whole_part width (is_non_negative width a && is_non_negative width b)
    (is_non_negative width x && is_non_negative width y) _ _ (λ e. grind arith)
    (quotients_part x y a b in_a in_b yr.order) (computed_limited width operation.SignedDiv x y xr.limited yr.limited)
computed_part width operation.And x y a b in_a in_b xr yr p q = record { low = zero-le; high = omega arith }
computed_part width operation.LeftShift x y a b in_a in_b xr yr p q =
    let power = 2 ^ (b.low % bit_count width) in
    let low : a.low * power ≤ x.low * power = mul-le _ _ _ _ in_a.low (omega arith) in
    let high : x.high * power ≤ a.high * power = mul-le _ _ _ _ in_a.high (omega arith) in
    record { low = grind arith; high = grind (arith, limit_pos) }
computed_part width operation.RightShift x y a b in_a in_b xr yr p q =
    record { low = grind (arith, div_mono, pow_pos); high = grind (arith, div_mono, div-le_self, pow_pos) }
computed_part width operation.Mod x y a b in_a in_b xr yr p q = remainders_part x y a b in_a in_b yr.order
computed_part width operation.SignedMod x y a b in_a in_b xr yr p q =
    or_whole_part width (is_non_negative width a && is_non_negative width b)
    (is_non_negative width x && is_non_negative width y) _ _ (λ e. grind arith)
    (remainders_part x y a b in_a in_b yr.order) (computed_limited width operation.SignedMod x y xr.limited yr.limited)
computed_part width operation.ArithmeticRightShift x y a b in_a in_b xr yr p q =
    record { low = grind (arith, div_mono, pow_pos); high = grind (arith, div_mono, div-le_self, pow_pos) }

-- ---- of two numbers the result is in that of the intervals that have no other

abbrev one : ℕ → Interval
one n = from_to n n

-- a difference that does not wrap
difference : (limit a b : ℕ) → a < limit → b ≤ a → (a + (limit - b)) % limit ≡ a - b
difference limit a b h le =
    let sum : a + (limit - b) ≡ (a - b) + limit = omega arith in
    rw (sum, add-mod_right) (mod-eq_of_lt (omega arith))

-- numbers that are not negative are divided and shifted alike when they are read as signed
signed_quotient : (width : Width) (n m : ℕ) → n < half width → m < half width →
    operation_result width operation.SignedDiv n m ≡ n / m
signed_quotient width n m p q = rw (signed_pos width n p, signed_pos width m q)

signed_remainder : (width : Width) (n m : ℕ) → n < half width → m < half width →
    operation_result width operation.SignedMod n m ≡ n % m
signed_remainder width n m p q = rw (signed_pos width n p, signed_pos width m q)

signed_shift : (width : Width) (n m : ℕ) → n < half width →
    operation_result width operation.ArithmeticRightShift n m ≡ operation_result width operation.RightShift n m
signed_shift width n m p = rw (signed_pos width n p)

-- a number below each power of 2 that both numbers are below
bits_in : (width : Width) (n m result : ℕ) → n < limit width → m < limit width →
    ((k : ℕ) → n < 2 ^ k → m < 2 ^ k → result < 2 ^ k) → IsIn result (of_same_bits (one n) (one m))
bits_in width n m result p q smaller =
    let le = limit_le width in
    let most = bit_length-lt (max n m) (omega arith) in
    let small = smaller (bit_length (max n m)) (omega arith) (omega arith) in
    record { low = zero-le; high = omega arith }

single_in : (width : Width) (operation : Operation) (n m : ℕ) → n < limit width → m < limit width →
    IsIn (operation_result width operation n m) (computed_range width operation (one n) (one m))
single_in width operation.Add n m p q = in_unless_wrapping width _ _ _ (limit_pos width) (omega arith) (omega arith)
single_in width operation.Sub n m p q =
    let result = computed-lt width operation.Sub n m p q in
    let same = difference (limit width) n m p in
    record { low = grind arith; high = grind arith }
single_in width operation.Mul n m p q = in_unless_wrapping width _ _ _ (limit_pos width) (omega arith) (omega arith)
single_in width operation.Div n m p q = record { low = grind arith; high = grind (arith, div-le_self) }
single_in width operation.SignedDiv n m p q =
    let result = computed-lt width operation.SignedDiv n m p q in
    record { low = grind (arith, signed_quotient); high = grind (arith, signed_quotient, div-le_self) }
single_in width operation.Or n m p q = bits_in width n m (bit_or n m) p q (λ k. or_lt k n m)
single_in width operation.And n m p q =
    let p = and_le_l n m in let q = and_le_r n m in record { low = zero-le; high = omega arith }
single_in width operation.LeftShift n m p q =
    rw (eq-eqb m m refl) (in_unless_wrapping width _ _ _ (limit_pos width) (omega arith) (omega arith))
single_in width operation.RightShift n m p q = record { low = grind arith; high = grind arith }
single_in width operation.Mod n m p q = record { low = grind arith; high = grind (arith, mod-lt, mod-le) }
single_in width operation.SignedMod n m p q =
    let result = computed-lt width operation.SignedMod n m p q in
    record { low = grind arith; high = grind (arith, signed_remainder, mod-lt, mod-le) }
single_in width operation.Xor n m p q = bits_in width n m (bit_xor n m) p q (λ k. xor_lt k n m)
single_in width operation.ArithmeticRightShift n m p q =
    let result = computed-lt width operation.ArithmeticRightShift n m p q in
    record { low = grind (arith, signed_shift); high = grind (arith, signed_shift) }

pub computed_in : (width : Width) (operation : Operation) (x y : Interval) (n m : ℕ) → IsIn n x → IsIn m y →
    x.high < limit width → y.high < limit width →
    IsIn (operation_result width operation n m) (computed_range width operation x y)
computed_in width operation x y n m in_x in_y p q =
    let part = computed_part width operation (one n) (one m) x y (assumption in_x) (assumption in_y)
    (record { order = omega arith; limited = omega arith }) (record { order = omega arith; limited = omega arith })
    p q in
    let single = single_in width operation n m (omega arith) (omega arith) in
    record { low = omega arith; high = omega arith }

-- the result of the least numbers is in the interval, so it is not empty
pub computed_proper : (width : Width) (x y : Interval) → IsRangeOf width x → IsRangeOf width y →
    (operation : Operation) → IsRangeOf width (computed_range width operation x y)
computed_proper width x y p q operation =
    let has = computed_in width operation x y x.low y.low (record { low = omega arith; high = p.order })
    (record { low = omega arith; high = q.order }) p.limited q.limited in
    record { order = le_trans has.low has.high; limited = computed_limited width operation x y p.limited q.limited }

-- ---- operations on operands of 64 bits, which take the part of their width

pub cut_part : (width : Width) (inner outer : Interval) → IsRangeOf Bits64 inner → IsPartOf inner outer →
    IsPartOf (cut_to_width width inner) (cut_to_width width outer)
cut_part Bits32 inner outer proper h = record { low = grind arith; high = grind arith }
cut_part Bits64 inner outer proper h = h

pub result_in : (width : Width) (operation : Operation) (x y : Interval) (n m : ℕ) → IsRangeOf Bits64 x →
    IsRangeOf Bits64 y → IsIn n x → IsIn m y → IsIn (number_of width operation n m) (result_range width operation x y)
result_in width operation x y n m p q in_x in_y =
    computed_in width operation _ _ _ _ (cut_has width x n in_x) (cut_has width y m in_y)
    (cut_range width x p).limited (cut_range width y q).limited

pub result_part : (width : Width) (operation : Operation) (x y a b : Interval) → IsRangeOf Bits64 x →
    IsRangeOf Bits64 y → IsRangeOf Bits64 a → IsRangeOf Bits64 b → IsPartOf x a → IsPartOf y b →
    IsPartOf (result_range width operation x y) (result_range width operation a b)
result_part width operation x y a b xr yr ar br in_a in_b =
    computed_part width operation _ _ _ _ (cut_part width x a xr in_a) (cut_part width y b yr in_b)
    (cut_range width x xr) (cut_range width y yr) (cut_range width a ar).limited (cut_range width b br).limited

pub result_proper : (width : Width) (operation : Operation) (x y : Interval) → IsRangeOf Bits64 x → IsRangeOf Bits64 y →
    IsRangeOf width (result_range width operation x y)
result_proper width operation x y p q =
    computed_proper width _ _ (cut_range width x p) (cut_range width y q) operation

-- ---- changes of one number

-- a number whose sign bit as a part of its bits is 0 is the same when that part is read as signed
part_pos : (part : ExtendedWidth) (n : ℕ) → n < 2 ^ (extended_bits part - 1) → signed_part part n ≡ pos n
part_pos extended.Bits8 n h = rw (mod-eq_of_lt {n = n} {m = 2 ^ 8} (omega arith)) (to_z_pos w8 n h)
part_pos extended.Bits16 n h = rw (mod-eq_of_lt {n = n} {m = 2 ^ 16} (omega arith)) (to_z_pos w16 n h)
part_pos extended.Bits32 n h = rw (mod-eq_of_lt {n = n} {m = 2 ^ 32} (omega arith)) (to_z_pos w32 n h)

part_le : (part : ExtendedWidth) → 2 ^ (extended_bits part - 1) ≤ 2 ^ 31
part_le extended.Bits8 = omega arith
part_le part = omega arith

pub changed_in : (change : Change) (x : Interval) (n : ℕ) → IsRangeOf Bits64 x → IsIn n x →
    IsIn (changed_number change n) (changed_range change x)
changed_in (Negate width) x n p h =
    in_whole width (changed_number (Negate width) n) (changed_number-lt (Negate width) n (omega arith))
changed_in (Order order width) x n p h =
    let small = changed_number-lt (Order order width) n (omega arith) in record { low = zero-le; high = omega arith }
changed_in (SignExtend width part) x n p h =
    cond_both _ _ _ (IsIn (changed_number (SignExtend width part) n))
    (λ e. let small = ltb-true x.high (2 ^ (extended_bits part - 1)) e in rw (part_pos part n (omega arith)) h)
    (λ e. in_whole width (changed_number (SignExtend width part) n)
    (changed_number-lt (SignExtend width part) n (omega arith)))

changed_limited : (change : Change) (x : Interval) → (changed_range change x).high < 2 ^ changed_bits change
changed_limited (Negate width) x = grind (arith, limit_pos)
changed_limited (Order order width) x = let positive = pow_pos (swapped_bits width) in omega arith
changed_limited (SignExtend width part) x =
    let small = part_le part in let wide = half_lt width in grind arith

-- What a change makes of an interval is one of its width.
pub record IsChangedRange (change : Change) (range : Interval) : Type 0 where
  pub order : range.low ≤ range.high
  pub limited : range.high < 2 ^ changed_bits change

pub changed_proper : (change : Change) (x : Interval) → IsRangeOf Bits64 x →
    IsChangedRange change (changed_range change x)
changed_proper change x p =
    let has = changed_in change x x.low p (record { low = omega arith; high = p.order }) in
    record { order = le_trans has.low has.high; limited = changed_limited change x }

pub changed_part : (change : Change) (x a : Interval) → IsRangeOf Bits64 x → IsPartOf x a →
    IsPartOf (changed_range change x) (changed_range change a)
changed_part (Negate width) x a proper h = record { low = omega arith; high = omega arith }
changed_part (Order order width) x a proper h = record { low = omega arith; high = omega arith }
changed_part (SignExtend width part) x a proper h =
    let small = part_le part in let wide = half_lt width in record { low = grind arith; high = grind arith }
