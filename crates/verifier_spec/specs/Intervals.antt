-- Intervals of numbers: what an operation or a change makes of them, and what a conditional jump by a constant leaves
-- of them along its edges.
use Rattle.std.specs.Prelude.{ℕ, zero, suc, ◌+◌, ◌-◌, ◌*◌, ◌/◌, ◌%◌, ◌^◌, ◌<◌, ◌≤◌, Bool, true, false, ◌==◌, ◌&&◌}
use Rattle.std.specs.Prelude.{nat_lt, nat_le, min, max, if◌then◌else◌, Option, Some, None}
use Rattle.std.specs.Int.{w64, leading_zeros}
use Rattle.machine_spec.specs.declared.{operation.Width.Width, operation.Operation.Operation, operation.Change.Change}
use Rattle.machine_spec.specs.declared.operation.Test.{Test}
use Rattle.machine_spec.specs.declared.operation.Width.TheVariants.{Bits32, Bits64}
use Rattle.machine_spec.specs.declared.operation.Operation.TheVariants.{Add, Sub, Mul, Div, SignedDiv, Or, And}
use Rattle.machine_spec.specs.declared.operation.Operation.TheVariants.{LeftShift, RightShift, Mod, SignedMod, Xor}
use Rattle.machine_spec.specs.declared.operation.Operation.TheVariants.{ArithmeticRightShift}
use Rattle.machine_spec.specs.declared.operation.Change.TheVariants.{Negate, Order, SignExtend}
use Rattle.machine_spec.specs.declared.operation.Test.TheVariants.{Equal, NotEqual, Greater, GreaterOrEqual, Less}
use Rattle.machine_spec.specs.declared.operation.Test.TheVariants.{LessOrEqual}
use Rattle.machine_spec.specs.Arithmetic.{bit_count, limit, swapped_bits, extended_bits}
use Rattle.verifier_spec.specs.declared.interval.Interval.{Interval}

-- the numbers from one to another
abbrev pub from_to : ℕ → ℕ → Interval
from_to low high = record { low = low; high = high }

-- a number is in an interval
pub record IsIn (n : ℕ) (range : Interval) : Type 0 where
  pub low : range.low ≤ n
  pub high : n ≤ range.high

-- the numbers of an interval are in another
pub record IsPartOf (inner outer : Interval) : Type 0 where
  pub low : outer.low ≤ inner.low
  pub high : inner.high ≤ outer.high

-- an interval has a number, and its numbers are of a width
pub record IsRangeOf (width : Width) (range : Interval) : Type 0 where
  pub order : range.low ≤ range.high
  pub limited : range.high < limit width

-- ---- operations

-- every number of a width
abbrev pub whole : Width → Interval
whole width = from_to 0 (limit width - 1)

-- What an operation of a width takes of an operand's numbers: at 32 bits, where one of them has more, any 32 bits.
abbrev pub cut_to_width : Width → Interval → Interval
cut_to_width Bits32 x = if nat_lt x.high (2 ^ 32) then x else whole Bits32
cut_to_width Bits64 x = x

-- every number of the width where the greatest of an interval would wrap
abbrev pub unless_wrapping : Width → ℕ → ℕ → Interval
unless_wrapping width low high = if nat_lt high (limit width) then from_to low high else whole width

-- an interval has one number
abbrev pub is_single : Interval → Bool
is_single x = x.low == x.high

-- one more than the greatest number that is not negative when it is read as signed
abbrev pub half : Width → ℕ
half Bits32 = 2 ^ 31
half Bits64 = 2 ^ 63

-- no number of an interval is negative when it is read as signed
abbrev pub is_non_negative : Width → Interval → Bool
is_non_negative width x = nat_lt x.high (half width)

-- the least k for which a number, which is below 2^64, is below 2^k
abbrev pub bit_length : ℕ → ℕ
bit_length n = 64 - leading_zeros w64 n

-- every number of as many bits as the greatest ones have
abbrev pub of_same_bits : Interval → Interval → Interval
of_same_bits x y = from_to 0 (2 ^ bit_length (max x.high y.high) - 1)

-- a divisor that is one number and not 0
abbrev pub is_divisor : Interval → Bool
is_divisor y = is_single y && nat_lt 0 y.low

-- quotients and remainders; by a divisor that is not known they are no greater than the dividend
abbrev pub quotients : Interval → Interval → Interval
quotients x y = if is_divisor y then from_to (x.low / y.low) (x.high / y.low) else from_to 0 x.high

abbrev pub remainders : Interval → Interval → Interval
remainders x y = if is_divisor y then from_to 0 (min x.high (y.low - 1)) else from_to 0 x.high

-- numbers shifted by a count that is one number
abbrev pub shifted_left : Width → Interval → ℕ → Interval
shifted_left width x count = unless_wrapping width (x.low * 2 ^ (count % bit_count width))
    (x.high * 2 ^ (count % bit_count width))

abbrev pub shifted_right : Width → Interval → ℕ → Interval
shifted_right width x count = from_to (x.low / 2 ^ (count % bit_count width)) (x.high / 2 ^ (count % bit_count width))

-- The results of an operation on numbers of a width. Where one could wrap or be negative as a signed number, they are
-- every number of the width.
abbrev pub computed_range : Width → Operation → Interval → Interval → Interval
computed_range width Add x y = unless_wrapping width (x.low + y.low) (x.high + y.high)
computed_range width Sub x y = if nat_le y.high x.low then from_to (x.low - y.high) (x.high - y.low) else whole width
computed_range width Mul x y = unless_wrapping width (x.low * y.low) (x.high * y.high)
computed_range width Div x y = quotients x y
computed_range width SignedDiv x y = if is_non_negative width x
    && is_non_negative width y then quotients x y else whole width
computed_range width Or x y = of_same_bits x y
computed_range width And x y = from_to 0 (min x.high y.high)
computed_range width LeftShift x y = if is_single y then shifted_left width x y.low else whole width
computed_range width RightShift x y = if is_single y then shifted_right width x y.low else from_to 0 x.high
computed_range width Mod x y = remainders x y
computed_range width SignedMod x y = if is_non_negative width x
    && is_non_negative width y then remainders x y else whole width
computed_range width Xor x y = of_same_bits x y
computed_range width ArithmeticRightShift x y = if is_single y
    && is_non_negative width x then shifted_right width x y.low else whole width

-- the results of an operation on numbers below 2^64
abbrev pub result_range : Width → Operation → Interval → Interval → Interval
result_range width operation x y = computed_range width operation (cut_to_width width x) (cut_to_width width y)

-- ---- changes of one number

-- The results of a change. A sign extension keeps numbers whose bits past the part, and its sign, are 0.
abbrev pub changed_range : Change → Interval → Interval
changed_range (Negate width) x = whole width
changed_range (Order order width) x = from_to 0 (2 ^ swapped_bits width - 1)
changed_range (SignExtend width part) x = if nat_lt x.high (2 ^ (extended_bits part - 1)) then x else whole width

-- ---- conditional jumps by a constant

-- an interval, or none where it would have no number
abbrev pub if_any : ℕ → ℕ → Option Interval
if_any low high = if nat_le low high then Some (from_to low high) else None

-- the numbers of an interval that are c
abbrev pub equal_to : Interval → ℕ → Option Interval
equal_to x c = if_any (max x.low c) (min x.high c)

-- all but c, where it is at an end
abbrev pub different_from : Interval → ℕ → Option Interval
different_from x c =
    if x.low == c then if_any (x.low + 1) x.high else (if x.high == c then if_any x.low (x.high - 1) else Some x)

-- those above c, at least c, at most c, and below c
abbrev pub above : Interval → ℕ → Option Interval
above x c = if_any (max x.low (c + 1)) x.high

abbrev pub at_least : Interval → ℕ → Option Interval
at_least x c = if_any (max x.low c) x.high

abbrev pub at_most : Interval → ℕ → Option Interval
at_most x c = if_any x.low (min x.high c)

abbrev pub below : Interval → ℕ → Option Interval
below x zero = None
below x (suc c) = at_most x c

-- what a test of 64 bits leaves of an interval where it holds; a test for a bit, or of signed numbers, leaves all
abbrev pub passing_part : Test → Interval → ℕ → Option Interval
passing_part Equal x c = equal_to x c
passing_part NotEqual x c = different_from x c
passing_part Greater x c = above x c
passing_part GreaterOrEqual x c = at_least x c
passing_part Less x c = below x c
passing_part LessOrEqual x c = at_most x c
passing_part _ x c = Some x

-- the test that holds where another does not; of those that leave all, the same
abbrev pub opposite : Test → Test
opposite Equal = NotEqual
opposite NotEqual = Equal
opposite Greater = LessOrEqual
opposite GreaterOrEqual = Less
opposite Less = GreaterOrEqual
opposite LessOrEqual = Greater
opposite test = test

-- What a jump by a constant leaves of an interval where it is taken, and where it is not. One of 32 bits leaves all.
abbrev pub narrowed_interval : Width → Test → Bool → Interval → ℕ → Option Interval
narrowed_interval Bits32 test taken x c = Some x
narrowed_interval Bits64 test true x c = passing_part test x c
narrowed_interval Bits64 test false x c = passing_part (opposite test) x c
