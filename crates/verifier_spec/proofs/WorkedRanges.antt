-- Intervals worked out by computing: ends, single and several counts and divisors, both widths, and each edge of a
-- jump.
use Rattle.std.proofs.Common.{◌≡◌, ℕ, ◌+◌, ◌-◌, ◌^◌, Bool, true, false, List, [], ◌∷◌, map, Option, Some, None, refl}
use Rattle.std.specs.Int.Count.{count_leading_zeros}
use Rattle.machine_spec.specs.declared.{operation.Width.Width, operation.Operation.Operation, operation.Change.Change}
use Rattle.machine_spec.specs.declared.{operation.Test.Test, operation.ByteOrder.TheVariants.Swapped}
use Rattle.machine_spec.specs.declared.operation.Width.TheVariants.{Bits32, Bits64}
use Rattle.machine_spec.specs.declared.operation.Operation.TheVariants.{Add, Sub, Mul, Div, SignedDiv, Or, And}
use Rattle.machine_spec.specs.declared.operation.Operation.TheVariants.{LeftShift, RightShift, Mod, SignedMod, Xor}
use Rattle.machine_spec.specs.declared.operation.Operation.TheVariants.{ArithmeticRightShift}
use Rattle.machine_spec.specs.declared.operation.SwappedWidth.TheVariants as swapped
use Rattle.machine_spec.specs.declared.operation.ExtendedWidth.TheVariants as extended
use Rattle.machine_spec.specs.declared.operation.Change.TheVariants.{Negate, Order, SignExtend}
use Rattle.machine_spec.specs.declared.operation.Test.TheVariants.{Equal, NotEqual, Greater, GreaterOrEqual, Less}
use Rattle.machine_spec.specs.declared.operation.Test.TheVariants.{LessOrEqual, AnyBit, SignedLess}
use Rattle.verifier_spec.specs.declared.interval.Interval.{Interval}
use Rattle.verifier_spec.specs.Intervals.{from_to, result_range, changed_range, narrowed_interval}

-- the results of an operation on an interval and each of several others
abbrev results : Width → Operation → Interval → List Interval → List Interval
results width operation x others = map (λ y. result_range width operation x y) others

abbrev changes : Change → List Interval → List Interval
changes change operands = map (λ x. changed_range change x) operands

-- what a 64-bit test by constants leaves of an interval
abbrev edges : Test → Bool → Interval → List ℕ → List (Option Interval)
edges test taken x constants = map (λ c. narrowed_interval Bits64 test taken x c) constants

abbrev one : ℕ → Interval
one n = from_to n n

abbrev any_64 : Interval
any_64 = from_to 0 (2 ^ 64 - 1)

abbrev any_32 : Interval
any_32 = from_to 0 (2 ^ 32 - 1)

-- ---- operations

add_64 : results Bits64 Add (from_to 5 9) (from_to 2 3 ∷ from_to 0 (2 ^ 64 - 10) ∷ from_to 0 (2 ^ 64 - 9) ∷ [])
    ≡ from_to 7 12 ∷ from_to 5 (2 ^ 64 - 1) ∷ any_64 ∷ []
add_64 = refl

add_32 : results Bits32 Add (from_to 5 9) (from_to 2 3 ∷ one (2 ^ 32 - 10) ∷ from_to 0 (2 ^ 32 - 9) ∷ one (2 ^ 32) ∷ [])
    ≡ from_to 7 12 ∷ from_to (2 ^ 32 - 5) (2 ^ 32 - 1) ∷ any_32 ∷ any_32 ∷ []
add_32 = refl

sub_64 : results Bits64 Sub (from_to 5 9) (from_to 2 3 ∷ from_to 2 5 ∷ from_to 2 6 ∷ []) ≡ from_to 2 7 ∷ from_to 0 7
    ∷ any_64 ∷ []
sub_64 = refl

sub_32 : results Bits32 Sub (from_to 5 9) (from_to 2 3 ∷ from_to 2 6 ∷ one (2 ^ 32) ∷ []) ≡ from_to 2 7 ∷ any_32
    ∷ any_32 ∷ []
sub_32 = refl

mul_64 : results Bits64 Mul (from_to 2 3) (from_to 4 5 ∷ one (2 ^ 63) ∷ []) ≡ from_to 8 15 ∷ any_64 ∷ []
mul_64 = refl

mul_32 : results Bits32 Mul (from_to 2 3) (from_to 4 5 ∷ one (2 ^ 31) ∷ []) ≡ from_to 8 15 ∷ any_32 ∷ []
mul_32 = refl

and : results Bits64 And (from_to 5 9) (one 3 ∷ any_64 ∷ []) ≡ from_to 0 3 ∷ from_to 0 9 ∷ []
and = refl

or : results Bits64 Or (from_to 0 5) (from_to 0 8 ∷ one 7 ∷ one (2 ^ 63) ∷ []) ≡ from_to 0 15 ∷ from_to 0 7 ∷ any_64
    ∷ []
unfolding count_leading_zeros
or = refl

or_zero : results Bits32 Or (one 0) (one 0 ∷ one 1 ∷ one (2 ^ 32) ∷ []) ≡ one 0 ∷ from_to 0 1 ∷ any_32 ∷ []
unfolding count_leading_zeros
or_zero = refl

xor : results Bits64 Xor (from_to 0 5) (from_to 0 8 ∷ one 7 ∷ []) ≡ from_to 0 15 ∷ from_to 0 7 ∷ []
unfolding count_leading_zeros
xor = refl

left_64 : results Bits64 LeftShift (from_to 2 3) (one 65 ∷ one 62 ∷ one 63 ∷ from_to 1 2 ∷ []) ≡ from_to 4 6
    ∷ from_to (2 ^ 63) (2 ^ 63 + 2 ^ 62) ∷ any_64 ∷ any_64 ∷ []
left_64 = refl

left_32 : results Bits32 LeftShift (from_to 2 3) (one 33 ∷ one 31 ∷ from_to 1 2 ∷ []) ≡ from_to 4 6 ∷ any_32 ∷ any_32
    ∷ []
left_32 = refl

right : results Bits64 RightShift (from_to 8 17) (one 2 ∷ one 66 ∷ from_to 1 2 ∷ []) ≡ from_to 2 4 ∷ from_to 2 4
    ∷ from_to 0 17 ∷ []
right = refl

arithmetic_64 : results Bits64 ArithmeticRightShift (from_to 8 17) (one 2 ∷ from_to 1 2 ∷ []) ≡ from_to 2 4 ∷ any_64
    ∷ []
arithmetic_64 = refl

arithmetic_32 : map (λ x. result_range Bits32 ArithmeticRightShift x (one 33))
    (from_to 8 17 ∷ one (2 ^ 31 - 1) ∷ one (2 ^ 31) ∷ []) ≡ from_to 4 8 ∷ one (2 ^ 30 - 1) ∷ any_32 ∷ []
arithmetic_32 = refl

quotient : results Bits64 Div (from_to 5 9) (one 2 ∷ one 0 ∷ from_to 2 3 ∷ []) ≡ from_to 2 4 ∷ from_to 0 9 ∷ from_to 0 9
    ∷ []
quotient = refl

quotient_by_minus_1 : results Bits32 Div (from_to 5 9) (one (2 ^ 64 - 1) ∷ []) ≡ from_to 0 9 ∷ []
quotient_by_minus_1 = refl

remainder : results Bits64 Mod (from_to 5 9) (one 4 ∷ one 20 ∷ one 0 ∷ from_to 2 3 ∷ []) ≡ from_to 0 3 ∷ from_to 0 9
    ∷ from_to 0 9 ∷ from_to 0 9 ∷ []
remainder = refl

signed_div : results Bits64 SignedDiv (from_to 5 9) (one 2 ∷ from_to 2 3 ∷ one (2 ^ 63 - 1) ∷ one (2 ^ 63) ∷ [])
    ≡ from_to 2 4 ∷ from_to 0 9 ∷ one 0 ∷ any_64 ∷ []
signed_div = refl

signed_mod : results Bits32 SignedMod (from_to 5 9) (one 4 ∷ from_to 2 3 ∷ one (2 ^ 31 - 1) ∷ one (2 ^ 31) ∷ [])
    ≡ from_to 0 3 ∷ from_to 0 9 ∷ from_to 0 9 ∷ any_32 ∷ []
signed_mod = refl

-- ---- changes

negate : changes (Negate Bits32) (one 5 ∷ any_64 ∷ []) ≡ any_32 ∷ any_32 ∷ []
negate = refl

swap : changes (Order Swapped swapped.Bits16) (one 5 ∷ any_64 ∷ []) ≡ from_to 0 65535 ∷ from_to 0 65535 ∷ []
swap = refl

sign_extend : changes (SignExtend Bits64 extended.Bits8) (from_to 5 127 ∷ from_to 5 128 ∷ []) ≡ from_to 5 127 ∷ any_64
    ∷ []
sign_extend = refl

sign_extend_32 : changes (SignExtend Bits32 extended.Bits16) (from_to 5 32767 ∷ from_to 5 32768 ∷ one (2 ^ 32) ∷ [])
    ≡ from_to 5 32767 ∷ any_32 ∷ any_32 ∷ []
sign_extend_32 = refl

-- ---- jumps by constants below, at the ends of, inside and above 5 to 9

abbrev constants : List ℕ
constants = 0 ∷ 5 ∷ 7 ∷ 9 ∷ 10 ∷ []

abbrev five_to_nine : Interval
five_to_nine = from_to 5 9

abbrev all : Option Interval
all = Some five_to_nine

equal : edges Equal true five_to_nine constants ≡ None ∷ Some (one 5) ∷ Some (one 7) ∷ Some (one 9) ∷ None ∷ []
equal = refl

not_equal : edges NotEqual true five_to_nine constants ≡ all ∷ Some (from_to 6 9) ∷ all ∷ Some (from_to 5 8) ∷ all ∷ []
not_equal = refl

not_the_only_one : edges NotEqual true (one 5) (4 ∷ 5 ∷ []) ≡ Some (one 5) ∷ None ∷ []
not_the_only_one = refl

greater : edges Greater true five_to_nine constants ≡ all ∷ Some (from_to 6 9) ∷ Some (from_to 8 9) ∷ None ∷ None ∷ []
greater = refl

not_greater : edges Greater false five_to_nine constants ≡ None ∷ Some (one 5) ∷ Some (from_to 5 7) ∷ all ∷ all ∷ []
not_greater = refl

greater_or_equal : edges GreaterOrEqual true five_to_nine constants ≡ all ∷ all ∷ Some (from_to 7 9) ∷ Some (one 9)
    ∷ None ∷ []
greater_or_equal = refl

not_greater_or_equal : edges GreaterOrEqual false five_to_nine constants ≡ None ∷ None ∷ Some (from_to 5 6)
    ∷ Some (from_to 5 8) ∷ all ∷ []
not_greater_or_equal = refl

less : edges Less true five_to_nine constants ≡ None ∷ None ∷ Some (from_to 5 6) ∷ Some (from_to 5 8) ∷ all ∷ []
less = refl

less_or_equal : edges LessOrEqual true five_to_nine constants ≡ None ∷ Some (one 5) ∷ Some (from_to 5 7) ∷ all ∷ all
    ∷ []
less_or_equal = refl

other_tests : edges AnyBit true five_to_nine (0 ∷ 16 ∷ []) ≡ all ∷ all ∷ []
other_tests = refl

signed_less : edges SignedLess true five_to_nine (0 ∷ []) ≡ all ∷ []
signed_less = refl

half_width : map (λ c. narrowed_interval Bits32 Equal true five_to_nine c) constants ≡ all ∷ all ∷ all ∷ all ∷ all ∷ []
half_width = refl
