-- Arithmetic worked out by computing: ends, signs and counts past the width, for each operation, change and test.
use Rattle.std.proofs.Common.{◌≡◌, ℕ, ◌+◌, ◌-◌, ◌^◌, Bool, true, false, List, [], ◌∷◌, map, refl}
use Rattle.machine_spec.specs.declared.{operation.Width.Width, operation.Operation.Operation, operation.Change.Change}
use Rattle.machine_spec.specs.declared.operation.Test.{Test}
use Rattle.machine_spec.specs.declared.operation.Width.TheVariants.{Bits32, Bits64}
use Rattle.machine_spec.specs.declared.operation.Operation.TheVariants.{Add, Sub, Mul, Div, SignedDiv, Or, And}
use Rattle.machine_spec.specs.declared.operation.Operation.TheVariants.{LeftShift, RightShift, Mod, SignedMod, Xor}
use Rattle.machine_spec.specs.declared.operation.Operation.TheVariants.{ArithmeticRightShift}
use Rattle.machine_spec.specs.declared.operation.SwappedWidth.TheVariants as swapped
use Rattle.machine_spec.specs.declared.operation.ExtendedWidth.TheVariants as extended
use Rattle.machine_spec.specs.declared.operation.ByteOrder.TheVariants.{LittleEndian, BigEndian, Swapped}
use Rattle.machine_spec.specs.declared.operation.Change.TheVariants.{Negate, Order, SignExtend}
use Rattle.machine_spec.specs.declared.operation.Test.TheVariants.{Equal, NotEqual, Greater, GreaterOrEqual, Less}
use Rattle.machine_spec.specs.declared.operation.Test.TheVariants.{LessOrEqual, AnyBit, SignedGreater}
use Rattle.machine_spec.specs.declared.operation.Test.TheVariants.{SignedGreaterOrEqual, SignedLess, SignedLessOrEqual}
use Rattle.machine_spec.specs.Arithmetic.{number_of, changed_number, holds}

-- the bits of -n
abbrev minus_32 : ℕ → ℕ
minus_32 n = 2 ^ 32 - n

abbrev minus_64 : ℕ → ℕ
minus_64 n = 2 ^ 64 - n

-- a 32-bit number with something in the upper half
abbrev with_upper : ℕ → ℕ
with_upper n = 2 ^ 32 + n

-- operations in a width on two numbers, with what they give
abbrev operations : List (Width × Operation × List (ℕ × ℕ × ℕ))
operations =
    -- sums, differences, products
    (Bits64, Add, (7, 5, 12) ∷ (2 ^ 64 - 1, 1, 0) ∷ (2 ^ 64 - 1, 2 ^ 64 - 1, 2 ^ 64 - 2) ∷ [])
    ∷ (Bits32, Add, (with_upper 7, 5, 12) ∷ (2 ^ 32 - 1, 1, 0) ∷ (7, minus_64 5, 2) ∷ [])
    ∷ (Bits64, Sub, (7, 5, 2) ∷ (5, 7, minus_64 2) ∷ (0, 2 ^ 64 - 1, 1) ∷ (7, 0, 7) ∷ [])
    ∷ (Bits32, Sub, (with_upper 7, 5, 2) ∷ (5, 7, minus_32 2) ∷ (0, with_upper 1, minus_32 1) ∷ (7, 0, 7) ∷ [])
    ∷ (Bits64, Mul, (7, 5, 35) ∷ (2 ^ 63, 2, 0) ∷ (2 ^ 64 - 1, 2 ^ 64 - 1, 1) ∷ [])
    ∷ (Bits32, Mul, (with_upper 7, with_upper 5, 35) ∷ (2 ^ 31, 2, 0) ∷ (2 ^ 32 - 1, 2 ^ 32 - 1, 1) ∷ [])
    -- quotients and remainders
    ∷ (Bits64, Div, (7, 2, 3) ∷ (7, 0, 0) ∷ (2 ^ 64 - 1, 1, 2 ^ 64 - 1) ∷ (5, minus_64 1, 0) ∷ [])
    ∷ (Bits32, Div, (with_upper 7, 2, 3) ∷ (7, 0, 0) ∷ (7, 2 ^ 32, 0) ∷ (5, minus_64 1, 0) ∷ [])
    ∷ (Bits64, Mod, (7, 2, 1) ∷ (7, 0, 7) ∷ (with_upper 7, 0, with_upper 7) ∷ (5, minus_64 1, 5) ∷ [])
    ∷ (Bits32, Mod, (with_upper 7, 2, 1) ∷ (7, 0, 7) ∷ (with_upper 7, 0, 7) ∷ (with_upper 7, 2 ^ 32, 7) ∷ [])
    ∷ (Bits64, SignedDiv, (7, 2, 3) ∷ (minus_64 7, 2, minus_64 3) ∷ (7, minus_64 2, minus_64 3) ∷ [])
    ∷ (Bits64, SignedDiv, (minus_64 7, minus_64 2, 3) ∷ (2 ^ 63, minus_64 1, 2 ^ 63) ∷ (minus_64 7, 0, 0) ∷ [])
    ∷ (Bits32, SignedDiv, (with_upper 7, 2, 3) ∷ (minus_32 7, 2, minus_32 3) ∷ (7, minus_64 2, minus_32 3) ∷ [])
    ∷ (Bits32, SignedDiv, (minus_64 7, minus_32 2, 3) ∷ (2 ^ 31, minus_64 1, 2 ^ 31) ∷ (minus_32 7, 0, 0) ∷ [])
    ∷ (Bits64, SignedMod, (7, 2, 1) ∷ (minus_64 7, 2, minus_64 1) ∷ (7, minus_64 2, 1) ∷ [])
    ∷ (Bits64, SignedMod, (minus_64 7, minus_64 2, minus_64 1) ∷ (2 ^ 63, minus_64 1, 0) ∷ [])
    ∷ (Bits64, SignedMod, (minus_64 7, 0, minus_64 7) ∷ [])
    ∷ (Bits32, SignedMod, (with_upper 7, 2, 1) ∷ (minus_32 7, 2, minus_32 1) ∷ (7, minus_64 2, 1) ∷ [])
    ∷ (Bits32, SignedMod, (minus_64 7, minus_32 2, minus_32 1) ∷ (2 ^ 31, minus_64 1, 0) ∷ [])
    ∷ (Bits32, SignedMod, (minus_64 7, 0, minus_32 7) ∷ [])
    -- bits
    ∷ (Bits64, Or, (12, 10, 14) ∷ (2 ^ 63, 1, 2 ^ 63 + 1) ∷ [])
    ∷ (Bits32, Or, (with_upper 12, 10, 14) ∷ (2 ^ 63, 2 ^ 31, 2 ^ 31) ∷ [])
    ∷ (Bits64, And, (12, 10, 8) ∷ (2 ^ 64 - 1, with_upper 5, with_upper 5) ∷ [])
    ∷ (Bits32, And, (with_upper 12, with_upper 10, 8) ∷ (2 ^ 64 - 1, with_upper 5, 5) ∷ [])
    ∷ (Bits64, Xor, (12, 10, 6) ∷ (2 ^ 64 - 1, 1, 2 ^ 64 - 2) ∷ (7, 7, 0) ∷ [])
    ∷ (Bits32, Xor, (with_upper 12, 10, 6) ∷ (2 ^ 64 - 1, 1, 2 ^ 32 - 2) ∷ (7, 7, 0) ∷ [])
    -- shifts
    ∷ (Bits64, LeftShift, (3, 2, 12) ∷ (3, 63, 2 ^ 63) ∷ (3, 65, 6) ∷ (3, minus_64 1, 2 ^ 63) ∷ [])
    ∷ (Bits32, LeftShift, (with_upper 3, 2, 12) ∷ (3, 31, 2 ^ 31) ∷ (3, 33, 6) ∷ [])
    ∷ (Bits32, LeftShift, (3, 2 ^ 32, 3) ∷ (3, minus_64 1, 2 ^ 31) ∷ [])
    ∷ (Bits64, RightShift, (12, 2, 3) ∷ (2 ^ 64 - 1, 63, 1) ∷ (12, 65, 6) ∷ [])
    ∷ (Bits32, RightShift, (with_upper 12, 2, 3) ∷ (2 ^ 64 - 1, 31, 1) ∷ (12, 33, 6) ∷ [])
    ∷ (Bits64, ArithmeticRightShift, (12, 2, 3) ∷ (minus_64 12, 2, minus_64 3) ∷ (minus_64 1, 63, minus_64 1) ∷ [])
    ∷ (Bits64, ArithmeticRightShift, (minus_64 12, 65, minus_64 6) ∷ (0x80000000, 33, 0) ∷ [])
    ∷ (Bits32, ArithmeticRightShift, (with_upper 12, 2, 3) ∷ (minus_32 12, 2, minus_32 3) ∷ [])
    ∷ (Bits32, ArithmeticRightShift, (minus_64 1, 31, minus_32 1) ∷ (0x80000000, 33, 0xc0000000) ∷ [])
    ∷ []

operations_hold : map (λ row. map (λ t. number_of row.0 row.1 t.0 t.1) row.2) operations
    ≡ map (λ row. map (λ t. t.2) row.2) operations
operations_hold = refl

-- changes of one number, with what they give
abbrev changes : List (Change × List (ℕ × ℕ))
changes =
    (Negate Bits64, (7, minus_64 7) ∷ (0, 0) ∷ (minus_64 7, 7) ∷ (2 ^ 63, 2 ^ 63) ∷ [])
    ∷ (Negate Bits32, (with_upper 7, minus_32 7) ∷ (2 ^ 32, 0) ∷ (minus_64 7, 7) ∷ (2 ^ 31, 2 ^ 31) ∷ [])
    ∷ (Order LittleEndian swapped.Bits16, (0x1122334455667788, 0x7788) ∷ [])
    ∷ (Order LittleEndian swapped.Bits32, (0x1122334455667788, 0x55667788) ∷ [])
    ∷ (Order LittleEndian swapped.Bits64, (0x1122334455667788, 0x1122334455667788) ∷ [])
    ∷ (Order BigEndian swapped.Bits16, (0x1122334455667788, 0x8877) ∷ [])
    ∷ (Order BigEndian swapped.Bits32, (0x1122334455667788, 0x88776655) ∷ [])
    ∷ (Order BigEndian swapped.Bits64, (0x1122334455667788, 0x8877665544332211) ∷ [])
    ∷ (Order Swapped swapped.Bits16, (0x1122334455667788, 0x8877) ∷ [])
    ∷ (Order Swapped swapped.Bits32, (0x1122334455667788, 0x88776655) ∷ [])
    ∷ (Order Swapped swapped.Bits64, (0x1122334455667788, 0x8877665544332211) ∷ [])
    ∷ (SignExtend Bits64 extended.Bits8, (0x80, 0xffffffffffffff80) ∷ (0x99aabbcc8899ff7f, 0x7f) ∷ [])
    ∷ (SignExtend Bits64 extended.Bits16, (0x99aabbcc8899ff7f, 0xffffffffffffff7f) ∷ [])
    ∷ (SignExtend Bits64 extended.Bits32, (0x99aabbcc8899ff7f, 0xffffffff8899ff7f) ∷ [])
    ∷ (SignExtend Bits32 extended.Bits8, (0x80, 0xffffff80) ∷ (0x99aabbcc8899ff7f, 0x7f) ∷ [])
    ∷ (SignExtend Bits32 extended.Bits16, (0x99aabbcc8899ff7f, 0xffffff7f) ∷ [])
    ∷ []

changes_hold : map (λ row. map (λ t. changed_number row.0 t.0) row.1) changes
    ≡ map (λ row. map (λ t. t.1) row.1) changes
changes_hold = refl

-- A test's answers in 64 and in 32 bits: of a smaller, an equal and a greater first number, of -1 and 1, and of numbers
-- whose low halves are equal.
abbrev tests : List (Test × List Bool × List Bool)
tests =
    (Equal, false ∷ true ∷ false ∷ false ∷ false ∷ [], false ∷ true ∷ false ∷ false ∷ true ∷ [])
    ∷ (NotEqual, true ∷ false ∷ true ∷ true ∷ true ∷ [], true ∷ false ∷ true ∷ true ∷ false ∷ [])
    ∷ (Greater, false ∷ false ∷ true ∷ true ∷ true ∷ [], false ∷ false ∷ true ∷ true ∷ false ∷ [])
    ∷ (GreaterOrEqual, false ∷ true ∷ true ∷ true ∷ true ∷ [], false ∷ true ∷ true ∷ true ∷ true ∷ [])
    ∷ (Less, true ∷ false ∷ false ∷ false ∷ false ∷ [], true ∷ false ∷ false ∷ false ∷ false ∷ [])
    ∷ (LessOrEqual, true ∷ true ∷ false ∷ false ∷ false ∷ [], true ∷ true ∷ false ∷ false ∷ true ∷ [])
    ∷ (SignedGreater, false ∷ false ∷ true ∷ false ∷ true ∷ [], false ∷ false ∷ true ∷ false ∷ false ∷ [])
    ∷ (SignedGreaterOrEqual, false ∷ true ∷ true ∷ false ∷ true ∷ [], false ∷ true ∷ true ∷ false ∷ true ∷ [])
    ∷ (SignedLess, true ∷ false ∷ false ∷ true ∷ false ∷ [], true ∷ false ∷ false ∷ true ∷ false ∷ [])
    ∷ (SignedLessOrEqual, true ∷ true ∷ false ∷ true ∷ false ∷ [], true ∷ true ∷ false ∷ true ∷ true ∷ [])
    ∷ []

abbrev answers : Width → Test → List (ℕ × ℕ) → List Bool
answers width test pairs = map (λ p. holds width test p.0 p.1) pairs

abbrev pairs : List (ℕ × ℕ)
pairs = (4, 5) ∷ (5, 5) ∷ (6, 5) ∷ (minus_64 1, 1) ∷ (with_upper 5, 5) ∷ []

tests_64_hold : map (λ row. answers Bits64 row.0 pairs) tests ≡ map (λ row. row.1) tests
tests_64_hold = refl

tests_32_hold : map (λ row. answers Bits32 row.0 pairs) tests ≡ map (λ row. row.2) tests
tests_32_hold = refl

-- bits that both numbers have, or neither, and those above the width
abbrev bit_pairs : List (ℕ × ℕ)
bit_pairs = (6, 5) ∷ (8, 7) ∷ (2 ^ 32, 2 ^ 32) ∷ (minus_64 1, 0) ∷ []

any_bit_64 : answers Bits64 AnyBit bit_pairs ≡ true ∷ false ∷ true ∷ false ∷ []
any_bit_64 = refl

any_bit_32 : answers Bits32 AnyBit bit_pairs ≡ true ∷ false ∷ false ∷ false ∷ []
any_bit_32 = refl
