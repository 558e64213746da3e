-- Numbers that lists of digits spell, the first digit lowest.
use Rattle.std.proofs.Common.{◌≡◌, ℕ, zero, suc, ◌+◌, ◌*◌, ◌/◌, ◌%◌, ◌^◌, ◌<◌, ◌≤◌, List, [], ◌∷◌, ◌++◌, length, refl}
use Rattle.std.proofs.Common.{take, drop, replicate, sym, ap, arith, mul_comm, pow-suc, div-one, add_comm, lit<}
use Rattle.std.proofs.Common.{length-drop, length-take-le, take-append-drop, mul-le-mul_left}
use Rattle.std.proofs.Math.Nat.{div-div-eq-div-mul, pow-zero, mod-one}
use Rattle.std.proofs.Math.Arith.{mod-mul}
use Rattle.std.proofs.lemmas.Nat.{pow-add, mod_below, div-mul-add, mod-mul-add, xor_block}
use Rattle.std.proofs.lemmas.Simd.{Each1-chunk}
use Rattle.std.specs.Int.Bits.{bit_xor}
use Rattle.std.specs.{Int.byte_at, Int.bytes_low_first, Simd.Lanes.Each1, Simd.Lanes.number_l}
use Rattle.std.specs.Simd.Lanes.{chunk, zip2}

pub number_l-append : (base : ℕ) (xs ys : List ℕ)
    → number_l base (xs ++ ys) ≡ number_l base xs + base ^ length xs * number_l base ys
number_l-append base [] ys = rw pow-zero (omega arith)
number_l-append base (x ∷ xs) ys = rw (number_l-append base xs ys, pow-suc) (omega arith)

-- a number without its first digit, and that digit
pub without_first : (base x n : ℕ) → x < base → (x + base * n) / base ≡ n
without_first base x n below = rw (add_comm x, mul_comm base n) (div-mul-add n base x below)

pub first_of : (base x n : ℕ) → x < base → (x + base * n) % base ≡ x
first_of base x n below = rw (add_comm x, mul_comm base n) (mod-mul-add n base x below)

-- a number of `length xs` digits
pub number_l-below : (base : ℕ) (xs : List ℕ) → Each1 (λ x. x < base) xs → number_l base xs < base ^ length xs
number_l-below base [] fits = rw pow-zero (omega arith)
number_l-below base (x ∷ xs) fits =
    rw pow-suc (omega (arith, fits.0, mul-le-mul_left base (number_l-below base xs fits.1)))

-- ---- a part of a number

Each1-drop : (P : ℕ → Type 0) (j : ℕ) (xs : List ℕ) → Each1 P xs → Each1 P (drop j xs)
Each1-drop P zero xs fits = fits
Each1-drop P (suc j) [] fits = tt
Each1-drop P (suc j) (x ∷ xs) fits = Each1-drop P j xs fits.1

-- the first digits, as a remainder, and the others
split_is : (base j : ℕ) (xs : List ℕ) → j ≤ length xs
    → number_l base xs ≡ number_l base (take j xs) + base ^ j * number_l base (drop j xs)
split_is base j xs within =
    rw (take-append-drop, length-take-le j xs within) at (number_l-append base (take j xs) (drop j xs))

first_below : (base j : ℕ) (xs : List ℕ) → j ≤ length xs → Each1 (λ x. x < base) xs
    → number_l base (take j xs) < base ^ j
first_below base j xs within fits =
    rw (length-take-le j xs within) at (number_l-below base (take j xs) (Each1-chunk (λ x. x < base) 0 j xs fits))

pub number_l-drop : (base j : ℕ) (xs : List ℕ) → j ≤ length xs → Each1 (λ x. x < base) xs
    → number_l base xs / base ^ j ≡ number_l base (drop j xs)
number_l-drop base j xs within fits =
    rw (split_is base j xs within)
    (without_first (base ^ j) (number_l base (take j xs)) (number_l base (drop j xs))
    (first_below base j xs within fits))

number_l-take : (base k : ℕ) (xs : List ℕ) → k ≤ length xs → Each1 (λ x. x < base) xs
    → number_l base xs % base ^ k ≡ number_l base (take k xs)
number_l-take base k xs within fits =
    rw (split_is base k xs within)
    (first_of (base ^ k) (number_l base (take k xs)) (number_l base (drop k xs)) (first_below base k xs within fits))

-- the digits from j on, k of them
pub number_l-chunk : (base j k : ℕ) (xs : List ℕ) → j + k ≤ length xs → Each1 (λ x. x < base) xs
    → number_l base xs / base ^ j % base ^ k ≡ number_l base (chunk j k xs)
number_l-chunk base j k xs within fits =
    rw (number_l-drop base j xs (omega arith) fits)
    (number_l-take base k (drop j xs) (omega (arith, length-drop j xs)) (Each1-drop (λ x. x < base) j xs fits))

pub number_l-none : (base n : ℕ) → number_l base (replicate n 0) ≡ 0
number_l-none base zero = refl
number_l-none base (suc n) = rw (number_l-none base n) (omega arith)

-- ---- two numbers, added digit by digit

pub number_l-xor : (xs ys : List ℕ) → length xs ≡ length ys → Each1 (λ x. x < 256) xs → Each1 (λ y. y < 256) ys
    → number_l 256 (zip2 bit_xor xs ys) ≡ bit_xor (number_l 256 xs) (number_l 256 ys)
number_l-xor [] [] long fits fits' = refl
number_l-xor [] (y ∷ ys) long fits fits' = absurd (omega arith)
number_l-xor (x ∷ xs) [] long fits fits' = absurd (omega arith)
number_l-xor (x ∷ xs) (y ∷ ys) long fits fits' =
    let m = number_l 256 xs in
    let n = number_l 256 ys in
    let one : x + 256 * m ≡ m * 2 ^ 8 + x = omega arith in
    let other : y + 256 * n ≡ n * 2 ^ 8 + y = omega arith in
    rw (number_l-xor xs ys (omega arith) fits.1 fits'.1, one, other, xor_block 8 m n x y fits.0 fits'.0) (omega arith)

-- ---- the bytes of a number

pub bytes-bits : (k : ℕ) → 256 ^ k ≡ 2 ^ (8 * k)
bytes-bits zero = refl
bytes-bits (suc k) =
    let more : 8 * suc k ≡ 8 + 8 * k = omega arith in
    rw (more, pow-add 2 8 (8 * k), ← bytes-bits k, pow-suc 256 k) (omega arith)

byte_at-is : (i n : ℕ) → byte_at i n ≡ n / 256 ^ i % 256
byte_at-is zero n = ap (λ q. q % 256) (sym (div-one n))
byte_at-is (suc i) n = refl

pub bytes-below : (i k n : ℕ) → Each1 (λ b. b < 256) (bytes_low_first i k n)
bytes-below i zero n = tt
bytes-below i (suc k) n = (rw (byte_at-is i n) (mod_below (n / 256 ^ i) 256 (lit< tt)), bytes-below (suc i) k n)

positive : (k : ℕ) → 0 < 256 ^ k
positive zero = lit< tt
positive (suc k) = let below = positive k in let more = pow-suc 256 k in omega arith

-- the bytes of a number, from one on
pub number_l-bytes : (i k n : ℕ) → number_l 256 (bytes_low_first i k n) ≡ n / 256 ^ i % 256 ^ k
number_l-bytes i zero n = sym (mod-one (n / 256 ^ i))
number_l-bytes i (suc k) n =
    let q = n / 256 ^ i in
    let further : n / 256 ^ suc i ≡ q / 256 = rw (pow-suc 256 i) (sym (div-div-eq-div-mul n (256 ^ i) 256)) in
    let whole : q % 256 ^ suc k ≡ q / 256 % 256 ^ k * 256 + q % 256 =
    rw pow-suc (mod-mul q (positive k) (lit< tt)) in
    rw (byte_at-is i n, number_l-bytes (suc i) k n, further) (omega (arith, whole))
