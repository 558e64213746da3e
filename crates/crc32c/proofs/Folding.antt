-- The window: taking a block away, and what stays the same.
use Rattle.std.proofs.Common.{◌≡◌, ℕ, suc, ◌+◌, ◌*◌, ◌/◌, ◌%◌, ◌^◌, ◌<◌, ◌≤◌, ◌-◌, List, [], ◌∷◌, length, refl, sym}
use Rattle.std.proofs.Common.{◌∙◌, ap, arith, mul_assoc, mul_comm, lt_of_lt_of_le, pow_mono, lit≤, div-one, add_comm}
use Rattle.std.proofs.Math.Nat.{div-eq_of_lt}
use Rattle.std.specs.Int.Bits.{bit_xor, xor_assoc, xor_shr, xor_mod, xor_shifted, xor_zero_r}
use Rattle.std.specs.{List.concat, Simd.Lanes.Each1, Simd.Lanes.number_l}
use Rattle.std.proofs.lemmas.Nat.{shl-shr, shr-shr, shr_split, shr_below, pow-add, pow_pos}
use Rattle.wire_spec.specs.Checksum.{remainder}
use Rattle.wire_spec.proofs.Checksums.{remainder-lt}
use Rattle.crc32c.specs.Register.{register_after}
use Rattle.crc32c.specs.Window.{IsMultiple, before_end, later, window_behind, after_window}
use Rattle.crc32c.proofs.Linear.{remainder-xor, remainder-add, remainder-shifted, remainder-joined}
use Rattle.crc32c.proofs.{Numbers.number_l-append, Steps.after-number}
use Rattle.crc32c.proofs.Sparse.{sparse, sum_of_five-of, sum_of_five-xor}

-- ---- what a window adds is linear, and goes with it

later-xor : (n v w : ℕ) → later n (bit_xor v w) ≡ bit_xor (later n v) (later n w)
later-xor n v w = xor_shr v w (8 * n)

pub moved-xor : (a b c d v w : ℕ)
    → window_behind a b c d (bit_xor v w) ≡ bit_xor (window_behind a b c d v) (window_behind a b c d w)
unfolding window_behind
moved-xor a b c d v w = simp xor_shr (sum_of_five-xor v _ _ _ _ w _ _ _ _)

later-swap : (m n w : ℕ) → later m (later n w) ≡ later n (later m w)
later-swap m n w = rw (shr-shr, shr-shr, add_comm (8 * n))

moved-later : (a b c d n w : ℕ) → later n (window_behind a b c d w) ≡ window_behind a b c d (later n w)
unfolding window_behind
moved-later a b c d n w =
    rw (sum_of_five-of (later n) (later-xor n), later-swap n a, later-swap n b, later-swap n c, later-swap n d)

-- ---- the next block

-- the first block behind a window, with what the window adds to it, and the window without its first block
pub after_window-next : (a b c d r w x : ℕ) (block : List ℕ) (rest : List (List ℕ)) → length block ≡ 16
    → number_l 256 block < 2 ^ 128 → x ≡ bit_xor (window_behind a b c d w) (number_l 256 block) % 2 ^ 128
    → after_window a b c d r w (block ∷ rest)
    ≡ after_window a b c d (remainder 128 (bit_xor r x)) (later 16 w) rest
unfolding after_window
after_window-next a b c d r w x block rest long below is =
    let n = 128 * length rest in
    let first = number_l 256 block in
    let others = number_l 256 (concat rest) in
    let all = number_l 256 (concat (block ∷ rest)) in
    let behind_it = window_behind a b c d w in
    let spelled = rw long at (number_l-append 256 block (concat rest)) in
    let front : all % 2 ^ 128 ≡ first % 2 ^ 128 = omega (arith, spelled, below) in
    let behind : all / 2 ^ 128 ≡ others = omega (arith, spelled, below) in
    let whole = bit_xor behind_it all in
    let low : whole % 2 ^ 128 ≡ x = cc (xor_mod behind_it all 128, xor_mod behind_it first 128) in
    let high : whole / 2 ^ 128 ≡ bit_xor (window_behind a b c d (later 16 w)) others =
    cc (xor_shr behind_it all 128, moved-later a b c d 16 w) in
    let small : x < 2 ^ 128 = rw (← low) (omega arith) in
    let parts : whole ≡ bit_xor (window_behind a b c d (later 16 w)) others * 2 ^ 128 + x = cc (shr_split whole 128) in
    let more : 128 * suc (length rest) ≡ 128 + n = omega arith in
    rw (more, remainder-add 128 n, xor_assoc r behind_it, parts, ← remainder-joined 128 r x _ small, xor_assoc)

-- ---- a block that is taken away

-- the place of a block that is at the end of a window of m bytes and a block, o bytes before it
put_back : (o j m k x : ℕ) → o + j ≡ m
    → remainder (8 * (m + 16) + k) (later o (x * 2 ^ (8 * m))) ≡ remainder k (before_end o (remainder 128 x))
put_back o j m k x e =
    let whole : 8 * m ≡ 8 * j + 8 * o = omega arith in
    let steps : 8 * (m + 16) + k ≡ 8 * j + (128 + (8 * o + k)) = omega arith in
    let placed = rw (pow-add, ← mul_assoc, shl-shr) at (ap (λ i. x * 2 ^ i / 2 ^ (8 * o)) whole) in
    rw (placed, steps, remainder-add (8 * j), remainder-shifted, remainder-add 128, remainder-add (8 * o))

at_the_end : (p : ℕ) → before_end 0 p ≡ p
unfolding remainder
at_the_end p = refl

-- a block at the window's end adds behind it what it counts itself
at_end : {a b c d n : ℕ} → IsMultiple a b c d n → (m k x : ℕ) → m + 16 ≡ n → x < 2 ^ 128
    → remainder (8 * n + k) (window_behind a b c d (x * 2 ^ (8 * m))) ≡ remainder (8 * n + k) (remainder 128 x)
unfolding window_behind
at_end {a} {b} {c} {d} {n} is m k x e below =
    let p = remainder 128 x in
    let wide = 8 * n + k in
    let small : p < 2 ^ 32 = remainder-lt 128 x (lt_of_lt_of_le {m = 2 ^ 128} below
    (pow_mono {i = 128} {j = 160} (lit≤ tt))) in
    let back = λ (o : ℕ) (room : o + 16 ≤ n). rw e at (put_back o (m - o) m k x (omega arith)) in
    let first = rw (div-one, at_the_end) at (back 0 (omega (arith, is.two_blocks))) in
    rw (
      sum_of_five-of (remainder wide) (remainder-xor wide),
      first,
      back a (omega arith),
      back b (omega arith),
      back c (omega arith),
      back d (omega arith),
      remainder-add (8 * n) k p,
      sparse is p small,
      sum_of_five-of (remainder k) (remainder-xor k),
    )

-- a block counts the same when it is taken away and the window keeps it
pub after_window-kept : {a b c d n : ℕ} → IsMultiple a b c d n → (m w x : ℕ) (rest : List (List ℕ)) → m + 16 ≡ n
    → x < 2 ^ 128 → w < 2 ^ (8 * n) → n ≤ 16 * length rest
    → after_window a b c d 0 (later 16 w + 2 ^ (8 * m) * x) rest
    ≡ after_window a b c d (remainder 128 x) (later 16 w) rest
unfolding after_window
after_window-kept {a} {b} {c} {d} {n} is m w x rest e below fits long =
    let k = 128 * length rest in
    let y = x * 2 ^ (8 * m) in
    let more : 8 * n ≡ 8 * m + 128 = omega arith in
    let room : later 16 w < 2 ^ (8 * m) = shr_below w (8 * m) 128 (rw more at fits) in
    let apart : later 16 w + 2 ^ (8 * m) * x ≡ bit_xor y (later 16 w) =
    omega (arith, mul_comm (2 ^ (8 * m)) x) ∙ sym (xor_shifted x (8 * m) (later 16 w) room) in
    let all : 8 * n + (k - 8 * n) ≡ k = omega arith in
    let same = rw all at (at_end is m (k - 8 * n) x e below) in
    rw (
      apart,
      moved-xor a b c d,
      xor_assoc,
      remainder-xor k (window_behind a b c d y),
      same,
      ← remainder-xor,
      ← xor_assoc,
    )

-- ---- the start and the end

-- the register is at the front of a window of nothing else
pub after_window-start : {a b c d n : ℕ} → IsMultiple a b c d n → (r : ℕ) (blocks : List (List ℕ)) → r < 2 ^ 32
    → after_window a b c d 0 r blocks ≡ after_window a b c d r 0 blocks
unfolding after_window window_behind
after_window-start {a} {b} {c} {d} {n} is r blocks below =
    let none = λ (k : ℕ) (wide : 4 ≤ k). div-eq_of_lt
    (lt_of_lt_of_le {m = 2 ^ 32} below (pow_mono {i = 32} {j = 8 * k} (omega arith))) in
    let zero-shr = λ (k : ℕ). div-eq_of_lt (pow_pos (8 * k)) in
    rw (
      none a (omega arith),
      none b (omega arith),
      none c (omega arith),
      none d (omega arith),
      zero-shr a,
      zero-shr b,
      zero-shr c,
      zero-shr d,
    )
    (simp xor_zero_r)

pub after_window-end : (a b c d n k r w : ℕ) → n ≤ k → w < 2 ^ (8 * n) → after_window a b c d r (later k w) [] ≡ r
unfolding after_window window_behind remainder
after_window-end a b c d n k r w within below =
    let all : w < 2 ^ (8 * k) = lt_of_lt_of_le {m = 2 ^ (8 * n)} below
    (pow_mono {i = 8 * n} {j = 8 * k} (omega arith)) in
    let zero-shr = λ (k : ℕ). div-eq_of_lt (pow_pos (8 * k)) in
    rw (div-eq_of_lt all, zero-shr a, zero-shr b, zero-shr c, zero-shr d) (simp xor_zero_r)

-- a window of nothing adds nothing
pub after_window-none : (a b c d r : ℕ) (blocks : List (List ℕ)) → length (concat blocks) ≡ 16 * length blocks
    → Each1 (λ b. b < 256) (concat blocks) → after_window a b c d r 0 blocks ≡ register_after r (concat blocks)
unfolding after_window window_behind
after_window-none a b c d r blocks long fits =
    let bits : 128 * length blocks ≡ 8 * length (concat blocks) = omega (arith, long) in
    let zero-shr = λ (k : ℕ). div-eq_of_lt (pow_pos (8 * k)) in
    rw (zero-shr a, zero-shr b, zero-shr c, zero-shr d, xor_zero_r r, bits) (sym (after-number r (concat blocks) fits))
