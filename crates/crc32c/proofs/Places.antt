-- The window as a part of a longer list.
use Rattle.std.proofs.Common.{◌≡◌, ℕ, ◌+◌, ◌*◌, ◌%◌, ◌^◌, ◌<◌, ◌≤◌, List, ◌∷◌, ◌++◌, length, refl}
use Rattle.std.proofs.Common.{◌-◌, take, drop, replicate, sym, ◌∙◌, ap, arith, div-one, add-zero, zero-add}
use Rattle.std.proofs.Common.{mod-eq_of_lt, length-drop, length-take-le, take_at, drop_at}
use Rattle.std.proofs.lemmas.List.{drop-take, take-take, drop-drop, drop-append-le, take-replicate}
use Rattle.std.proofs.lemmas.{Nat.shr-shr, Nat.xor_lt, List.Edits.take-paste}
use Rattle.std.proofs.{Math.Seq.paste, Math.Seq.take-append-add, lemmas.Slice.take-put_mid}
use borrow.Rule.Slice.PartMut.{put_mid}
use Rattle.std.proofs.lemmas.Simd.{Each1-chunk, Each1-zip2, Each2-of, length-chunk, length-zip2}
use Rattle.std.specs.Int.{w32, to_le_bytes}
use Rattle.std.specs.Int.Bits.{bit_xor, xor_mod}
use Rattle.std.specs.Simd.Lanes.{Each1, number_l, chunk, zip2}
use Rattle.wire_spec.specs.Checksum.{remainder}
use Rattle.crc32c.specs.Register.{register_after}
use Rattle.crc32c.specs.Window.{IsBlock, IsMultiple, sum_of_five, later, window_behind, window_at, after_window}
use Rattle.crc32c.proofs.Numbers.{number_l-append, number_l-below, number_l-chunk, number_l-drop, number_l-none}
use Rattle.crc32c.proofs.Numbers.{number_l-xor, number_l-bytes, bytes-bits}
use Rattle.crc32c.proofs.{Folding.after_window-next, Folding.after_window-kept, Sparse.sum_of_five-of}
use Rattle.crc32c.proofs.{Steps.after-number}

abbrev pub Bytes : List ℕ → Type 0
Bytes bytes = Each1 (λ b. b < 256) bytes

-- ---- blocks

pub block-below : (block : List ℕ) → IsBlock block → number_l 256 block < 2 ^ 128
block-below block is = rw is.0 at (number_l-below 256 block is.1)

pub block_at : (place : ℕ) (bytes : List ℕ) → place + 16 ≤ length bytes → Bytes bytes → IsBlock (chunk place 16 bytes)
block_at place bytes within fits =
    (length-chunk place 16 bytes within, Each1-chunk (λ b. b < 256) place 16 bytes fits)

pub after-block_number : (r : ℕ) (block : List ℕ) → IsBlock block
    → register_after r block ≡ remainder 128 (bit_xor r (number_l 256 block))
after-block_number r block is = rw is.0 at (after-number r block is.1)

-- the sum of two blocks
block-xor : (xs ys : List ℕ) → IsBlock xs → IsBlock ys → IsBlock (zip2 bit_xor xs ys)
    × (number_l 256 (zip2 bit_xor xs ys) ≡ bit_xor (number_l 256 xs) (number_l 256 ys))
block-xor xs ys is is' =
    let same : length xs ≡ length ys = omega (arith, is.0, is'.0) in
    let below = Each1-zip2 bit_xor (λ b. b < 256) xs ys
    (Each2-of (λ b. b < 256) (λ b. b < 256) (λ a b. bit_xor a b < 256) (λ a b below below'. xor_lt 8 a b below below')
    xs ys is.1 is'.1) in
    ((length-zip2 bit_xor xs ys same ∙ is.0, below), number_l-xor xs ys same is.1 is'.1)

-- the sum of six blocks
pub six_blocks : (a b c d e f : List ℕ) → IsBlock a → IsBlock b → IsBlock c → IsBlock d → IsBlock e → IsBlock f →
    let all = zip2 bit_xor (zip2 bit_xor (zip2 bit_xor (zip2 bit_xor (zip2 bit_xor a b) c) d) e) f in
    IsBlock all × (number_l 256 all
    ≡ bit_xor (sum_of_five (number_l 256 a) (number_l 256 b) (number_l 256 c) (number_l 256 d) (number_l 256 e))
    (number_l 256 f))
six_blocks a b c d e f is-a is-b is-c is-d is-e is-f =
    let two = block-xor a b is-a is-b in
    let three = block-xor _ c two.0 is-c in
    let four = block-xor _ d three.0 is-d in
    let five = block-xor _ e four.0 is-e in
    let six = block-xor _ f five.0 is-f in
    (six.0, rw (six.1, five.1, four.1, three.1, two.1) refl)

-- ---- the window

pub window_at-below : (n place : ℕ) (bytes : List ℕ) → place + n ≤ length bytes → Bytes bytes
    → window_at n place bytes < 2 ^ (8 * n)
window_at-below n place bytes within fits =
    let each = Each1-chunk (λ b. b < 256) place n bytes fits in
    rw (length-chunk place n bytes within, bytes-bits n) at (number_l-below 256 (chunk place n bytes) each)

-- a chunk of a chunk
inner : (place o k m : ℕ) (xs : List ℕ) → k ≤ m → chunk o k (chunk place (o + m) xs) ≡ chunk (place + o) k xs
inner place o k m xs short =
    rw drop-take (take-take k m (drop o (drop place xs)) short) ∙ ap (take k) (drop-drop o place xs)

-- a block of the window
window_at-block : (n place o : ℕ) (bytes : List ℕ) → o + 16 ≤ n → place + n ≤ length bytes → Bytes bytes
    → later o (window_at n place bytes) % 2 ^ 128 ≡ number_l 256 (chunk (place + o) 16 bytes)
window_at-block n place o bytes wide within fits =
    let long = length-chunk place n bytes within in
    let whole : n ≡ o + (n - o) = omega arith in
    let inside = inner place o 16 (n - o) bytes (omega arith) in
    let moved : chunk o 16 (chunk place n bytes) ≡ chunk (place + o) 16 bytes =
    ap (λ k. chunk o 16 (chunk place k bytes)) whole ∙ inside in
    let part = rw (bytes-bits o) at (number_l-chunk 256 o 16 (chunk place n bytes) (omega (arith, long))
    (Each1-chunk (λ b. b < 256) place n bytes fits)) in
    part ∙ ap (number_l 256) moved

-- what a window adds to the block behind it
moved-first : {a b c d n : ℕ} → IsMultiple a b c d n → (place : ℕ) (bytes : List ℕ) → place + n ≤ length bytes
    → Bytes bytes → window_behind a b c d (window_at n place bytes) % 2 ^ 128
    ≡ sum_of_five (number_l 256 (chunk place 16 bytes)) (number_l 256 (chunk (place + a) 16 bytes))
    (number_l 256 (chunk (place + b) 16 bytes)) (number_l 256 (chunk (place + c) 16 bytes))
    (number_l 256 (chunk (place + d) 16 bytes))
unfolding window_behind
moved-first {a} {b} {c} {d} {n} is place bytes within fits =
    let w = window_at n place bytes in
    let block = λ (o : ℕ) (wide : o + 16 ≤ n). window_at-block n place o bytes wide within fits in
    let first = rw (div-one, add-zero) at (block 0 (omega (arith, is.two_blocks))) in
    sum_of_five-of (λ v. v % 2 ^ 128) (λ v w. xor_mod v w 128) w (later a w) (later b w) (later c w) (later d w)
    ∙ rw (first, block a (omega arith), block b (omega arith), block c (omega arith), block d (omega arith)) refl

-- the block that is read, with what the window adds to it
pub folded_is : {a b c d n : ℕ} → IsMultiple a b c d n → (place x : ℕ) (space block : List ℕ)
    → place + n ≤ length space → Bytes space → IsBlock block →
    x ≡ bit_xor (sum_of_five (number_l 256 (chunk place 16 space)) (number_l 256 (chunk (place + a) 16 space))
    (number_l 256 (chunk (place + b) 16 space)) (number_l 256 (chunk (place + c) 16 space))
    (number_l 256 (chunk (place + d) 16 space))) (number_l 256 block) → (r : ℕ) (rest : List (List ℕ)) →
    after_window a b c d r (window_at n place space) (block ∷ rest)
    ≡ after_window a b c d (remainder 128 (bit_xor r x)) (later 16 (window_at n place space)) rest
folded_is {a} {b} {c} {d} {n} is place x space block within fits block-is sum r rest =
    let window = window_at n place space in
    let below = block-below block block-is in
    after_window-next a b c d r window x block rest block-is.0 below
    (rw (xor_mod (window_behind a b c d window) _ 128, moved-first is place space within fits, mod-eq_of_lt below, sum)
    refl)

-- ---- a block that is stored behind the window

-- where it was, as the bytes up to its end show
abbrev pub IsStored : ℕ → List ℕ → List ℕ → List ℕ → Type 0
IsStored end bytes block stored =
    (length block ≡ 16) × (take (end + 16) stored ≡ take end bytes ++ block)

pub put-stored : (end k : ℕ) (space block now : List ℕ) → end + 16 ≤ length space → now ≡ block
    → length block ≡ 16 → IsStored end space block (put_mid end k space now)
put-stored end k space block now within e long =
    (long, rw e (take-put_mid end k space block (end + 16) (omega (arith, long)) (omega arith)))

-- the window sixteen bytes on
window_at-next : (n m place : ℕ) (bytes block stored : List ℕ) → m + 16 ≡ n → place + n + 16 ≤ length bytes
    → Bytes bytes → IsStored (place + n) bytes block stored
    → window_at n (place + 16) stored ≡ later 16 (window_at n place bytes) + 2 ^ (8 * m) * number_l 256 block
window_at-next n m place bytes block stored e within fits is =
    let front = chunk (place + 16) m bytes in
    let window = chunk place n bytes in
    let room = length-chunk place n bytes (omega arith) in
    let seam : place + n ≡ place + 16 + m = omega arith in
    let end : place + 16 + n ≡ place + n + 16 = omega arith in
    let before : drop (place + 16) (take (place + n) bytes) ≡ front =
    ap (λ k. drop (place + 16) (take k bytes)) seam ∙ drop-take (place + 16) m bytes in
    let behind : chunk (place + 16) n stored ≡ front ++ block =
    sym (drop-take (place + 16) n stored) ∙ ap (λ k. drop (place + 16) (take k stored)) end
    ∙ ap (drop (place + 16)) is.1
    ∙ drop-append-le (place + 16) (take (place + n) bytes) block
    (omega (arith, length-take-le (place + n) bytes (omega arith)))
    ∙ ap (λ l. l ++ block) before in
    let whole : n ≡ 16 + m = omega arith in
    let inside : drop 16 window ≡ front =
    ap (λ k. drop 16 (chunk place k bytes)) whole ∙ drop-take 16 m (drop place bytes)
    ∙ ap (take m) (drop-drop 16 place bytes) in
    let kept : later 16 (window_at n place bytes) ≡ number_l 256 front =
    number_l-drop 256 16 window (omega (arith, room)) (Each1-chunk (λ b. b < 256) place n bytes fits)
    ∙ ap (number_l 256) inside in
    let long = length-chunk (place + 16) m bytes (omega arith) in
    rw (behind, number_l-append 256 front block, long, bytes-bits m, kept) refl

-- a block that is taken away into the window
pub fold-step : {a b c d n : ℕ} → IsMultiple a b c d n → (place : ℕ) (space block taken stored : List ℕ)
    (rest : List (List ℕ)) → place + n + 16 ≤ length space → Bytes space → IsBlock taken
    → IsStored (place + n) space taken stored → n ≤ 16 * length rest
    → after_window a b c d 0 (window_at n place space) (block ∷ rest)
    ≡ after_window a b c d (remainder 128 (number_l 256 taken)) (later 16 (window_at n place space)) rest
    → after_window a b c d 0 (window_at n (place + 16) stored) rest
    ≡ after_window a b c d 0 (window_at n place space) (block ∷ rest)
fold-step {a} {b} {c} {d} {n} is place space block taken stored rest within fits taken-is put long e =
    let m = n - 16 in
    let whole : m + 16 ≡ n = omega (arith, is.two_blocks) in
    let small = window_at-below n place space (omega arith) fits in
    rw (window_at-next n m place space taken stored whole within fits put, e)
    (after_window-kept is m (window_at n place space) (number_l 256 taken) rest whole (block-below taken taken-is) small
    long)

-- the block behind the window, and one before it
pub last-stored : (end : ℕ) (space block stored : List ℕ) → end + 16 ≤ length space
    → IsStored end space block stored → chunk end 16 stored ≡ block
last-stored end space block stored within is =
    sym (drop-take end 16 stored) ∙ ap (drop end) is.1
    ∙ drop_at (take end space) block end (length-take-le end space (omega arith))

pub before-stored : (end place : ℕ) (space block stored : List ℕ) → end + 16 ≤ length space → place + 16 ≡ end
    → IsStored end space block stored → chunk place 16 stored ≡ chunk place 16 space
before-stored end place space block stored within seam is =
    let front : take end stored ≡ take end space =
    sym (take-take end (end + 16) stored (omega arith)) ∙ ap (take end) is.1
    ∙ take_at (take end space) block end (length-take-le end space (omega arith)) in
    sym (drop-take place 16 stored) ∙ ap (λ k. drop place (take k stored)) seam ∙ ap (drop place) front
    ∙ ap (λ k. drop place (take k space)) (sym seam)
    ∙ drop-take place 16 space

-- a window without its first block, and nothing behind it
pub window_at-emptied : (n place : ℕ) (space stored : List ℕ) → 16 ≤ n → place + n + 16 ≤ length space → Bytes space
    → IsStored (place + n) space (replicate 16 0) stored
    → window_at n (place + 16) stored ≡ later 16 (window_at n place space)
window_at-emptied n place space stored wide within fits is =
    let none : number_l 256 (replicate 16 0) ≡ 0 = number_l-none 256 16 in
    window_at-next n (n - 16) place space (replicate 16 0) stored (omega arith) within fits is ∙ rw none (omega arith)

pub later-one : (k w : ℕ) → later 16 (later k w) ≡ later (k + 16) w
later-one k w = let e : 8 * k + 128 ≡ 8 * (k + 16) = omega arith in rw (shr-shr w (8 * k) 128, e)

-- the window at the front again
pub window_at-front : (n k size : ℕ) (space : List ℕ) → size ≡ n → k + n ≤ length space
    → window_at n 0 (paste space 0 (drop k space) size) ≡ window_at n k space
window_at-front n k size space e within =
    let long = length-drop k space in
    rw e (ap (λ j. number_l 256 (take j (paste space 0 (drop k space) n))) (sym (zero-add n))
    ∙ ap (number_l 256) (take-paste space 0 (drop k space) n (omega arith) (omega (arith, long))))

-- a window of a register at its front and nothing else
pub window_at-register : (n k r : ℕ) (space : List ℕ) → r < 2 ^ 32 → 4 ≤ n → n ≤ 4 + k
    → space ≡ to_le_bytes w32 r ++ replicate k 0 → window_at n 0 space ≡ r
window_at-register n k r space below wide within e =
    let bytes = to_le_bytes w32 r in
    let j = n - 4 in
    let none = take-replicate j k 0 (omega arith) in
    let whole : n ≡ 4 + j = omega arith in
    let front : take n (bytes ++ replicate k 0) ≡ bytes ++ replicate j 0 =
    ap (λ i. take i (bytes ++ replicate k 0)) whole ∙ take-append-add bytes (replicate k 0) j
    ∙ ap (λ l. bytes ++ l) none in
    let number : number_l 256 bytes ≡ r = number_l-bytes 0 4 r ∙ rw div-one (mod-eq_of_lt below) in
    ap (λ l. number_l 256 (take n l)) e ∙ ap (number_l 256) front ∙ number_l-append 256 bytes (replicate j 0)
    ∙ rw (number_l-none 256 j, number) (omega arith)
