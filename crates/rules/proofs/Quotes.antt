-- Reading a text byte by byte, as a loop does.
use Rattle.std.proofs.Common.{◌≡◌, ℕ, suc, ◌-◌, ◌+◌, ◌≤◌, ◌<◌, List, [], ◌∷◌, ◌++◌, Some, None, Ok, Err}
use Rattle.std.proofs.Common.{refl, sym, ap, ◌∙◌, append_assoc, arith}
use Rattle.std.proofs.lemmas.List.{append-nil}
use Rattle.rules.specs.declared.fault.LineFault.TheVariants as fault
use Rattle.rules.specs.Scanning.{Read, after_quote, char_at, onto_text, quoted}

-- what was read before, and what is still read
abbrev pub with_front : List ℕ → Read (List ℕ) → Read (List ℕ)
with_front front (Ok x) = Ok (front ++ x.0, x.1)
with_front front (Err e) = Err e

regroup : (front : List ℕ) (byte : ℕ) (read : Read (List ℕ)) →
    with_front front (onto_text byte read) ≡ with_front (front ++ byte ∷ []) read
regroup front byte (Ok x) = ap (λ (bytes : List ℕ). Ok (bytes, x.1)) (sym (append_assoc front (byte ∷ []) x.0))
regroup front byte (Err e) = refl

-- what is read of a text from a place on, where so many bytes were read
pub record IsQuoted (front : List ℕ) (room i at : ℕ) (rest : List ℕ) (total : Read (List ℕ)) : Type 0 where
  pub so_far : with_front front (quoted (room - i) at rest) ≡ total

pub closes : (front : List ℕ) (room i at : ℕ) (rest after : List ℕ) (total : Read (List ℕ)) →
    IsQuoted front room i at rest total → i < room → after_quote rest ≡ Some after → total ≡ Ok (front, after)
unfolding quoted
closes front room i at rest after total is within closed =
    let k : room - i ≡ suc (room - (i + 1)) = omega arith in
    let one : with_front front (quoted (room - i) at rest) ≡ Ok (front, after) =
    rw (k, closed) (ap (λ (bytes : List ℕ). Ok (bytes, after)) (append-nil front)) in
    sym is.so_far ∙ one

pub is_bad : (front : List ℕ) (room i at : ℕ) (rest : List ℕ) (total : Read (List ℕ)) →
    IsQuoted front room i at rest total → i < room → after_quote rest ≡ None → char_at rest ≡ None →
    total ≡ Err (fault.Text at)
unfolding quoted
is_bad front room i at rest total is within unclosed none =
    let k : room - i ≡ suc (room - (i + 1)) = omega arith in
    let one : with_front front (quoted (room - i) at rest) ≡ Err (fault.Text at) = rw (k, unclosed, none) refl in
    sym is.so_far ∙ one

pub goes_on : (front : List ℕ) (room i at byte : ℕ) (rest after : List ℕ) (total : Read (List ℕ)) →
    IsQuoted front room i at rest total → i < room → after_quote rest ≡ None → char_at rest ≡ Some (byte, after) →
    IsQuoted (front ++ byte ∷ []) room (i + 1) at after total
unfolding quoted
goes_on front room i at byte rest after total is within unclosed next =
    let k : room - i ≡ suc (room - (i + 1)) = omega arith in
    let one : with_front front (quoted (room - i) at rest)
    ≡ with_front (front ++ byte ∷ []) (quoted (room - (i + 1)) at after) =
    rw (k, unclosed, next) (regroup front byte (quoted (room - (i + 1)) at after)) in
    record { so_far = sym one ∙ is.so_far }

pub is_long : (front : List ℕ) (room i at : ℕ) (rest : List ℕ) (total : Read (List ℕ)) →
    IsQuoted front room i at rest total → room ≤ i → total ≡ Err (fault.Long at)
unfolding quoted
is_long front room i at rest total is past =
    let k : room - i ≡ 0 = omega arith in
    let one : with_front front (quoted (room - i) at rest) ≡ Err (fault.Long at) = rw k refl in
    sym is.so_far ∙ one
