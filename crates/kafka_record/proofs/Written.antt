-- Bytes that were written at the end, one part after the other.
use Rattle.std.proofs.Common.{◌≡◌, ℕ, ◌+◌, ◌≤◌, List, [], ◌∷◌, ◌++◌, length, take, refl, sym, ap, ◌∙◌, append_assoc, arith}
use Rattle.std.proofs.Common.{ℤ, pos}
use Rattle.std.specs.List.{flat_map}
use Rattle.std.proofs.lemmas.List.{take_at, take-take, take_all, length-take, length-append}
use Rattle.wire_spec.specs.{declared.record.Header.Header, declared.record.Record.Record, Varint.varint, Varint.varlong}
use Rattle.wire_spec.specs.RecordSpelling.{nullable, header, record_body}
use Rattle.kafka_record.specs.{Keeps.Keeps, Parts.spelling_with}

pub Keeps-same : (old new : List ℕ) → new ≡ old → Keeps old new
Keeps-same old new e = record { front = ap (take (length old)) e ∙ take_all (length old) old (omega arith) }

pub Keeps-append : (old new more : List ℕ) → new ≡ old ++ more → Keeps old new
Keeps-append old new more e = record { front = ap (take (length old)) e ∙ take_at old more (length old) refl }

pub Keeps-then : (a b c : List ℕ) → Keeps a b → Keeps b c → Keeps a c
Keeps-then a b c p q =
    let shorter : length a ≤ length b = omega (arith, length-take (length a) b, ap length p.front) in
    record { front = sym (take-take (length a) (length b) c shorter) ∙ ap (take (length a)) q.front ∙ p.front }

pub ruleset keeping = (Keeps-same, Keeps-append, Keeps-then)

-- ---- The parts of a body

-- all of its parts in a row
pub body_is : (delta delta' : ℤ) (t : ℤ) (r : Record) (hs : List Header) (old a b c new : List ℕ) → delta' ≡ delta →
    t ≡ r.timestamp_delta → hs ≡ r.headers → a ≡ old ++ 0 ∷ (varlong t ++ varint delta') → b ≡ a ++ nullable r.key →
    c ≡ b ++ nullable r.value → new ≡ c ++ (varint (pos (length hs)) ++ flat_map header hs) →
    new ≡ old ++ record_body delta r
body_is delta delta' t r hs old a b c new same_delta same_t same_hs e1 e2 e3 e4 =
    let row : new ≡ (((old ++ 0 ∷ (varlong t ++ varint delta')) ++ nullable r.key) ++ nullable r.value)
    ++ (varint (pos (length hs)) ++ flat_map header hs) = cc in
    row ∙ rw (same_delta, same_t, same_hs) (simp append_assoc)

-- the same, of parts that are spelled
pub spelled_is : (time time' delta delta' : ℤ) (t d : ℕ) (old a b new parts : List ℕ) → time' ≡ time → delta' ≡ delta →
    t ≡ length (varlong time') → d ≡ length (varint delta') → a ≡ old ++ varint (pos (1 + t + d + length parts)) →
    b ≡ a ++ 0 ∷ (varlong time' ++ varint delta') → new ≡ b ++ parts → new ≡ old ++ spelling_with time parts delta
spelled_is time time' delta delta' t d old a b new parts same_time same_delta t_is d_is e1 e2 e3 =
    let long : 1 + t + d + length parts ≡ length (0 ∷ (varlong time' ++ (varint delta' ++ parts))) =
    omega (
      arith,
      length-append (varint delta') parts,
      length-append (varlong time') (varint delta' ++ parts),
    ) in
    let row : new ≡ ((old ++ varint (pos (1 + t + d + length parts))) ++ 0 ∷ (varlong time' ++ varint delta'))
    ++ parts =
    cc in
    row ∙ rw (long, same_time, same_delta) (simp append_assoc)

-- how many bytes it takes
pub spelled_size : (time time' delta delta' : ℤ) (t d : ℕ) (parts : List ℕ) → time' ≡ time → delta' ≡ delta →
    t ≡ length (varlong time') → d ≡ length (varint delta') →
    length (varint (pos (1 + t + d + length parts))) + (1 + t + d + length parts)
    ≡ length (spelling_with time parts delta)
spelled_size time time' delta delta' t d parts same_time same_delta t_is d_is =
    let bytes = varint (pos (1 + t + d + length parts)) in
    let is : spelling_with time parts delta ≡ (bytes ++ 0 ∷ (varlong time' ++ varint delta')) ++ parts =
    sym (spelled_is time time' delta delta' t d [] bytes (bytes ++ 0 ∷ (varlong time' ++ varint delta'))
    ((bytes ++ 0 ∷ (varlong time' ++ varint delta')) ++ parts) parts same_time same_delta t_is d_is refl refl refl) in
    omega (
      arith,
      ap length is,
      t_is,
      d_is,
      length-append (bytes ++ 0 ∷ (varlong time' ++ varint delta')) parts,
      length-append bytes (0 ∷ (varlong time' ++ varint delta')),
      length-append (varlong time') (varint delta'),
    )

-- the sum of their lengths
pub length_is : (delta : ℤ) (r : Record) (t d k v n h : ℕ) → t ≡ length (varlong r.timestamp_delta) →
    d ≡ length (varint delta) → k ≡ length (nullable r.key) → v ≡ length (nullable r.value) →
    n ≡ length (varint (pos (length r.headers))) → h ≡ length (flat_map header r.headers) →
    1 + t + d + (k + v) + n + h ≡ length (record_body delta r)
length_is delta r t d k v n h e1 e2 e3 e4 e5 e6 =
    let hs = flat_map header r.headers in
    let n' = varint (pos (length r.headers)) in
    let v' = nullable r.value in
    let k' = nullable r.key in
    let d' = varint delta in
    let t' = varlong r.timestamp_delta in
    omega (
      arith,
      length-append n' hs,
      length-append v' (n' ++ hs),
      length-append k' (v' ++ (n' ++ hs)),
      length-append
          d' (k' ++ (v' ++ (n' ++ hs))),
      length-append t' (d' ++ (k' ++ (v' ++ (n' ++ hs)))),
    )
