-- One text after the other.
use Rattle.std.proofs.Common.{◌≡◌, ℕ, ◌+◌, ◌-◌, ◌<◌, ◌≤◌, min, List, [], ◌∷◌, ◌++◌, length, take, drop, map, get_or}
use Rattle.std.proofs.Common.{Option, sym, ap, subst, ◌∙◌, append_assoc, arith, refl, Result, Ok, Err, IsErr}
use Rattle.std.specs.{List.flat_map, Io.KnownBytes.Appends}
use Rattle.std.proofs.{lemmas.Bool.false≢true, KnownBytes.Appends-nil, KnownBytes.Appends-trans}
use Rattle.std.proofs.lemmas.List.{take-append-drop, take-append-le, take_min, take_rest, drop_more, append-nil}
use Rattle.std.proofs.lemmas.List.{map-append, take_more}
use Rattle.report.specs.Writes.{Writes}
use Rattle.wire_spec.proofs.Beginnings.{begun_then}
use Rattle.wire_spec.specs.Writing.{HasBegun}

flat_map_push : {X : Type 0} (f : X → List ℕ) (xs : List X) (x : X) → flat_map f (xs ++ x ∷ []) ≡ flat_map f xs ++ f x
flat_map_push f [] x = append-nil (f x)
flat_map_push f (y ∷ xs) x = ap (λ (bs : List ℕ). f y ++ bs) (flat_map_push f xs x)
    ∙ sym (append_assoc (f y) (flat_map f xs) (f x))

-- one text more, after those of a list
pub written_more : {X : Type 0} (f : X → List ℕ) (xs : List X) (x : X) (a b c : Option (List ℕ)) (text : List ℕ) →
    Appends a b (flat_map f xs) → Appends b c text → text ≡ f x → Appends a c (flat_map f (xs ++ x ∷ []))
written_more f xs x a b c text before now is =
    subst (λ (bs : List ℕ). Appends a c bs) (ap (λ (bs : List ℕ). flat_map f xs ++ bs) is ∙ sym (flat_map_push f xs x))
    (Appends-trans a b c (flat_map f xs) text before now)

-- the same where the list is seen through a view
pub seen_more : {X Y : Type 0} (view : Y → X) (f : X → List ℕ) (ys : List Y) (y : Y) (a b c : Option (List ℕ))
    (text : List ℕ) → Appends a b (flat_map f (map view ys)) → Appends b c text → text ≡ f (view y) →
    Appends a c (flat_map f (map view (ys ++ y ∷ [])))
seen_more view f ys y a b c text before now is =
    subst (λ (xs : List _). Appends a c (flat_map f xs)) (sym (map-append view ys (y ∷ [])))
    (written_more f (map view ys) (view y) a b c text before now is)

-- the same of one more element of a slice
pub taken_more : {X : Type 0} (f : X → List ℕ) (xs : List X) (k : ℕ) (x : X) (a b c : Option (List ℕ)) (text : List ℕ) →
    k < length xs → x ≡ get_or xs k x → Appends a b (flat_map f (take k xs)) → Appends b c text → text ≡ f x →
    Appends a c (flat_map f (take (k + 1) xs))
taken_more f xs k x a b c text lt at before now is =
    let longer : take (k + 1) xs ≡ take k xs ++ x ∷ [] = take_more xs k x lt ∙ ap (λ y. take k xs ++ y ∷ []) (sym at) in
    subst (λ ys. Appends a c (flat_map f ys)) (sym longer) (written_more f (take k xs) x a b c text before now is)

-- ---- a beginning of a text

pub begun_none : (a : Option (List ℕ)) (text : List ℕ) → HasBegun a a text
begun_none a text = record { count = 0; written = Appends-nil a }

-- a call that fails after a beginning
pub writes_fault : {E : Type 0} (a b : Option (List ℕ)) (text : List ℕ) (r : Result (Unit {0}) E) → IsErr r →
    HasBegun a b text → Writes a b text r
writes_fault a b text (Ok done) e h = absurd (false≢true e)
writes_fault a b text (Err fault) e h = h

-- what is left of a text
pub rest_is : (bytes text : List ℕ) (done : ℕ) → bytes ≡ text →
    take (length bytes - done) (drop done bytes) ≡ drop done text
rest_is bytes text done e = take_rest bytes done ∙ ap (λ (bs : List ℕ). drop done bs) e

-- a beginning of the first of two texts
pub begun_first : (a b : Option (List ℕ)) (x y : List ℕ) → HasBegun a b x → HasBegun a b (x ++ y)
begun_first a b x y h =
    let n : ℕ = min h.count (length x) in
    let le : n ≤ length x = omega arith in
    let same : take n (x ++ y) ≡ take h.count x = take-append-le n x y le ∙ take_min h.count x in
    record { count = n; written = subst (λ (bs : List ℕ). Appends a b bs) (sym same) h.written }

-- what holds of the whole of two texts by what was written of the second
pub writes_then : {E : Type 0} (a b c : Option (List ℕ)) (x y : List ℕ) (r : Result (Unit {0}) E) → Appends a b x →
    Writes b c y r → Writes a c (x ++ y) r
writes_then a b c x y (Ok done) h g = Appends-trans a b c x y h g
writes_then a b c x y (Err fault) h g = begun_then a b c x y h g

pub writes_same : {E : Type 0} (a b : Option (List ℕ)) (text line : List ℕ) (r : Result (Unit {0}) E) → text ≡ line →
    Writes a b text r → Writes a b line r
writes_same a b text line r is h = subst (λ (bs : List ℕ). Writes a b bs r) is h

-- ---- a beginning of the texts of a list

flat_map_split : {X : Type 0} (f : X → List ℕ) (xs ys : List X) → flat_map f (xs ++ ys) ≡ flat_map f xs ++ flat_map f ys
flat_map_split f [] ys = refl
flat_map_split f (x ∷ xs) ys = ap (λ (bs : List ℕ). f x ++ bs) (flat_map_split f xs ys)
    ∙ sym (append_assoc (f x) (flat_map f xs) (flat_map f ys))

-- the texts of the first elements
pub begun_part : {X : Type 0} (f : X → List ℕ) (xs ys : List X) (a b : Option (List ℕ)) → Appends a b (flat_map f xs) →
    HasBegun a b (flat_map f (xs ++ ys))
begun_part f xs ys a b h =
    subst (λ (bs : List ℕ). HasBegun a b bs) (sym (flat_map_split f xs ys))
    (begun_then a b b (flat_map f xs) (flat_map f ys) h (begun_none b (flat_map f ys)))

-- and a beginning of the next one's
pub begun_next : {X : Type 0} (f : X → List ℕ) (xs : List X) (x : X) (ys : List X) (a b c : Option (List ℕ)) →
    Appends a b (flat_map f xs) → HasBegun b c (f x) → HasBegun a c (flat_map f (xs ++ x ∷ ys))
begun_next f xs x ys a b c h g =
    subst (λ (bs : List ℕ). HasBegun a c bs) (sym (flat_map_split f xs (x ∷ ys)))
    (begun_then a b c (flat_map f xs) (f x ++ flat_map f ys) h (begun_first b c (f x) (flat_map f ys) g))

split_at : {X : Type 0} (xs : List X) (k : ℕ) (x : X) → k < length xs → x ≡ get_or xs k x →
    take k xs ++ x ∷ drop (k + 1) xs ≡ xs
split_at xs k x lt is =
    ap (λ ys. take k xs ++ ys) (ap (λ y. y ∷ drop (k + 1) xs) is ∙ sym (drop_more xs k x lt)) ∙ take-append-drop k xs

-- the same of a slice
pub part_begun : {X : Type 0} (f : X → List ℕ) (xs : List X) (k : ℕ) (a b : Option (List ℕ)) →
    Appends a b (flat_map f (take k xs)) → HasBegun a b (flat_map f xs)
part_begun f xs k a b h = subst (λ ys. HasBegun a b (flat_map f ys)) (take-append-drop k xs)
    (begun_part f (take k xs) (drop k xs) a b h)

pub next_begun : {X : Type 0} (f : X → List ℕ) (xs : List X) (k : ℕ) (x : X) (a b c : Option (List ℕ)) → k < length xs →
    x ≡ get_or xs k x → Appends a b (flat_map f (take k xs)) → HasBegun b c (f x) → HasBegun a c (flat_map f xs)
next_begun f xs k x a b c lt is h g =
    subst (λ ys. HasBegun a c (flat_map f ys)) (split_at xs k x lt is)
    (begun_next f (take k xs) x (drop (k + 1) xs) a b c h g)
