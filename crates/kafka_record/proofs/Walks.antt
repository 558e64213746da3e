-- Headers that are taken one by one.
use Rattle.std.proofs.Common.{◌≡◌, ◌∙◌, ℕ, zero, suc, ◌+◌, Bool, cond, List, [], ◌∷◌, drop, slice_get, Option, Some, None}
use Rattle.std.proofs.Common.{refl, ap, position}
use Rattle.std.specs.List.{position_from}
use Rattle.std.proofs.{lemmas.List.drop-drop, lemmas.Iterator.Adapters.position_from-zero}
use Rattle.wire_spec.specs.declared.record.Header.{Header}

pub taken : (all rest left : List Header) (i : ℕ) → rest ≡ drop i all → left ≡ drop 1 rest → left ≡ drop (i + 1) all
taken all rest left i is took = took ∙ ap (λ (hs : List Header). drop 1 hs) is ∙ drop-drop 1 i all

first_at : (all : List Header) (i : ℕ) → slice_get (drop i all) 0 ≡ slice_get all i
first_at [] zero = refl
first_at [] (suc i) = refl
first_at (h ∷ hs) zero = refl
first_at (h ∷ hs) (suc i) = first_at hs i

pub got : (all rest : List Header) (i : ℕ) → rest ≡ drop i all → slice_get rest 0 ≡ slice_get all i
got all rest i is = ap (λ (hs : List Header). slice_get hs 0) is ∙ first_at all i

abbrev some_header : Header → Option Header
some_header h = Some h

-- where a search stands at a header, and where there is none left
pub at_first : (test : Header → Bool) (i : ℕ) (rest : List Header) (h : Header) → some_header h ≡ slice_get rest 0 →
    position_from test i rest ≡ cond (test h) (Some i) (position_from test (i + 1) (drop 1 rest))
at_first test i [] h is = absurd cc
at_first test i (x ∷ rest) h is = let same : h ≡ x = cc in rw same refl

abbrev no_header : Option Header
no_header = None

pub at_none : (test : Header → Bool) (i : ℕ) (rest : List Header) → no_header ≡ slice_get rest 0 →
    position_from test i rest ≡ None
at_none test i [] is = refl
at_none test i (x ∷ rest) is = absurd cc

pub position_is : (test : Header → Bool) (all : List Header) → position test all ≡ position_from test 0 all
position_is test all = position_from-zero test all
