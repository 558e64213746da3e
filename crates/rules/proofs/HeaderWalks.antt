-- A search for a header, which takes one header after the other.
use Rattle.std.proofs.Common.{◌≡◌, Bool, cond, List, [], ◌∷◌, drop, slice_get, find, Option, Some, None, refl}
use Rattle.wire_spec.specs.declared.record.Header.{Header}

abbrev some_header : Header → Option Header
some_header h = Some h

-- where the search stands at a header
pub at_first : (test : Header → Bool) (rest : List Header) (h : Header) → some_header h ≡ slice_get rest 0 →
    find test rest ≡ cond (test h) (Some h) (find test (drop 1 rest))
at_first test [] h is = absurd cc
at_first test (x ∷ rest) h is = let same : h ≡ x = cc in rw same refl
