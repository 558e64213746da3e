-- One instruction after another: the refusal of a code from one of its instructions on.
use Rattle.std.proofs.Common.{◌≡◌, ℕ, ◌+◌, Bool, true, ◌==◌, ◌&&◌, List, [], ◌∷◌, length, drop, refl, ap, ◌∙◌}
use Rattle.std.proofs.Common.{below_more, arith, inl, inr, Option, Some, None, slice_get, IfNone}
use Rattle.std.proofs.lemmas.Bool.{cases_lt, and_parts, eqb-true}
use Rattle.machine_spec.specs.declared.{helper.Helper.Helper, instruction.Placed.Placed}
use Rattle.verifier_spec.specs.declared.{fault.Check.Check, fault.VerifyFault.VerifyFault}
use Rattle.verifier_spec.specs.Annotation.{Claims, claim_at, failed_at, fault_or, fault_from}
use Rattle.verifier_spec.proofs.Faults.{fault_from-drop, none_fault_or}
use Rattle.notes.specs.Proper.{IsProperAt, AreProperBelow, AreProper}
use Rattle.notes.proofs.Lookups.{claim_at_past}

drop_all : {A : Type 0} (xs : List A) → drop (length xs) xs ≡ []
drop_all [] = refl
drop_all (x ∷ xs) = drop_all xs

module _ (helpers : List Helper) where
  -- the refusal of an instruction that fails a check
  pub reported_here : (code : List Placed) (claims : Claims) (k : ℕ) (placed : Placed) (kind : Check) →
      slice_get code k ≡ Some placed
      → failed_at helpers code claims k placed ≡ Some kind →
      fault_from helpers code claims k (drop k code) ≡ Some (record { pc = k; kind = kind })
  reported_here code claims k placed kind at fails =
      fault_from-drop helpers code claims code k placed at
      ∙ ap (λ failed. fault_or k failed (fault_from helpers code claims (k + 1) (drop (k + 1) code))) fails

  -- one that fails none leaves the word to the later ones
  pub passed_here : (code : List Placed) (claims : Claims) (k : ℕ) (placed : Placed) → slice_get code k ≡ Some placed →
      failed_at helpers code claims k placed ≡ None →
      fault_from helpers code claims k (drop k code) ≡ fault_from helpers code claims (k + 1) (drop (k + 1) code)
  passed_here code claims k placed at passes =
      fault_from-drop helpers code claims code k placed at
      ∙ none_fault_or k (failed_at helpers code claims k placed)
      (fault_from helpers code claims (k + 1) (drop (k + 1) code)) passes

  -- past the last there is none
  pub none_past : (code : List Placed) (claims : Claims) →
      fault_from helpers code claims (length code) (drop (length code) code) ≡ None
  none_past code claims = ap (fault_from helpers code claims (length code)) (drop_all code)

pub proper_more : (claims : Claims) (k : ℕ) → AreProperBelow claims k → IsProperAt claims k →
    AreProperBelow claims (k + 1)
proper_more claims k below here = below_more (IsProperAt claims) k below here

-- all states are in their ranges where those of as many instructions as the list has are
pub proper_all : (claims : Claims) (n : ℕ) → length claims ≡ n → AreProperBelow claims n → AreProper claims
proper_all claims n long below k s e =
    elim (cases_lt k n) [
      | inl inside ↦ below k inside s e
      | inr past ↦
          let none : claim_at claims k ≡ None = claim_at_past claims k (omega arith) in
          absurd (cc)
    ]

-- what a clause says where there is no value gives what follows from it
none_then : {T : Type 0} (r : Option T) {P Q : Type 0} → IfNone r P → (P → Q) → IfNone r Q
none_then None h f = f h
none_then (Some x) h f = tt

pub proper_started : (claims : Claims) (n : ℕ) (covers : Bool) (reported : Option VerifyFault) →
    ((length claims == n) && covers) ≡ true → IfNone reported (AreProperBelow claims n) →
    IfNone reported (AreProper claims)
proper_started claims n covers reported started below =
    let long : length claims ≡ n = eqb-true (length claims) n (and_parts (length claims == n) covers started).0 in
    none_then reported below (proper_all claims n long)
