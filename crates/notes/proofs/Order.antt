-- The order in which an instruction's checks are reported: its shape's, its own in its state, and its edges.
use Rattle.std.proofs.Common.{◌≡◌, ℕ, Bool, true, false, if◌then◌else◌, not, refl, List, [], ◌∷◌, ap, ◌∙◌, Option, Some}
use Rattle.std.proofs.Common.{None}
use Rattle.machine_spec.specs.declared.{helper.Helper.Helper, instruction.Placed.Placed}
use Rattle.machine_spec.specs.{Summaries.summary_of, Traps.first_of}
use Rattle.verifier_spec.specs.declared.{state.Abstract.Abstract, fault.Check.Check}
use Rattle.verifier_spec.specs.declared.fault.Check.TheVariants as check
use Rattle.verifier_spec.specs.Checks.{checks, failed_check, shape_checks}
use Rattle.verifier_spec.specs.Annotation.{Claims, claim_at, are_edges_covered, reached_checks, failed_at}
use Rattle.verifier_spec.proofs.Faults.{first_of-append, first_of-reported}

module _ (helpers : List Helper) where
  -- a failed check of the shape is reported
  pub shape_reported : (code : List Placed) (claims : Claims) (k : ℕ) (placed : Placed) (kind : Check)
      → first_of (shape_checks code k placed) ≡ Some kind → failed_at helpers code claims k placed ≡ Some kind
  unfolding failed_at
  shape_reported code claims k placed kind e =
      first_of-reported (shape_checks code k placed) (reached_checks helpers code claims k placed (claim_at claims k))
      kind e

  -- else the first failed check in the instruction's state
  pub shape_passed : (code : List Placed) (claims : Claims) (k : ℕ) (placed : Placed) (known : Option Abstract)
      → first_of (shape_checks code k placed) ≡ None → claim_at claims k ≡ known
      → failed_at helpers code claims k placed ≡ first_of (reached_checks helpers code claims k placed known)
  unfolding failed_at
  shape_passed code claims k placed known e n =
      first_of-append (shape_checks code k placed) (reached_checks helpers code claims k placed (claim_at claims k)) e
      ∙ ap (λ s. first_of (reached_checks helpers code claims k placed s)) n

  -- of which its own are reported before its edges
  pub check_reported : (code : List Placed) (claims : Claims) (k : ℕ) (placed : Placed) (s : Abstract) (kind : Check) →
      failed_check helpers placed.instruction s ≡ Some kind →
      first_of (reached_checks helpers code claims k placed (Some s)) ≡ Some kind
  unfolding failed_check
  check_reported code claims k placed s kind e =
      first_of-reported (checks helpers (summary_of placed.instruction) s)
      ((not (are_edges_covered code claims k placed s), check.Notes) ∷ []) kind e

  -- and then an edge that leads where no claim covers it
  pub edges_reported : (code : List Placed) (claims : Claims) (k : ℕ) (placed : Placed) (s : Abstract)
      (covered : Bool) → failed_check helpers placed.instruction s ≡ None →
      are_edges_covered code claims k placed s ≡ covered →
      first_of (reached_checks helpers code claims k placed (Some s)) ≡ (if covered then None else Some check.Notes)
  unfolding failed_check
  edges_reported code claims k placed s covered e is =
      first_of-append (checks helpers (summary_of placed.instruction) s)
      ((not (are_edges_covered code claims k placed s), check.Notes) ∷ []) e
      ∙ ap (λ b. first_of ((not b, check.Notes) ∷ [])) is ∙ last covered
    where
      last : (b : Bool) → first_of ((not b, check.Notes) ∷ []) ≡ (if b then None else Some check.Notes)
      last true = refl
      last false = refl
