-- The lines of the instructions that are listed, by the marks of those from which the code comes to the refused one.
use Rattle.std.proofs.Common.{◌≡◌, ℕ, Bool, List, Option, ◌&&◌, ◌||◌, ◌==◌, length, refl, ap, is_some}
use Rattle.std.proofs.Math.Path.{fun_ext}
use Rattle.machine_spec.specs.declared.instruction.Placed.{Placed}
use Rattle.verifier_spec.specs.{declared.fault.VerifyFault.VerifyFault, Annotation.Claims, Annotation.claim_at}
use Rattle.explain.specs.{declared.way.Coverage.Coverage, declared.way.Selection.Selection, Texts.texts_below}
use Rattle.explain.specs.Loops.{comes_to, is_marked}
use Rattle.explain.specs.Ways.{is_on_way, is_listed, lines_where, is_selected}

-- the marks say from which instructions the code comes to one
pub on_way : (code : List Placed) (claims : Claims) (to : ℕ) (marks : List Bool) (k : ℕ) →
    is_marked marks k ≡ comes_to code to (length code) k →
    ((k == to) || (is_some (claim_at claims k) && is_marked marks k)) ≡ is_on_way code claims to k
on_way code claims to marks k are = rw are refl

-- a selection that selects what is listed gives the same lines
pub same_listed : (code : List Placed) (claims : Claims) (coverage : Coverage) (fault : Option VerifyFault)
    (selection : Selection) (count : ℕ) →
    ((claims : Claims) (k : ℕ) → is_selected claims selection k ≡ is_listed coverage code claims fault k) →
    texts_below count (lines_where (is_selected claims selection) code claims)
    ≡ texts_below count (lines_where (is_listed coverage code claims fault) code claims)
same_listed code claims coverage fault selection count same =
    ap (λ (test : ℕ → Bool). texts_below count (lines_where test code claims)) (fun_ext (same claims))
