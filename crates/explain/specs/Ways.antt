-- Which instructions are listed: all, or the refused one and those on the way to it.
use Rattle.std.specs.Prelude.{ℕ, Bool, true, false, ◌==◌, ◌&&◌, ◌||◌, if◌then◌else◌, List, [], length, Option, Some}
use Rattle.std.specs.Prelude.{None, is_some}
use Rattle.machine_spec.specs.declared.instruction.Placed.{Placed}
use Rattle.verifier_spec.specs.{declared.fault.VerifyFault.VerifyFault, Annotation.Claims, Annotation.claim_at}
use Rattle.explain.specs.declared.{way.Coverage.Coverage, way.Selection.Selection}
use Rattle.explain.specs.{Loops.comes_to, Loops.is_marked, Texts.lines_at}

-- An instruction is another one itself, or it is reached and the code comes from it to that one.
abbrev pub is_on_way : List Placed → Claims → ℕ → ℕ → Bool
is_on_way code claims to k = (k == to) || (is_some (claim_at claims k) && comes_to code to (length code) k)

-- Of an accepted program no instruction is on the way to a refused one.
abbrev pub is_listed : Coverage → List Placed → Claims → Option VerifyFault → ℕ → Bool
is_listed Coverage.All code claims fault k = true
is_listed Coverage.Refused code claims (Some fault) k = is_on_way code claims fault.pc k
is_listed Coverage.Refused code claims None k = false

-- the lines of instruction number k, if it passes a test
abbrev pub lines_where : (ℕ → Bool) → List Placed → Claims → ℕ → List ℕ
lines_where test code claims k = if test k then lines_at code claims k else []

-- the same test, by marks of the instructions from which the code comes to one
abbrev pub is_selected : Claims → Selection → ℕ → Bool
is_selected claims Selection.All k = true
is_selected claims Selection.Nothing k = false
is_selected claims (Selection.Way to marks) k = (k == to) || (is_some (claim_at claims k) && is_marked marks.items k)
