-- What passes under one helper table passes under the table of all helpers.
use Rattle.std.proofs.Common.{◌≡◌, ℤ, false, List, Option, Some, None, refl}
use Rattle.machine_spec.specs.declared.{helper.Helper.Helper, helper.TheConstants.HELPERS}
use Rattle.machine_spec.specs.declared.instruction.Instruction.{Instruction}
use Rattle.machine_spec.specs.{Traps.calls_no_helper, Summaries.summary_of}
use Rattle.machine_spec.proofs.Helpers.{is_helper}
use Rattle.verifier_spec.specs.{declared.state.Abstract.Abstract, Checks.failed_check}
use Rattle.verifier_spec.proofs.Safety.{passes, failed_from}

-- a call of a helper that a table lists is a call of a helper
calls_one : (helpers : List Helper) (call : Option ℤ) → calls_no_helper helpers call ≡ false →
    calls_no_helper HELPERS call ≡ false
calls_one helpers (Some number) listed = is_helper helpers number listed
calls_one helpers None listed = refl

-- an instruction that passes its checks under a table passes them under all helpers
pub passes_all : (helpers : List Helper) (i : Instruction) (s : Abstract) → failed_check helpers i s ≡ None →
    failed_check HELPERS i s ≡ None
passes_all helpers i s passed =
    let p = passes helpers i s passed in
    failed_from HELPERS i s (assumption (p, calls_one helpers (summary_of i).call p.helper))
