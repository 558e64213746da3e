-- The end of a listing: how many of its instructions are never reached, and the verdict.
use Rattle.std.specs.Prelude.{ℕ, zero, suc, ◌+◌, ◌==◌, if◌then◌else◌, List, [], ◌∷◌, ◌++◌, Option, Some, None, is_none}
use Rattle.std.specs.Prelude.{codes, decimal}
use Rattle.verifier_spec.specs.declared.{fault.Check.Check, fault.VerifyFault.VerifyFault}
use Rattle.verifier_spec.specs.Annotation.{Claims, claim_at}

-- how many of the first instructions have no claim
unfoldable pub unreached_count : Claims → ℕ → ℕ
unreached_count claims zero = 0
unreached_count claims (suc k) =
    if is_none (claim_at claims k) then unreached_count claims k + 1 else unreached_count claims k

-- `never reached: 2 of 7 instructions`; nothing where all are reached
abbrev pub unreached_text : ℕ → ℕ → List ℕ
unreached_text unreached count =
    if unreached == 0 then [] else codes "never reached: "
    ++ (decimal unreached ++ (codes " of " ++ (decimal count ++ (codes " instructions" ++ 10 ∷ []))))

-- the number and the name of a check, as `V7 RecordBounds`
abbrev pub check_text : Check → List ℕ
check_text Check.JumpTarget = codes "V1 JumpTarget"
check_text Check.BackJump = codes "V2 BackJump"
check_text Check.RunsOff = codes "V3 RunsOff"
check_text Check.Unset = codes "V4 Unset"
check_text Check.WrongType = codes "V5 Type"
check_text Check.Frame = codes "V6 Frame"
check_text Check.RecordBounds = codes "V7 RecordBounds"
check_text Check.StackBounds = codes "V8 StackBounds"
check_text Check.StackUnset = codes "V9 StackUnset"
check_text Check.ReadOnly = codes "V10 ReadOnly"
check_text Check.Helper = codes "V11 Helper"
check_text Check.HelperArg = codes "V12 HelperArg"
check_text Check.Exit = codes "V13 Exit"
check_text Check.Memory = codes "V14 Memory"
check_text Check.Notes = codes "V15 Notes"

-- `ok`, or `refused: V7 RecordBounds at 3`
abbrev pub verdict_text : Option VerifyFault → List ℕ
verdict_text (Some fault) = codes "refused: "
    ++ (check_text fault.kind ++ (codes " at " ++ (decimal fault.pc ++ 10 ∷ [])))
verdict_text None = codes "ok" ++ 10 ∷ []

-- what follows on the first instructions
abbrev pub ending_text : Claims → ℕ → Option VerifyFault → List ℕ
ending_text claims count fault = unreached_text (unreached_count claims count) count ++ verdict_text fault
