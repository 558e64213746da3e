-- What is explained of an image, from the parts that are found of it.
use Rattle.std.proofs.Common.{◌≡◌, ◌<◌, List, Option, Some, None, Ok, length, sym, ap, ◌∙◌, subst, string_bytes}
use Rattle.std.proofs.Common.{option_map, IfSome}
use Rattle.machine_spec.specs.declared.instruction.Placed.{Placed}
use Rattle.machine_spec.specs.Image.{Program, helpers_of, read_image, IsCodeOf}
use Rattle.verifier_spec.specs.{declared.fault.VerifyFault.VerifyFault, Annotation.Claims, JoinedStates.joined_states}
use Rattle.verifier_spec.proofs.BestAnnotation.{AreJoinedProper}
use Rattle.explain.specs.declared.{explanation.Explanation.Explanation, explanation.Diagnosis.Diagnosis, way.Coverage.Coverage}
use Rattle.explain.specs.Explanations.{IsVerdict, HasReason, listing, refusal_at, Explains}
use Rattle.explain.proofs.Faulted.{refusal_reasoned, reasoned_within}

module _ (program : Program) (code : List Placed) (is_code : IsCodeOf program.image code)
    (read : read_image program.image ≡ Ok code) (proper : AreJoinedProper (helpers_of program.table) code) where
  -- what is known before each instruction
  abbrev states : Claims
  states = joined_states (helpers_of program.table) code

  has_reason : (fault : Option VerifyFault) → IsVerdict program fault →
      IfSome (option_map (refusal_at program.table code states) fault) HasReason
  has_reason None verdict = tt
  has_reason (Some f) verdict = refusal_reasoned program code f is_code read proper verdict

  -- the refused instruction is one of the code's
  pub within : (fault : Option VerifyFault) → IsVerdict program fault → IfSome fault (λ f. f.pc < length code)
  within None verdict = tt
  within (Some f) verdict =
      reasoned_within code states f (refusal_reasoned program code f is_code read proper verdict)

  pub explained : (coverage : Coverage) (claims : Claims) (fault : Option VerifyFault) (explanation : Explanation)
      → claims ≡ states → IsVerdict program fault → string_bytes explanation.lines ≡ listing coverage code claims fault
      → explanation.refusal ≡ option_map (refusal_at program.table code claims) fault
      → Explains coverage program explanation
  explained coverage claims fault explanation is verdict lines refusal =
      let refused : explanation.refusal ≡ option_map (refusal_at program.table code states) fault = refusal
      ∙ ap (λ (ns : Claims). option_map (refusal_at program.table code ns) fault) is in
      record {
        code = code;
        read = read;
        fault = fault;
        verdict = verdict;
        lines = lines ∙ ap (λ (ns : Claims). listing coverage code ns fault) is;
        refusal = refused;
        reasoned = subst (λ (r : Option Diagnosis). IfSome r HasReason) (sym refused) (has_reason fault verdict);
      }
