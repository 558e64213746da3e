use Rattle.std.proofs.Common.{◌≢◌, Option, Some, None, sym, ◌∙◌, inl, inr}
use Rattle.explain.specs.declared.explanation.Diagnosis.{Diagnosis}
use Rattle.commands.specs.{declared.status.Status.TheVariants.Failed, Explanations.status_of_refusal}
use Rattle.commands.proofs.call.explain_given.Goals as goal

not_failed : (refusal : Option Diagnosis) → status_of_refusal refusal ≢ Failed
not_failed None e = cc
not_failed (Some refusal) e = cc

pub returns-in-Ok : goal.returns-in-Ok
returns-in-Ok g c = elim c.print_explanation.ensures.status [
  | inl same ↦ inr (inl (record {
    explanation = c.in-Ok.explanation;
    explained = rw c.deref.ensures at c.in-Ok.ensures;
    status_is = same;
    printed = c.print_explanation.ensures.printed
        (λ is_failed. not_failed c.in-Ok.explanation.refusal (sym same ∙ is_failed));
  }))
  | inr is_failed ↦ inl is_failed
]
