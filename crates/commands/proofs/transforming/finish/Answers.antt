use Rattle.std.proofs.Common.{inl, inr, ⊎_elim, ◌∙◌}
use Rattle.commands.proofs.transforming.finish.Goals as goal

pub returns-in-Ok-clause-held : goal.returns-in-Ok-clause-held
returns-in-Ok-clause-held g c = λ apart.
    ⊎_elim (λ same. ⊎_elim (λ failed. inl (same ∙ failed)) (λ written. inr (same, written)) (c.in-Ok.ensures.held apart))
    inl c.halted.ensures.status
