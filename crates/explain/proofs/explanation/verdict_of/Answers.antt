use Rattle.explain.proofs.Verdicts.{not_read}
use Rattle.explain.proofs.explanation.verdict_of.Goals as goal

pub returns-in-Isa : goal.returns-in-Isa
returns-in-Isa c = λ program is ne.
    let refused = rw c.in-Isa.is at is in not_read program c.in-Isa.fault (refused ne).fault_is
