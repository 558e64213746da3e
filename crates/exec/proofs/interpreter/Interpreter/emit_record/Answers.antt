use Rattle.exec.proofs.Called.{leads_emit}
use Rattle.exec.proofs.interpreter.Interpreter.emit_record.Goals as goal

pub returns : goal.returns
returns c = λ k number regions registers stack named first within called.
    leads_emit c.requires called.reached called.here named within (rw first c.in_ok-answer.ensures.answer)
    (rw first c.in_ok-answer.ensures.emitted)
