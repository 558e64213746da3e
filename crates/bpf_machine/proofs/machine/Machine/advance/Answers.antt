use Rattle.bpf_machine.proofs.Going.{writable, rightly}
use Rattle.bpf_machine.proofs.machine.Machine.advance.Goals as goal

pub step-requires-clause-writable : goal.step-requires-clause-writable
step-requires-clause-writable c =
    writable _ _ _ c.in-Ok.instruction c.in-Ok.ensures

pub step-requires-clause-right : goal.step-requires-clause-right
step-requires-clause-right c =
    rightly _ _ _ c.in-Ok.instruction c.in-Ok.ensures
