use Rattle.bpf_asm.proofs.Scanning.{some_operands}
use Rattle.bpf_asm.proofs.reading.with_operands.Goals as goal

pub returns-in-Some : goal.returns-in-Some
returns-in-Some c =
    rw (c.in-Exit.is, c.in-Some.is, some_operands c.in-Some.field-0.now)
