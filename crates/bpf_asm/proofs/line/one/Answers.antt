use Rattle.std.proofs.Common.{◌∙◌}
use Rattle.bpf_asm.proofs.Scanning.{single_no}
use Rattle.bpf_asm.proofs.line.one.Goals as goal

pub returns-in_default-Some : goal.returns-in_default-Some
returns-in_default-Some c =
    let operand = c.first.result.0.now in
    single_no operand c.in_default-Some.field-0-1.now
    ∙ rw (c.in_ok-text.was, c.first.ensures, c.in_default-Some.is-1)
