use Rattle.std.proofs.Common.{◌+◌, arith}
use Rattle.std.proofs.lemmas.List.{take_rest}
use Rattle.bpf_asm.proofs.Scanning.{first_operand, last_operand}
use Rattle.bpf_asm.proofs.line.first.Goals as goal

pub returns-then-end-text : goal.returns-then-end-text
returns-then-end-text c =
    first_operand c.args.text.now c.after_spaces.result.now _ c.place_of-end.result (omega arith)
    c.place_of-end.ensures.is c.after_spaces.ensures
    (take_rest c.args.text.now (c.place_of-end.result + 1))

pub returns-else-end-text : goal.returns-else-end-text
returns-else-end-text c =
    rw c.after_spaces-else-end-text.ensures
    (last_operand c.args.text.now c.place_of-end.result (omega arith) c.place_of-end.ensures.is)
