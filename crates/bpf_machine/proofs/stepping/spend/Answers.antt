use Rattle.bpf_machine.specs.Views.{value_of, registers_of}
use Rattle.bpf_machine.proofs.Pieces.{registers-spent}
use Rattle.bpf_machine.proofs.stepping.spend.Goals as goal

pub returns : goal.returns
returns c =
    rw (c.put-6.ensures, c.put-5.ensures, c.put-4.ensures, c.put-3.ensures, c.put-2.ensures, c.put.ensures)
    (registers-spent (registers_of c.args.registers.now) (value_of c.args.answer))
