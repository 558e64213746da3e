use Rattle.std.proofs.Common.{◌≡◌, ℕ, List, Option, Some, None, sym, ap, ◌∙◌, IfSome}
use Rattle.machine_spec.specs.{declared.instruction.Instruction.Instruction, Image.form_at, Image.if_read}
use Rattle.bpf_isa.specs.Spelling.{HasRegisters}
use Rattle.bpf_isa.proofs.Bytes.{form_read, slot_registers}
use Rattle.bpf_isa.proofs.lookup.form_at.Goals as goal

named : (image : List ℕ) (slot : ℕ) (o : Option Instruction) → o ≡ form_at image slot → IfSome o (λ i. HasRegisters i)
named image slot (Some i) e = slot_registers image slot i (form_read image slot i (sym e))
named image slot None e = tt

pub returns-clause-has_registers : goal.returns-clause-has_registers
returns-clause-has_registers c =
    named c.args.image.now c.args.slot c.if_read.result (c.if_read.ensures ∙ ap if_read c.read.ensures)
