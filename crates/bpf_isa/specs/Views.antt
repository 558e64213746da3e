-- The parts of a slot as the definitions of images name them.
use Rattle.bpf_isa.specs.declared.{slot.SlotFields.SlotFields, form.UsedFields.UsedFields}
use Rattle.machine_spec.specs.Opcodes.{Fields, Uses}

-- the fields of a slot
abbrev pub view : SlotFields → Fields
view f = record { opcode = f.opcode; dst = f.dst; src = f.src; offset = f.offset; imm = f.imm; upper = f.upper }

-- which fields a form uses
abbrev pub view_uses : UsedFields → Uses
view_uses u = record { dst = u.dst; src = u.src; offset = u.offset; imm = u.imm }
