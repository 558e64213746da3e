use Rattle.std.proofs.Common.{◌∙◌, sym, ap, ◌==◌}
use Rattle.std.specs.List.{slice_get}
use Rattle.std.proofs.lemmas.List.Folds.{find_at}
use Rattle.machine_spec.specs.declared.{instruction.Instruction.Instruction, opcode.TheConstants.TEMPLATES}
use Rattle.machine_spec.specs.Opcodes.{opcode_of}
use Rattle.bpf_isa.proofs.opcode.first_with.Goals as goal

pub returns : goal.returns
returns c =
    c.at_place.ensures ∙ ap (slice_get TEMPLATES) c.place.ensures
    ∙ sym (find_at (λ (t : Instruction). opcode_of t == c.args.opcode) TEMPLATES)
