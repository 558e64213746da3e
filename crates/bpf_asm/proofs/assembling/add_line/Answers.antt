use Rattle.std.proofs.Common.{◌≡◌, Ok, Some}
use Rattle.bpf_asm.specs.Reading.{read_line}
use Rattle.bpf_asm.proofs.SaidLines.{line_registers}
use Rattle.bpf_asm.proofs.assembling.add_line.Goals as goal

pub add-requires : goal.add-requires
add-requires c =
    let said : read_line c.args.line.now ≡ Ok (Some c.in-Ok-Some.instruction) = cc in
    line_registers c.args.line.now c.in-Ok-Some.instruction said
