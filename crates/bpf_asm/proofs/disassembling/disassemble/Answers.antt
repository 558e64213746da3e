use Rattle.std.proofs.Common.{◌≡◌, ◌++◌, rules, string_bytes}
use Rattle.bpf_asm.specs.Writing.{line_text}
use Rattle.bpf_asm.proofs.Writings.{text_more}
use Rattle.bpf_asm.proofs.disassembling.disassemble.Goals as goal

pub loop-k-preserved : goal.loop-k-preserved
loop-k-preserved c =
    let pushed : string_bytes c.push_line.new.text ≡ string_bytes c.loop-k.text ++ line_text c.instr.result =
    search rules in
    rw (pushed, c.loop-k.invariant) (text_more c.args.code.now c.loop-k.k c.instr.result c.instr.ensures.is_at)
