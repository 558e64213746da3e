use Rattle.std.proofs.Common.{◌≡◌, take, string_bytes}
use Rattle.bpf_asm.specs.Writing.{text_of}
use Rattle.bpf_asm.proofs.disassembling.disassemble.Given as goal

abbrev pub invariant-loop-k : goal.invariant-loop-k
invariant-loop-k l = string_bytes l.text ≡ text_of (take l.k l.code)
