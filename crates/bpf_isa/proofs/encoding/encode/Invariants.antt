use Rattle.std.proofs.Common.{◌≡◌, take}
use Rattle.bpf_isa.specs.Spelling.{image_bytes}
use Rattle.bpf_isa.proofs.encoding.encode.Given as goal

abbrev pub invariant-loop-k : goal.invariant-loop-k
invariant-loop-k l = l.out.items ≡ image_bytes (take l.k l.code)
