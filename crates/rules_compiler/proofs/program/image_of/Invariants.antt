use Rattle.std.proofs.Common.{◌≡◌, take}
use Rattle.std.specs.List.{flat_map}
use Rattle.bpf_isa.specs.Spelling.{spelling}
use Rattle.rules_compiler.proofs.program.image_of.Given as goal

abbrev pub invariant-loop-instruction : goal.invariant-loop-instruction
invariant-loop-instruction l = l.image.items ≡ flat_map spelling (take l.instruction-index l.code)
