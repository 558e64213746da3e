use Rattle.std.proofs.Common.{◌≡◌, ◌++◌, take}
use Rattle.program_file.specs.Spelling.{lines_of}
use Rattle.program_file.proofs.writing.put_lines.Given as goal

abbrev pub invariant-loop-place : goal.invariant-loop-place
invariant-loop-place l = l.bytes.items ≡ l.initial.bytes.items ++ lines_of (take l.place-index l.places)
