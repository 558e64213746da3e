use Rattle.std.proofs.Common.{◌≡◌, true, length, All}
use Rattle.commands.specs.{Files.KeepsAll, FileTransforms.IsFresh}
use Rattle.commands.proofs.output_files.create_all.Given as goal

abbrev pub invariant-loop-output : goal.invariant-loop-output
invariant-loop-output g l = record {
  count : length l.outlets.items ≡ l.output;
  fresh : g.F.Files.tells ≡ true → All IsFresh l.outlets.items;
  kept : KeepsAll (g.F.Files.bytes l.initial.files) (g.F.Files.bytes l.files);
}
