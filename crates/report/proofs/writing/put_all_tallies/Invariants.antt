use Rattle.std.proofs.Common.{take}
use Rattle.std.specs.{List.flat_map, Io.KnownBytes.Appends}
use Rattle.report.specs.Texts.{tally_text}
use Rattle.report.proofs.writing.put_all_tallies.Given as goal

abbrev pub invariant-loop-tally : goal.invariant-loop-tally
invariant-loop-tally g l = Appends (g.W.Write.contents l.initial.out) (g.W.Write.contents l.out)
    (flat_map tally_text (take l.tally-index l.tallies))
