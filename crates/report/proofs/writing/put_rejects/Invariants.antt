use Rattle.std.proofs.Common.{map}
use Rattle.std.specs.{Map.Iter.deref_pair, Io.KnownBytes.Appends}
use Rattle.report.specs.Texts.{rejects_text}
use Rattle.report.proofs.writing.put_rejects.Given as goal

abbrev pub invariant-loop-code : goal.invariant-loop-code
invariant-loop-code g l = Appends (g.W.Write.contents l.initial.out) (g.W.Write.contents l.out)
    (rejects_text l.input (map deref_pair l.yielded))
