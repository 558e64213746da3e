use Rattle.std.proofs.Common.{length}
use Rattle.rules_compiler.proofs.text_bytes.+first_has_texts.Given as goal

abbrev pub decreases-first_has_texts : goal.decreases-first_has_texts
decreases-first_has_texts l = length l.nodes.now
