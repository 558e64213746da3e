use Rattle.std.proofs.Common.{ℕ, ◌<◌}
use Rattle.lattice.proofs.Below.{HasBits}
use Rattle.lattice.proofs.sets.are_words_within.Given as goal

abbrev pub invariant-loop-word : goal.invariant-loop-word
invariant-loop-word l = (w : ℕ) → w < l.word → HasBits l.inner l.outer w
