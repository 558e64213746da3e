use Rattle.std.proofs.Common.{◌≡◌, ℕ, ◌<◌, length, bit_and, slice_index}
use Rattle.lattice.proofs.sets.common_words.Given as goal

abbrev pub invariant-loop-word : goal.invariant-loop-word
invariant-loop-word l = (length l.common ≡ 8)
    × ((k : ℕ) → k < l.word → slice_index l.common k ≡ bit_and (slice_index l.words k) (slice_index l.others k))
