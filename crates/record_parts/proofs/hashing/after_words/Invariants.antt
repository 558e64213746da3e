use Rattle.std.proofs.Common.{◌≡◌, take, fold}
use Rattle.machine_spec.specs.Hashes.{word_of}
use Rattle.machine_spec.specs.Hashes.{after_word}
use Rattle.record_parts.proofs.hashing.after_words.Given as goal

abbrev pub invariant-loop-word : goal.invariant-loop-word
invariant-loop-word l =
    l.hash ≡ fold (λ h word. after_word h (word_of word)) l.initial.hash (take l.word-index l.words)
