use Rattle.std.proofs.Common.{◌≡◌, ◌+◌, drop, not}
use Rattle.std.specs.List.{position_or_len}
use Rattle.rules.specs.Scanning.{is_word_byte}
use Rattle.rules.proofs.scan.word_length.Given as goal

abbrev pub invariant-loop-place : goal.invariant-loop-place
invariant-loop-place l = position_or_len (λ byte. not (is_word_byte byte)) l.text
    ≡ l.place + position_or_len (λ byte. not (is_word_byte byte)) (drop l.place l.text)
