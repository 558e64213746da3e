use Rattle.std.proofs.Common.{◌≡◌, ◌+◌, drop}
use Rattle.std.specs.List.{position_or_len}
use Rattle.rules.specs.Reading.{is_line_feed}
use Rattle.rules.proofs.reading.lines.line_length.Given as goal

abbrev pub invariant-loop-place : goal.invariant-loop-place
invariant-loop-place l = position_or_len is_line_feed l.text
    ≡ l.place + position_or_len is_line_feed (drop l.place l.text)
