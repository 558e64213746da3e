use Rattle.std.proofs.Common.{◌≡◌, ◌*◌, drop}
use Rattle.script.specs.Words.{hex_bytes}
use Rattle.script.proofs.Reading.{prepended}
use Rattle.script.proofs.pairs.decoded.Given as goal

abbrev pub invariant-loop-place : goal.invariant-loop-place
invariant-loop-place l = hex_bytes l.text ≡ prepended l.bytes.items (hex_bytes (drop (2 * l.place) l.text))
