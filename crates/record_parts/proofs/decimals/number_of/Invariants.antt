use Rattle.record_parts.proofs.Digits.{IsNumberOf}
use Rattle.record_parts.proofs.decimals.number_of.Given as goal

abbrev pub invariant-loop-byte : goal.invariant-loop-byte
invariant-loop-byte l = IsNumberOf l.bytes l.byte-index l.number
