use Rattle.rules.specs.Scanning.{quoted}
use Rattle.rules.proofs.Quotes.{IsQuoted}
use Rattle.rules.proofs.quoted.quoted.Given as goal

abbrev pub invariant-loop : goal.invariant-loop
invariant-loop l = IsQuoted l.bytes.items l.room l.counter l.left l.rest (quoted l.room l.left l.text)
