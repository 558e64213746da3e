use Rattle.std.proofs.Common.{◌≡◌, drop}
use Rattle.rules.specs.Meaning as definitions
use Rattle.rules.proofs.parts.first_named.Given as goal

abbrev pub invariant-loop : goal.invariant-loop
invariant-loop l = record {
  left : l.rest ≡ drop l.counter l.headers;
  found : definitions.header_named l.key l.rest ≡ definitions.header_named l.key l.headers;
}
