use Rattle.std.proofs.Common.{◌≡◌, ◌∙◌, Bool, false, cond, List, drop, find, Option, Some, rules, sym, ap, bytes_eq}
use Rattle.wire_spec.specs.declared.record.Header.{Header}
use Rattle.kafka_record.proofs.Walks.{taken}
use Rattle.rules.proofs.HeaderWalks.{at_first}
use Rattle.rules.proofs.parts.first_named.Goals as goal

pub loop-preserved : goal.loop-preserved
loop-preserved c =
    let test : Header → Bool = λ h. bytes_eq h.key c.args.key.now in
    let differs : test c.in_ok-header.header ≡ false = search rules in
    let one_less : find test c.loop.rest ≡ find test (drop 1 c.loop.rest) =
    at_first test c.loop.rest c.in_ok-header.header c.in_ok-header.ensures.first
    ∙ ap (λ (b : Bool). cond b (Some c.in_ok-header.header) (find test (drop 1 c.loop.rest))) differs in
    record {
      left = taken c.args.headers.now c.loop.rest c.take_first.new.self c.loop.counter c.loop.invariant.left
          c.take_first.ensures.rest;
      found = ap (λ (hs : List Header). find test hs) c.take_first.ensures.rest ∙ sym one_less
          ∙ c.loop.invariant.found;
    }
