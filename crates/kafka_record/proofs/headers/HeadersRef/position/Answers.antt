use Rattle.std.proofs.Common.{◌≡◌, ◌∙◌, ◌+◌, Bool, false, cond, List, drop, Some, rules, sym, ap, bytes_eq}
use Rattle.std.specs.List.{position_from}
use Rattle.wire_spec.specs.declared.record.Header.{Header}
use Rattle.kafka_record.proofs.Walks.{taken, at_first, position_is}
use Rattle.kafka_record.proofs.headers.HeadersRef.position.Goals as goal

pub loop-place-init : goal.loop-place-init
loop-place-init c =
    let test : Header → Bool = λ one. bytes_eq one.key c.args.key.now in
    record {
      left = c.again-rest.ensures;
      found = ap (λ (hs : List Header). position_from test 0 hs) c.again-rest.ensures
          ∙ sym (position_is test c.args.self.now);
    }

pub loop-place-preserved : goal.loop-place-preserved
loop-place-preserved c =
    let test : Header → Bool = λ one. bytes_eq one.key c.args.key.now in
    let at = c.loop-place.place in
    let differs : test c.in_ok-one.one ≡ false = search rules in
    let one_less : position_from test at c.loop-place.rest ≡ position_from test (at + 1) (drop 1 c.loop-place.rest) =
    at_first test at c.loop-place.rest c.in_ok-one.one c.in_ok-one.ensures.first
    ∙ ap (λ (b : Bool). cond b (Some at) (position_from test (at + 1) (drop 1 c.loop-place.rest))) differs in
    record {
      left = taken c.args.self.now c.loop-place.rest c.take_first.new.self at c.loop-place.invariant.left
          c.take_first.ensures.rest;
      found = ap (λ (hs : List Header). position_from test (at + 1) hs) c.take_first.ensures.rest ∙ sym one_less
          ∙ c.loop-place.invariant.found;
    }
