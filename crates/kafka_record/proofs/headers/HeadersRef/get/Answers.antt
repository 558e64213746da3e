use Rattle.std.proofs.Common.{◌≡◌, ◌∙◌, ap, arith, slice_get, ℕ}
use Rattle.kafka_record.proofs.Walks.{taken, got}
use Rattle.kafka_record.proofs.headers.HeadersRef.get.Goals as goal

pub loop-preserved : goal.loop-preserved
loop-preserved c =
    taken c.args.self.now c.loop.rest c.take_first-passed.new.self c.loop.counter c.loop.invariant
    c.take_first-passed.ensures.rest

pub returns : goal.returns
returns c =
    let all : c.loop.counter ≡ c.args.position = omega (arith, c.loop-test.false, c.loop.auto.counter-end) in
    c.take_first.ensures.first ∙ got c.args.self.now c.loop.rest c.loop.counter c.loop.invariant
    ∙ ap (λ (i : ℕ). slice_get c.args.self.now i) all
