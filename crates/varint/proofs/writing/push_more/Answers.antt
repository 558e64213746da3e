use Rattle.std.proofs.Common.{◌<◌, length, ap, ◌∙◌, arith}
use Rattle.std.proofs.lemmas.List.{length-append}
use Rattle.wire_spec.specs.Varint.{groups}
use Rattle.varint.proofs.Steps.{push_more, push_last, has_room, rest_below, rest_last}
use Rattle.varint.proofs.writing.push_more.Goals as goal

pub push_reserved-requires : goal.push_reserved-requires
push_reserved-requires c =
    omega (
      arith,
      c.loop.out.ok.0,
      c.loop.invariant.capacity,
      has_room c.args.out.now.items c.loop.out.items c.loop.counter c.loop.rest c.args.number c.args.out.now.cap
          (omega arith) c.loop.invariant.groups_are (omega (arith, c.requires, c.args.out.now.ok.0)),
    )

pub returns-then-rest-lt128-clause-items : goal.returns-then-rest-lt128-clause-items
returns-then-rest-lt128-clause-items c = c.push_reserved.ensures.items
    ∙ push_last c.args.out.now.items c.loop.out.items c.loop.counter c.loop.rest c.args.number (omega arith)
    c.if-rest-lt128.true c.loop.invariant.groups_are

pub returns-then-rest-lt128-clause-len : goal.returns-then-rest-lt128-clause-len
returns-then-rest-lt128-clause-len c =
    omega (
      arith,
      c.args.out.now.ok.0,
      c.push_reserved.new.self.ok.0,
      ap length (returns-then-rest-lt128-clause-items c),
      length-append c.args.out.now.items (groups 10 c.args.number),
    )

pub push_reserved-requires-in-loop : goal.push_reserved-requires-in-loop
push_reserved-requires-in-loop c =
    omega (
      arith,
      c.loop.out.ok.0,
      c.loop.invariant.capacity,
      has_room c.args.out.now.items c.loop.out.items c.loop.counter c.loop.rest c.args.number c.args.out.now.cap
          (omega arith) c.loop.invariant.groups_are (omega (arith, c.requires, c.args.out.now.ok.0)),
    )

pub loop-preserved : goal.loop-preserved
loop-preserved c = grind (arith, push_more, rest_below)

pub overflow_cast-rest-2 : goal.overflow_cast-rest-2
overflow_cast-rest-2 c =
    let two : c.loop.rest < 2 =
    rest_last c.loop.counter c.loop.rest (omega arith) (omega arith) c.loop.invariant.below in
    record { fits = omega (arith, two) }

pub push_reserved-requires-2 : goal.push_reserved-requires-2
push_reserved-requires-2 c =
    omega (
      arith,
      c.loop.out.ok.0,
      c.loop.invariant.capacity,
      has_room c.args.out.now.items c.loop.out.items c.loop.counter c.loop.rest c.args.number c.args.out.now.cap
          (omega arith) c.loop.invariant.groups_are (omega (arith, c.requires, c.args.out.now.ok.0)),
    )

pub returns-clause-items : goal.returns-clause-items
returns-clause-items c =
    let two : c.loop.rest < 2 =
    rest_last c.loop.counter c.loop.rest (omega arith) (omega arith) c.loop.invariant.below in
    c.push_reserved-2.ensures.items
    ∙ push_last c.args.out.now.items c.loop.out.items c.loop.counter c.loop.rest c.args.number (omega arith)
    (omega (arith, two)) c.loop.invariant.groups_are

pub returns-clause-len : goal.returns-clause-len
returns-clause-len c =
    omega (
      arith,
      c.args.out.now.ok.0,
      c.push_reserved-2.new.self.ok.0,
      ap length (returns-clause-items c),
      length-append c.args.out.now.items (groups 10 c.args.number),
    )
