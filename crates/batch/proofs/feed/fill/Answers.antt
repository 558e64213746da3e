use Rattle.std.proofs.Common.{rules, ◌≡◌, length}
use Rattle.wire_spec.specs.BatchReading.{IsPart}
use Rattle.batch.proofs.FeedLaws.{part_alone}
use Rattle.batch.proofs.feed.fill.Goals as goal

pub returns-then-is_empty-clause-ready : goal.returns-then-is_empty-clause-ready
returns-then-is_empty-clause-ready c =
    let part : IsPart c.args.ready.now = search rules in
    let none : length c.args.next.now.items ≡ 0 = search rules in
    part_alone c.args.ready.now c.args.next.now.items none part
