use Rattle.std.proofs.Common.{rules, ◌≡◌, ◌++◌, Err, sym, ap, subst, ◌∙◌}
use Rattle.wire_spec.specs.declared.fault.BatchFault.{BatchFault}
use Rattle.batch.specs.Streams.{Stream, Open, stream, after_fault, Gives}
use Rattle.batch.proofs.FeedLaws.{gives_none, gives_batch, gives_refusal}
use Rattle.batch.proofs.feed.Feed.next.Goals as goal

pub returns-then-not-branch-clause-gives : goal.returns-then-not-branch-clause-gives
returns-then-not-branch-clause-gives c =
    gives_none c.args.self.now _ c.fill.new.ready c.fill.new.next.items (search rules) (search rules) (search rules)

pub returns-in-Ok-clause-gives : goal.returns-in-Ok-clause-gives
returns-in-Ok-clause-gives c =
    gives_batch c.args.self.now _ c.fill.new.ready c.fill.new.next.items c.cut.new.ready c.in-Ok.batch (search rules)
    (search rules) (search rules) (search rules)

pub returns-in-Err-clause-gives : goal.returns-in-Err-clause-gives
returns-in-Err-clause-gives c =
    let bytes = c.cut.new.ready ++ c.fill.new.next.items in
    let left_is : stream c.cut.new.ready c.fill.new.next.items c.self.inside.fault ≡ Open bytes = search rules in
    let after_is : c.refuse.new.self ≡ after_fault (Open bytes) c.in-Err.fault =
    c.refuse.ensures.new ∙ ap (λ (s : Stream). after_fault s c.in-Err.fault) left_is in
    subst (λ (fault : BatchFault). Gives c.args.self.now (Err fault) c.refuse.new.self) (sym c.refuse.ensures.fault)
    (gives_refusal c.args.self.now c.refuse.new.self c.fill.new.ready c.fill.new.next.items c.cut.new.ready
    c.in-Err.fault (search rules) after_is (search rules) (search rules))
