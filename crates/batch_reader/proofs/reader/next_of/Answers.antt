use Rattle.std.proofs.Common.{rules, ◌≡◌, take, Err}
use Rattle.batch_reader.specs.declared.reader.ReadFault.TheVariants.{Batch as Refused, Memory}
use Rattle.batch_reader.proofs.ReadingLaws.{fed_none, fed_more, lost, takes_batch, takes_refusal}
use Rattle.batch_reader.proofs.reader.next_of.Goals as goal

pub returns-in_err-batch-clause-takes : goal.returns-in_err-batch-clause-takes
returns-in_err-batch-clause-takes g c =
    let before = g.R.Read.remaining c.args.reader.now in
    let why = c.in_err-batch.field-0.0 in
    let is : c.from_residual.result ≡ Err (Refused why) = search rules in
    rw is (takes_refusal c.args.feed.now c.args.feed.now c.cut.new.feed before before
    (fed_none c.args.feed.now before c.requires.open) why (search rules))

pub returns-in_err-feed-clause-takes : goal.returns-in_err-feed-clause-takes
returns-in_err-feed-clause-takes g c =
    let before = g.R.Read.remaining c.args.reader.now in let after = g.R.Read.remaining c.read_some.new.reader in
    let is : c.from_residual-in_err-feed.result ≡ Err Memory = search rules in
    rw is (lost c.args.feed.now c.loop.feed c.feed.new.self before (g.R.Read.remaining c.loop.reader) after
    (take c.in_ok-count.count c.read_some.new.buffer) c.loop.invariant.0.fed (search rules))

pub returns-in_err-batch-2-clause-takes : goal.returns-in_err-batch-2-clause-takes
returns-in_err-batch-2-clause-takes g c =
    let before = g.R.Read.remaining c.args.reader.now in let after = g.R.Read.remaining c.read_some.new.reader in
    let why = c.in_err-batch-2.field-0.0 in
    let is : c.from_residual-in_err-batch-2.result ≡ Err (Refused why) = search rules in
    rw is (takes_refusal c.args.feed.now c.feed.new.self c.cut-in-loop.new.feed before after
    (fed_more c.args.feed.now c.loop.feed c.feed.new.self before (g.R.Read.remaining c.loop.reader) after
    (take c.in_ok-count.count c.read_some.new.buffer) c.loop.invariant.0.fed (search rules) (search rules)) why
    (search rules))

pub returns-in-Some-2-clause-takes : goal.returns-in-Some-2-clause-takes
returns-in-Some-2-clause-takes g c =
    let before = g.R.Read.remaining c.args.reader.now in let after = g.R.Read.remaining c.read_some.new.reader in
    takes_batch c.args.feed.now c.feed.new.self c.cut-in-loop.new.feed before after
    (fed_more c.args.feed.now c.loop.feed c.feed.new.self before (g.R.Read.remaining c.loop.reader) after
    (take c.in_ok-count.count c.read_some.new.buffer) c.loop.invariant.0.fed (search rules) (search rules))
    c.in-Some-2.batch (search rules)
