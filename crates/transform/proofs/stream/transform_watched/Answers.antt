use Rattle.std.proofs.Common.{◌≡◌, Err, Ok, true, false, sym, ◌∙◌, rules}
use Rattle.transform.specs.{Transforms.EndsFlow, Streams.is_broken}
use Rattle.transform.proofs.StreamLaws.{all_written, unwritten, stays_broken}
use Rattle.transform.proofs.stream.transform_watched.Goals as goal

pub returns-then-is_broken : goal.returns-then-is_broken
returns-then-is_broken g c =
    let all = c.push_all-pushed in
    let broken : is_broken all.result ≡ true = sym c.is_broken.ensures ∙ c.if-is_broken.true in
    stays_broken c.args.program.now c.args.reader.now c.args.stream.now all.result all.new.reader all.new.stream
    (g.V.Watch.told c.args.watch.now) (g.V.Watch.told all.new.watch) broken all.ensures

pub returns-in-Ok : goal.returns-in-Ok
returns-in-Ok g c =
    let all = c.push_all-pushed in
    let whole : is_broken all.result ≡ false = sym c.is_broken.ensures ∙ c.if-is_broken.false in
    let ends : EndsFlow all.new.stream (Ok tt) c.end.new.self = search rules in
    all_written c.args.program.now c.args.reader.now c.args.stream.now all.result all.new.reader all.new.stream
    c.end.new.self (g.V.Watch.told c.args.watch.now) (g.V.Watch.told all.new.watch) all.ensures whole ends

pub returns-in-Err : goal.returns-in-Err
returns-in-Err g c =
    let all = c.push_all-pushed in
    let whole : is_broken all.result ≡ false = sym c.is_broken.ensures ∙ c.if-is_broken.false in
    let ends : EndsFlow all.new.stream (Err c.in-Err.fault) c.end.new.self = search rules in
    unwritten c.args.program.now c.args.reader.now c.args.stream.now all.result all.new.reader all.new.stream
    c.end.new.self (g.V.Watch.told c.args.watch.now) (g.V.Watch.told all.new.watch) all.ensures
    c.in-Err.fault whole ends
