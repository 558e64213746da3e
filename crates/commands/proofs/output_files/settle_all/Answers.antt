use Rattle.std.proofs.Common.{◌≡◌, rules, sym, ◌∙◌}
use Rattle.std.proofs.lemmas.List.{map-id}
use Rattle.std.proofs.lemmas.Iterator.Adapters.{YieldsList-from_vec}
use Rattle.std.proofs.lemmas.Iterator.Consumers.{YieldsList-end}
use Rattle.commands.proofs.FileLaws.{same_more}
use Rattle.commands.proofs.output_files.settle_all.Goals as goal

pub loop-outlet-preserved : goal.loop-outlet-preserved
loop-outlet-preserved g c = (
  tt,
  tt,
  rw c.in-Ok.ensures.items (same_more c.loop-outlet.yielded c.loop-outlet.settled.items c.in-Some.outlet
      c.in_ok-outlet.outlet c.loop-outlet.invariant.2 c.in_ok-outlet.ensures.same),
)

pub returns-clause-same : goal.returns-clause-same
returns-clause-same g c =
    let gives = c.into_iter-outlet-iterator.ensures.into_iter_gives in
    let road = YieldsList-from_vec c.args.outlets.items gives.0 (search rules) in
    let all : c.loop-outlet.yielded ≡ c.args.outlets.items =
    sym (map-id c.loop-outlet.yielded)
    ∙ (YieldsList-end road c.loop-outlet.yielded c.loop-outlet.outlet-iterator c.loop-outlet.yielded_by
    c.next.result c.next.new.self c.in-None.is c.next.ensures.steps).0 in
    rw (← all) c.loop-outlet.invariant.2
