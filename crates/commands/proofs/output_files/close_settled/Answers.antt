use Rattle.std.proofs.Common.{◌≡◌, take, length, rules, arith, sym, ◌∙◌}
use Rattle.std.proofs.lemmas.List.{length_push, map-id}
use Rattle.std.proofs.lemmas.Iterator.Adapters.{YieldsList-from_vec}
use Rattle.std.proofs.lemmas.Iterator.Consumers.{YieldsList-so_far, YieldsList-end}
use Rattle.commands.proofs.FileLaws.{held_more, kept_more, kept_others, kept_then_all, each_written, each_failed}
use Rattle.commands.proofs.output_files.close_settled.Goals as goal

pub loop-outlet-preserved : goal.loop-outlet-preserved
loop-outlet-preserved g c = (
  tt,
  tt,
  omega (arith, length_push c.loop-outlet.yielded c.in-Some.outlet, c.loop-outlet.invariant.2),
  search rules,
  λ apart. held_more _ _ _ c.loop-outlet.output c.loop-outlet.yielded c.in-Some.outlet apart c.loop-outlet.invariant.2
      (c.loop-outlet.invariant.4 apart) c.in_ok-close_one.ensures.held c.in_ok-close_one.ensures.kept,
  kept_more _ c.loop-outlet.output c.in_ok-close_one.ensures.kept c.loop-outlet.invariant.5,
)

pub returns-in_err-close_one-clause-kept : goal.returns-in_err-close_one-clause-kept
returns-in_err-close_one-clause-kept g c =
    kept_then_all _ c.loop-outlet.output c.loop-outlet.invariant.5 c.in_err-close_one.ensures.failed

pub returns-clause-kept : goal.returns-clause-kept
returns-clause-kept g c = kept_others _ c.loop-outlet.output c.loop-outlet.invariant.5

pub returns-clause-each : goal.returns-clause-each
returns-clause-each g c = λ apart.
    let gives = c.into_iter-outlet-iterator.ensures.into_iter_gives in
    let road = YieldsList-from_vec c.args.outlets.items gives.0 (search rules) in
    let all : c.loop-outlet.yielded ≡ c.args.outlets.items =
    sym (map-id c.loop-outlet.yielded)
    ∙ (YieldsList-end road c.loop-outlet.yielded c.loop-outlet.outlet-iterator c.loop-outlet.yielded_by
    c.next.result c.next.new.self c.in-None.is c.next.ensures.steps).0 in
    rw (← all) (each_written _ c.loop-outlet.yielded (g.F.Files.bytes c.args.files.now)
    (g.F.Files.bytes c.loop-outlet.files) (c.loop-outlet.invariant.4 apart))

pub returns-in_err-close_one-clause-each : goal.returns-in_err-close_one-clause-each
returns-in_err-close_one-clause-each g c = λ apart.
    let gives = c.into_iter-outlet-iterator.ensures.into_iter_gives in
    let road = YieldsList-from_vec c.args.outlets.items gives.0 (search rules) in
    let first : c.loop-outlet.yielded ≡ take (length c.loop-outlet.yielded) c.args.outlets.items =
    sym (map-id c.loop-outlet.yielded)
    ∙ YieldsList-so_far road c.loop-outlet.yielded c.loop-outlet.outlet-iterator c.loop-outlet.yielded_by in
    each_failed _ _ _ (g.F.Files.bytes c.close_one.new.files) c.loop-outlet.output c.loop-outlet.yielded
    c.args.outlets.items first apart
    c.loop-outlet.invariant.2 (c.loop-outlet.invariant.4 apart) c.loop-outlet.invariant.5
    c.in_err-close_one.ensures.failed
