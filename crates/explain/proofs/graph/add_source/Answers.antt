use Rattle.std.proofs.Common.{rules, ◌≡◌, Some, None, slice_get}
use Rattle.explain.specs.Graphs.{jump_from}
use Rattle.explain.proofs.Sources.{no_jump, one_jump}
use Rattle.explain.proofs.graph.add_source.Goals as goal

pub returns-in_ok-push : goal.returns-in_ok-push
returns-in_ok-push c =
    let code = c.args.code.now in
    let at : jump_from code (slice_get code c.args.k) ≡ Some c.in-Some.j = search rules in
    one_jump code c.args.k c.args.lists.now c.requires.sources c.in-Some.j c.index-lists-j.result c.push.new.self at
    c.in-Some.ensures.is_within c.in_ok-push.ensures.items

pub returns-in_default : goal.returns-in_default
returns-in_default c =
    let code = c.args.code.now in
    let at : jump_from code (slice_get code c.args.k) ≡ None = search rules in
    no_jump code c.args.k c.args.lists.now c.requires.sources at
