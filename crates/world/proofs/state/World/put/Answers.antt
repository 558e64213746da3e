use Rattle.std.proofs.Common.{◌≡◌, ◌++◌, ◌∷◌, [], List, set, sym, ap, subst, ◌∙◌}
use Rattle.std.proofs.lemmas.List.{get_or_read}
use Rattle.log_spec.specs.{Logs.Item as LogItem, Worlds.World, Worlds.log_of}
use Rattle.log_item.specs.Items.{item_view}
use Rattle.world.specs.Views.{world_seen, IsCore}
use Rattle.world.proofs.CoreLaws.{core-appended, seen_input}
use Rattle.world.proofs.state.World.put.Goals as goal

pub invariant_of-self-2 : goal.invariant_of-self-2
invariant_of-self-2 c =
    let s = c.self.inside in
    let logs = s.logs.items in
    let w : World = world_seen s.cells s.table logs s.books.items in
    let input = c.args.input in
    let item = item_view c.args.item in
    let lt = seen_input w c.args.self.now input c.self.view_is c.requires.input in
    let mine : c.index_mut.result.now ≡ log_of w input =
    get_or_read logs input c.index_mut.result.now lt c.index_mut.ensures.value [] in
    let is : c.append.new.self ≡ log_of w input ++ item ∷ [] = c.in-Ok.ensures.ok
    ∙ ap (λ (items : List LogItem). items ++ item ∷ []) mine in
    subst (λ (items : List LogItem). IsCore (world_seen s.cells s.table (set logs input items) s.books.items) s.outputs)
    (sym is) (core-appended w s.outputs input item c.self.invariant lt)
