use Rattle.std.proofs.Common.{subst}
use Rattle.transform.specs.Outlets.{Outflow, PutsAll}
use Rattle.transform.proofs.OpenLaws.{puts_all}
use Rattle.transform.proofs.outlet.Outlet.end.Goals as goal

pub returns : goal.returns
returns g c =
    let inside = c.self.inside in let new = c.put_open.new.backlog in
    let after = g.W.Write.contents c.put_open.new.writer in
    subst (λ (o : Outflow). PutsAll o.waits o.written c.put_open.result new after) c.self.view_is
    (puts_all inside.backlog new (g.W.Write.contents inside.writer) after c.put_open.result c.put_open.ensures)
