use Rattle.std.proofs.Common.{length, ap, arith, refl}
use Rattle.std.proofs.lemmas.List.{length-append}
use Rattle.transform.specs.Outlets.{Outflow}
use Rattle.transform.proofs.outlet.Outlet.put.Goals as goal

pub returns-then-len-room : goal.returns-then-len-room
returns-then-len-room g c =
    let old : Outflow = c.args.self.now in (
      omega (
        arith,
        c.if-len-room.true,
        c.len.ensures,
        c.room.ensures,
        ap (λ (o : Outflow). o.waits.place) c.self.view_is,
        ap (λ (o : Outflow). length o.waits.rows) c.self.view_is,
        length-append old.waits.rows c.args.rows.now,
      ),
      refl,
    )
