use Rattle.std.proofs.Common.{◌≡◌, ◌∷◌, false, Bool, Err, Result, sym, subst, rules}
use Rattle.transform.specs.{declared.outlet.OutletFault.OutletFault, Backlogs.TakesRow, Outlets.outflow}
use Rattle.transform.specs.Outlets.{PutsFirst}
use Rattle.transform.specs.declared.outlet.OutletFault.TheVariants as fault
use Rattle.transform.proofs.OpenLaws.{put_after, stops_before, stops_after, stops_open}
use Rattle.transform.proofs.outlet.put_row.Goals as goal

pub returns-in_err-push : goal.returns-in_err-push
returns-in_err-push g c others =
    let old = c.args.backlog.now in let held = g.W.Write.contents c.args.writer.now in let row = c.args.row.now in
    let is : c.from_residual.result ≡ Err fault.Memory = search rules in
    subst (λ (r : Result (Unit {0}) OutletFault). PutsFirst (outflow held old) (row ∷ others) r
    (outflow held c.push.new.self) others) (sym is) (stops_before old (row ∷ others) held)

pub returns-in_err-put_open : goal.returns-in_err-put_open
returns-in_err-put_open g c others =
    let old = c.args.backlog.now in let same = c.push.new.self in let new = c.put_open.new.backlog in
    let before = g.W.Write.contents c.args.writer.now in let after = g.W.Write.contents c.put_open.new.writer in
    let row = c.args.row.now in let why = c.in_err-put_open.field-0.0 in
    let test : c.in_ok-push.field-0 ≡ false = search rules in
    let full : TakesRow false old row same =
    subst (λ (b : Bool). TakesRow b old row same) test c.in_ok-push.ensures.takes in
    let is : c.from_residual-in_err-put_open.result ≡ Err why = search rules in
    let stops = stops_open old same new row others before after why full c.in_err-put_open.ensures in
    subst (λ (r : Result (Unit {0}) OutletFault). PutsFirst (outflow before old) (row ∷ others) r
    (outflow after new) others) (sym is) stops

pub returns-in_err-push-2 : goal.returns-in_err-push-2
returns-in_err-push-2 g c others =
    let old = c.args.backlog.now in let same = c.push.new.self in let mid = c.put_open.new.backlog in
    let before = g.W.Write.contents c.args.writer.now in let after = g.W.Write.contents c.put_open.new.writer in
    let row = c.args.row.now in
    let test : c.in_ok-push.field-0 ≡ false = search rules in
    let full : TakesRow false old row same =
    subst (λ (b : Bool). TakesRow b old row same) test c.in_ok-push.ensures.takes in
    let is : c.from_residual-in_err-push-2.result ≡ Err fault.Memory = search rules in
    let stops = stops_after old same mid row others before after full c.in_ok-put_open.ensures in
    subst (λ (r : Result (Unit {0}) OutletFault). PutsFirst (outflow before old) (row ∷ others) r
    (outflow after c.push-2.new.self) others) (sym is) stops

pub returns : goal.returns
returns g c others =
    let old = c.args.backlog.now in let same = c.push.new.self in let mid = c.put_open.new.backlog in
    let before = g.W.Write.contents c.args.writer.now in let after = g.W.Write.contents c.put_open.new.writer in
    let row = c.args.row.now in
    let test : c.in_ok-push.field-0 ≡ false = search rules in
    let full : TakesRow false old row same =
    subst (λ (b : Bool). TakesRow b old row same) test c.in_ok-push.ensures.takes in
    put_after old same mid c.push-2.new.self row others before after full c.in_ok-put_open.ensures
    c.in_ok-push-2.field-0 c.in_ok-push-2.ensures.takes
