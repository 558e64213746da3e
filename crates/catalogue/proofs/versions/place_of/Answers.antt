use Rattle.std.proofs.Common.{rules, ◌≡◌, ◌<◌, false, get_or, add-one, subst, length, arith}
use Rattle.std.specs.Str.{bytes_eq}
use Rattle.log_spec.specs.Catalogue.{Version}
use Rattle.catalogue.proofs.VersionLaws.{among-next}
use Rattle.catalogue.proofs.versions.place_of.Goals as goal

pub loop-i-preserved : goal.loop-i-preserved
loop-i-preserved c =
    let seen = c.args.list.now in let i = c.loop-i.i in let d = c.index-list-i.result in let name = c.args.name.now in
    let below : i < length seen = omega arith in
    let here : bytes_eq d.name name ≡ false = search rules in
    let other : bytes_eq (get_or seen i d).name name ≡ false =
    subst (λ (v : Version). bytes_eq v.name name ≡ false) c.index-list-i.is here in
    rw add-one (among-next seen i d name below c.loop-i.invariant other)
