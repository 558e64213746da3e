use Rattle.std.proofs.Common.{rules, ◌≡◌, List, sym, ap, subst, ◌∙◌, Some}
use Rattle.std.specs.Arc.{arc_value}
use Rattle.log_spec.specs.Catalogue.{Version, among}
use Rattle.catalogue.proofs.VersionLaws.{among-found}
use Rattle.catalogue.proofs.versions.Versions.get.Goals as goal

pub returns-in-Some : goal.returns-in-Some
returns-in-Some c =
    let list = c.as_slice-list.result.now in let k = c.in-Some.place in let d = c.index-list-place.result in let name =
    c.args.name.now in
    let there : among list name ≡ Some (d.number, d.program) =
    subst (λ (v : Version). among list name ≡ Some (v.number, v.program)) (sym c.index-list-place.is)
    (among-found list k d name c.in-Some.ensures.found c.in-Some.ensures.first (c.in-Some.ensures.named d)) in
    let whole : list ≡ c.args.self.now = search rules in
    let number : c.version.result ≡ d.number = c.version.ensures in
    let program : arc_value c.program.result.now ≡ d.program = c.program.ensures in
    let seen : among c.args.self.now name ≡ Some (d.number, d.program) =
    ap (λ (l : List Version). among l name) (sym whole) ∙ there in
    cc
