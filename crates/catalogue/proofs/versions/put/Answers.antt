use Rattle.std.proofs.Common.{rules, ◌≡◌, ◌<◌, length, take, get_or, true, ◌++◌, ◌∷◌, [], ◌∙◌, None}
use Rattle.std.specs.Str.{bytes_eq}
use Rattle.log_spec.specs.Catalogue.{among}
use Rattle.catalogue.proofs.VersionLaws.{with_version-set, with_version-push}
use Rattle.catalogue.proofs.versions.put.Goals as goal

pub returns-in-Some-clause-ok : goal.returns-in-Some-clause-ok
returns-in-Some-clause-ok c =
    let list = c.args.list.now.items in let k = c.in-Some.place in let known = c.args.known in
    let inside : k < length list = search rules in
    let first : among (take k list) known.name ≡ None = search rules in
    let named : bytes_eq (get_or list k known).name known.name ≡ true = search rules in
    with_version-set list k known known inside first named

pub returns-in_ok-push-in-None-clause-ok : goal.returns-in_ok-push-in-None-clause-ok
returns-in_ok-push-in-None-clause-ok c =
    let list = c.args.list.now.items in let known = c.args.known in
    let absent : among list known.name ≡ None = search rules in
    let pushed : c.push.new.self.items ≡ list ++ known ∷ [] = search rules in
    pushed ∙ with_version-push list known absent
