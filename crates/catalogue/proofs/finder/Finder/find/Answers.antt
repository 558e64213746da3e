use Rattle.std.proofs.Common.{subst}
use Rattle.log_spec.specs.Catalogue.{among}
use Rattle.catalogue.specs.{Finders.Seen, Versions.IsNoOlder, Versions.number_and_program}
use Rattle.catalogue.proofs.VersionLaws.{never_back-result}
use Rattle.catalogue.proofs.finder.Finder.find.Goals as goal

pub returns-clause-never_back : goal.returns-clause-never_back
returns-clause-never_back c = λ other.
    let new = c.find_newest.new.seen in
    subst (λ (seen : Seen). IsNoOlder (among seen.versions other) (among new other)) c.self.view_is
    (never_back-result c.args.known.now c.args.name.now (number_and_program c.in_ok-read.read) c.self.inside.seen new
    c.find_newest.result c.find_newest.ensures.ok c.find_newest.ensures.err other)
