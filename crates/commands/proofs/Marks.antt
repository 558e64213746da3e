-- A deployment's receipt is that of a mark.
use Rattle.std.proofs.Common.{◌≡◌, List, ℕ, ◌<◌, Option, Some, Result, Ok, Err, IfErr, IsErrAnd, subst, ◌∙◌, inl, inr}
use Rattle.part_log.specs.Parts.{Received}
use Rattle.catalogue.specs.{Finders.Seen, Versions.Version}
use Rattle.broker.specs.{Deployments.IsNoReader, Deployments.DeployIs, declared.fault.BrokerFault.BrokerFault}
use Rattle.commands.specs.{declared.stop.Stop.Stop, Stops.stop_of_broker, Stops.EndsFor}
use Rattle.commands.specs.Sessions.{IsMark, IsMarkFault}

-- A broker with `number` input partitions deploys a version by its own name; a session has as many.
pub deployed : (number input : ℕ) (given name : List ℕ) (known : Version) (old new : Seen) (marked : Received × ℕ) →
    DeployIs number input given known old (Ok marked) new → given ≡ name → IsMark input name marked.1 marked.0
deployed number input given name known old new marked is same =
    rw (← same) (is.1.program, (is.1.partition_is, is.1.item_is))

pub not_deployed : {A : Type 0} (number inputs input : ℕ) (given name : List ℕ) (version : Version)
    (known : Option Version) (old new : Seen) (fault : BrokerFault) (result : Result A Stop) →
    DeployIs number input given version old (Err fault) new → given ≡ name → version.name ≡ name → number ≡ inputs →
    known ≡ Some version → IsErrAnd result (λ reason. reason ≡ stop_of_broker fault) →
    IfErr result (EndsFor (IsMarkFault inputs input name known))
not_deployed number inputs input given name version known old new fault (Ok x) is same own numbers found stops =
    absurd stops
not_deployed number inputs input given name version known old new fault (Err reason) is same own numbers found stops = (
  fault,
  inr (inr (record {
    version = version;
    version_is = found;
    name_is = own;
    before = old;
    after = new;
    fails = subst (λ (n : List ℕ). DeployIs inputs input n version old (Err fault) new) same
        (subst (λ (n : ℕ). DeployIs n input given version old (Err fault) new) numbers is);
  })),
  stops,
)

-- the catalogue gives no finder
pub no_finder : {A : Type 0} (inputs input : ℕ) (name : List ℕ) (known : Option Version) (reason : Stop)
    (result : Result A Stop) → input < inputs → EndsFor IsNoReader reason → IsErrAnd result (λ r. r ≡ reason) →
    IfErr result (EndsFor (IsMarkFault inputs input name known))
no_finder inputs input name known reason (Ok x) there ends is = absurd is
no_finder inputs input name known reason (Err given) there (fault, none, same) is =
    (fault, inr (inl (there, none)), is ∙ same)
