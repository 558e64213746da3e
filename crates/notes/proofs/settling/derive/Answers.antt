use Rattle.std.proofs.Common.{◌≡◌, sym, ap, ◌∙◌, subst, arith, true, IfSome, Some}
use Rattle.machine_spec.specs.Image.{helpers_of}
use Rattle.verifier_spec.specs.{States.is_proper, Annotation.claim_at}
use Rattle.notes.specs.Derived.{given_or, derived_at}
use Rattle.notes.proofs.Derived.{is_derived}
use Rattle.notes.proofs.Steps.{HasFollowed, none_done, follows_first, more_done, old_claim, followed_claim}
use Rattle.notes.proofs.Steps.{follows_more}
use Rattle.notes.proofs.settling.derive.Goals as goal

pub loop-k-init : goal.loop-k-init
loop-k-init c =
    let helpers = helpers_of c.args.table in
    record {
      done = none_done c.args.states.now (derived_at helpers c.args.code.now (claim_at c.args.states.now));
      followed = subst (λ s. HasFollowed helpers c.args.code.now c.args.states.now (Some s) 0) (sym c.entry.ensures)
          (follows_first helpers c.args.code.now c.args.states.now);
    }

pub loop-k-preserved : goal.loop-k-preserved
loop-k-preserved c =
    let helpers = helpers_of c.args.table in
    let code = c.args.code.now in
    let old = c.args.states.now in
    let states = c.loop-k.states in
    let k = c.loop-k.k in
    let new = derived_at helpers code (claim_at old) in
    let state = given_or (claim_at states k) c.loop-k.follows in
    let invariant = c.loop-k.invariant in
    record {
      done = more_done old states c.follow-follows.new.states new k state
          (omega (arith, c.requires, c.len-k-end.ensures.is_length, c.loop-k-test.true))
          c.follow-follows.ensures.states
          (followed_claim helpers code old states k c.loop-k.follows invariant.done invariant.followed) invariant.done;
      followed = follows_more helpers code old c.loop-k.follows state c.follow-follows.result k c.get.result
          c.get.ensures.is_at
          (ap (λ o. given_or o c.loop-k.follows) (old_claim old states new k invariant.done))
          c.follow-follows.ensures.fallen
          (λ s e. subst (λ o. IfSome o (λ t. is_proper t ≡ true)) e c.follow-follows.ensures.proper) invariant.followed;
    }

pub returns-clause-states : goal.returns-clause-states
returns-clause-states c =
    is_derived (helpers_of c.args.table) c.args.code.now (claim_at c.args.states.now) c.loop-k.states
    (c.loop-k.invariant.done.long ∙ c.requires)
    (λ j under. c.loop-k.invariant.done.done j (omega (arith, under, c.len-k-end.ensures.is_length)))

pub returns-clause-proper : goal.returns-clause-proper
returns-clause-proper c = λ k s under e. c.loop-k.invariant.followed.proper k s
    (omega (arith, under, c.len-k-end.ensures.is_length)) e
