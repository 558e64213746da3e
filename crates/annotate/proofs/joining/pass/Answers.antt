use Rattle.std.proofs.Common.{◌≡◌, ℕ, ◌<◌, Some, None, refl, sym, ap, subst, ◌∙◌, arith}
use Rattle.std.specs.Option.{option_or}
use Rattle.machine_spec.specs.{Image.helpers_of, Image.target_of, Traps.first_of}
use Rattle.verifier_spec.specs.{Annotation.Claims, Annotation.fault_or, Checks.jump_of, Checks.shape_checks}
use Rattle.verifier_spec.proofs.BestAnnotation.{target_later}
use Rattle.annotate.specs.Passing.{IsPassed, fault_before}
use Rattle.annotate.proofs.Passing.{first_passed, own_known, passed_next, passed_all}
use Rattle.annotate.proofs.Faults.{fault_next, fault_whole}
use Rattle.annotate.proofs.joining.pass.Goals as goal

pub loop-k-init : goal.loop-k-init
loop-k-init c =
    let helpers = helpers_of c.args.table in
    record {
      passed = subst (λ (claims : Claims). IsPassed helpers c.args.code.now claims 0) (sym c.requires)
          (first_passed helpers c.args.code.now (omega (
            arith,
            c.len-k-end.ensures.is_length,
            c.len-k-end.ensures.is_positive,
          )));
      fault = refl;
    }

pub loop-k-preserved : goal.loop-k-preserved
loop-k-preserved c =
    let helpers = helpers_of c.args.table in
    let code = c.args.code.now in
    let placed = c.get-placed.result in
    let at = c.get-placed.ensures.is_at in
    let image = c.len-k-end.ensures.has_image in
    let later : (t : ℕ) → target_of code placed.slot (jump_of placed.instruction) ≡ Some t → c.loop-k.k < t =
    λ t e. (target_later helpers image.image code image.is_code c.loop-k.k placed
    (jump_of placed.instruction) t at e).0 in
    record {
      passed = passed_next helpers code c.loop-k.k placed at later
          c.loop-k.states c.pass_one-own.new.states c.claim_of-claim.result c.claim_of-claim.ensures
          c.loop-k.invariant.passed c.pass_one-own.ensures.length c.pass_one-own.ensures.each c.pass_one-own.ensures.proper;
      fault =
          c.or-first.ensures
          ∙ ap (λ f. option_or f c.fault_at.result) c.loop-k.invariant.fault
          ∙ ap (option_or (fault_before helpers code c.loop-k.k))
          (c.fault_at.ensures
          ∙ ap (λ o. fault_or c.loop-k.k (option_or o c.pass_one-own.result) None) c.failed_shape.ensures
          ∙ ap (λ o. fault_or c.loop-k.k (option_or (first_of (shape_checks code c.loop-k.k placed)) o) None)
          c.pass_one-own.ensures.failed)
          ∙ sym (fault_next helpers image.image code image.is_code c.loop-k.k placed c.claim_of-claim.result at
          (sym (own_known helpers code c.loop-k.k placed at later c.loop-k.states c.claim_of-claim.result
          c.claim_of-claim.ensures c.loop-k.invariant.passed)));
    }

pub returns-clause-states : goal.returns-clause-states
returns-clause-states c = passed_all (helpers_of c.args.table) c.args.code.now c.loop-k.states c.loop-k.k
    (omega (arith, c.len-k-end.ensures.is_length)) c.loop-k.invariant.passed

pub returns-clause-proper : goal.returns-clause-proper
returns-clause-proper c = λ k s under e. c.loop-k.invariant.passed.proper k s
    (omega (arith, under, c.len-k-end.ensures.is_length)) e

pub returns-clause-fault : goal.returns-clause-fault
returns-clause-fault c =
    let image = c.len-k-end.ensures.has_image in
    c.loop-k.invariant.fault
    ∙ fault_whole (helpers_of c.args.table) image.image c.args.code.now image.is_code c.loop-k.k
    (omega (arith, c.len-k-end.ensures.is_length))
    (omega (arith, c.len-k-end.ensures.is_length, c.len-k-end.ensures.is_positive))
