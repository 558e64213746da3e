use Rattle.std.proofs.Common.{◌≡◌, ◌-◌, length, rules, refl, ◌∙◌, arith}
use Rattle.std.proofs.lemmas.Result.{err_from_is_err_and}
use Rattle.std.specs.Prelude.{codes}
use Rattle.rules.specs.declared.condition.Node.TheVariants as node
use Rattle.rules.specs.declared.level.Level.TheVariants as level
use Rattle.rules.specs.Formulas.{Both, Either}
use Rattle.rules.specs.Reading.{condition_at}
use Rattle.rules.proofs.ConditionSteps.{is_deep, any_fails, any_goes_on, all_fails, all_goes_on, one_negates, one_encloses}
use Rattle.rules.proofs.ConditionSteps.{one_tests}
use Rattle.rules.proofs.Nodes.{negates, joins, joins_none, encloses}
use Rattle.rules.proofs.reading.conditions.+conditions.Goals as goal

pub any_at-returns-then-steps-eq0 : goal.any_at-returns-then-steps-eq0
any_at-returns-then-steps-eq0 t c =
    λ other. is_deep c.args.steps level.Any c.args.text.now c.skipped.result.now c.if-steps-eq0.true c.skipped.ensures

pub any_at-returns-in_err-end : goal.any_at-returns-in_err-end
any_at-returns-in_err-end t c =
    let p = err_from_is_err_and c.from_residual.result c.from_residual.ensures.1 in
    rw (p.1, p.2) (λ other. any_fails c.args.steps c.args.text.now c.in_err-end.field-0.0 (omega arith)
    (c.in_err-end.ensures other))

pub any_at-returns-in_default : goal.any_at-returns-in_default
any_at-returns-in_default t c =
    let first = c.in_ok-end.ensures in (
      first.0,
      any_goes_on c.args.steps c.args.text.now c.in_ok-end.end.now first.0 (omega arith) first.1
          ∙ joins_none Either (codes "or") _ first.0 _ c.in_default.ensures,
      first.2,
    )

pub any_at-returns : goal.any_at-returns
any_at-returns t c =
    let first = c.in_ok-end.ensures in
    let place : c.len-place.result ≡ length c.args.nodes.now.items = search rules in
    rw (any_goes_on c.args.steps c.args.text.now c.in_ok-end.end.now first.0 (omega arith) first.1)
    (joins node.Or Either (codes "or") (condition_at (c.args.steps - 1) level.Any) _ _ _ _ _ first.0 _ _ _ _
    place (λ one other more. refl) c.in-Some.ensures first.2 c.in_ok-insert.ensures.items c.any_at.ensures)

pub all_at-returns-then-steps-eq0 : goal.all_at-returns-then-steps-eq0
all_at-returns-then-steps-eq0 t c =
    λ other. is_deep c.args.steps level.All c.args.text.now c.skipped.result.now c.if-steps-eq0.true c.skipped.ensures

pub all_at-returns-in_err-end : goal.all_at-returns-in_err-end
all_at-returns-in_err-end t c =
    let p = err_from_is_err_and c.from_residual.result c.from_residual.ensures.1 in
    rw (p.1, p.2) (λ other. all_fails c.args.steps c.args.text.now c.in_err-end.field-0.0 (omega arith)
    (c.in_err-end.ensures other))

pub all_at-returns-in_default : goal.all_at-returns-in_default
all_at-returns-in_default t c =
    let first = c.in_ok-end.ensures in (
      first.0,
      all_goes_on c.args.steps c.args.text.now c.in_ok-end.end.now first.0 (omega arith) first.1
          ∙ joins_none Both (codes "and") _ first.0 _ c.in_default.ensures,
      first.2,
    )

pub all_at-returns : goal.all_at-returns
all_at-returns t c =
    let first = c.in_ok-end.ensures in
    let place : c.len-place.result ≡ length c.args.nodes.now.items = search rules in
    rw (all_goes_on c.args.steps c.args.text.now c.in_ok-end.end.now first.0 (omega arith) first.1)
    (joins node.And Both (codes "and") (condition_at (c.args.steps - 1) level.All) _ _ _ _ _ first.0 _ _ _ _
    place (λ one other more. refl) c.in-Some.ensures first.2 c.in_ok-insert.ensures.items c.all_at.ensures)

pub one_at-returns-then-steps-eq0 : goal.one_at-returns-then-steps-eq0
one_at-returns-then-steps-eq0 t c =
    λ other. is_deep c.args.steps level.One c.args.text.now c.skipped.result.now c.if-steps-eq0.true c.skipped.ensures

pub one_at-returns-in-Some : goal.one_at-returns-in-Some
one_at-returns-in-Some t c =
    rw (one_negates c.args.steps c.args.text.now c.in-Some.rest.now (omega arith) c.in-Some.ensures)
    (negates _ _ _ _ _ (condition_at (c.args.steps - 1) level.One) _ c.in_ok-push.ensures.items c.one_at.ensures)

pub one_at-returns-in_err-end : goal.one_at-returns-in_err-end
one_at-returns-in_err-end t c =
    let p = err_from_is_err_and c.from_residual-in_err-end.result c.from_residual-in_err-end.ensures.1 in
    rw (p.1, p.2) (λ other. rw (
      one_encloses c.args.steps c.args.text.now c.in-Some-after_sign.rest.now (omega arith)
          c.in_default.ensures c.in-Some-after_sign.ensures,
      c.in_err-end.ensures other,
    ) refl)

pub one_at-returns-in-Some-after_sign : goal.one_at-returns-in-Some-after_sign
one_at-returns-in-Some-after_sign t c =
    let inner = c.in_ok-end.ensures in
    rw (one_encloses c.args.steps c.args.text.now c.in-Some-after_sign.rest.now (omega arith) c.in_default.ensures
    c.in-Some-after_sign.ensures)
    (encloses _ _ _ _ (condition_at (c.args.steps - 1) level.Any) inner.0 _ _ inner.1 inner.2 c.sign_expected.ensures)

pub one_at-returns : goal.one_at-returns
one_at-returns t c =
    rw (one_tests c.args.steps c.args.text.now (omega arith) c.in_default.ensures c.in_default-after_sign.ensures)
    c.single_at.ensures
