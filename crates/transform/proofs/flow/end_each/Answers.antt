use Rattle.std.proofs.Common.{◌≡◌, ◌≤◌, length, Err, Result, sym, subst, rules, arith}
use Rattle.transform.specs.{declared.flow.TransformFault.TransformFault, Transforms.Empties, Transforms.EndsEach}
use Rattle.transform.proofs.EachLaws.{first_none, first_more, first_all}
use Rattle.transform.proofs.FillLaws.{ended_one}
use Rattle.transform.proofs.flow.end_each.Goals as goal

pub loop-output-init : goal.loop-output-init
loop-output-init g c = first_none (λ q. Empties) c.args.outlets.now

pub loop-output-preserved : goal.loop-output-preserved
loop-output-preserved g c =
    first_more (λ q. Empties) c.loop-output.output c.args.outlets.now c.loop-output.outlets
    c.end_one.new.outlets Empties
    c.loop-output.invariant c.in_ok-end_one.ensures (λ x y h. h)

pub returns-in_err-end_one : goal.returns-in_err-end_one
returns-in_err-end_one g c =
    let is : c.from_residual.result ≡ Err c.in_err-end_one.field-0.0 = search rules in
    subst (λ (r : Result (Unit {0}) TransformFault). EndsEach c.args.outlets.now r c.end_one.new.outlets) (sym is)
    (ended_one c.loop-output.output c.args.outlets.now c.loop-output.outlets c.end_one.new.outlets
    c.in_err-end_one.field-0.0 c.loop-output.invariant c.in_err-end_one.ensures)

pub returns : goal.returns
returns g c =
    let all : length c.args.outlets.now ≤ c.loop-output.output = omega (
      arith,
      c.loop-output-test.false,
      c.loop-output.invariant.count,
    ) in
    first_all (λ q. Empties) c.loop-output.output c.args.outlets.now c.loop-output.outlets c.loop-output.invariant all
