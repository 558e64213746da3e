use Rattle.std.proofs.Common.{rules, ◌≡◌, ◌+◌, ◌-◌, arith, ap, sym, ◌∙◌, None}
use Rattle.batch_text.specs.Causes.{after_records}
use Rattle.batch_text.proofs.CauseLaws.{after_none, after_one, after_all}
use Rattle.batch_text.proofs.sizes.after_records.Goals as goal

pub returns-in_err-rest : goal.returns-in_err-rest
returns-in_err-rest c =
    let l = c.loop in let is : c.from_residual.result ≡ None = search rules in
    rw is (sym (l.invariant ∙ after_none (c.args.number - l.counter) l.rest.now (omega (arith, c.loop-test.true))
    (search rules)))

pub loop-preserved : goal.loop-preserved
loop-preserved c =
    let l = c.loop in let rest = c.in_ok-rest.rest.now in
    let next : c.args.number - l.counter - 1 ≡ c.args.number - (l.counter + 1) = omega arith in
    l.invariant ∙ after_one (c.args.number - l.counter) l.rest.now rest (omega (arith, c.loop-test.true)) (search rules)
    ∙ ap (λ n. after_records n rest) next

pub returns : goal.returns
returns c =
    let l = c.loop in
    sym (l.invariant ∙ after_all (c.args.number - l.counter) l.rest.now (omega (arith, c.loop-test.false)))
