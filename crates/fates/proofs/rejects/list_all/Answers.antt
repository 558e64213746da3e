use Rattle.std.proofs.Common.{◌≡◌, ◌+◌, List, ℕ, Some, subst, arith}
use Rattle.fates.specs.{Totals.rejects_of, Rejects.IsSet, Rejects.as_listed}
use Rattle.fates.proofs.RejectLaws.{Setting, setting_next, first_count}
use Rattle.fates.proofs.rejects.list_all.Goals as goal

pub count_rejects-requires : goal.count_rejects-requires
count_rejects-requires c =
    let old = c.args.rejects.now.entries in let new = c.loop-code.rejects.entries in let code = c.in-Some.code.now in
    let before = subst (λ (es : List (ℕ × ℕ)). Setting as_listed c.args.others.now.entries es old new)
    c.in-Some.ensures.steps c.loop-code.invariant in
    let same = first_count as_listed c.args.others.now.entries old new code c.in-Some.field-0-1.now c.next.new.self
    before in
    omega (arith, same, c.requires code)

pub loop-code-preserved : goal.loop-code-preserved
loop-code-preserved c =
    let others = c.args.others.now.entries in let old = c.args.rejects.now.entries in let new =
    c.loop-code.rejects.entries in let after = c.count_rejects.new.rejects.entries in
    let code = c.in-Some.code.now in let left = c.next.new.self in
    let before = subst (λ (es : List (ℕ × ℕ)). Setting as_listed others es old new) c.in-Some.ensures.steps
    c.loop-code.invariant in
    let sum : rejects_of code new + 0 ≡ rejects_of code new = omega arith in
    setting_next as_listed others old new after code c.in-Some.field-0-1.now left before
    (subst (λ (n : ℕ). IsSet code (Some n) new after) sum c.in_ok-count_rejects.ensures.ok)
