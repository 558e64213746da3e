use Rattle.std.proofs.Common.{◌≡◌, List, ℕ, ap, subst, arith, Option}
use Rattle.std.specs.Prelude.{unwrap_or}
use Rattle.fates.specs.{Totals.rejects_of, Rejects.as_summed}
use Rattle.fates.proofs.RejectLaws.{Setting, setting_next, first_count, first_in, first_listed}
use Rattle.fates.proofs.rejects.count_all.Goals as goal

pub count_rejects-requires : goal.count_rejects-requires
count_rejects-requires c =
    let others = c.args.others.now.entries in let old = c.args.rejects.now.entries in let new =
    c.loop-code.rejects.entries in let code = c.in-Some.code.now in let more = c.in-Some.more.now in
    let before = subst (λ (es : List (ℕ × ℕ)). Setting as_summed others es old new) c.in-Some.ensures.steps
    c.loop-code.invariant in
    let same = first_count as_summed others old new code more c.next.new.self before in
    let here : rejects_of code others ≡ more =
    ap (λ (o : Option ℕ). unwrap_or o 0) (first_in as_summed others old new code more c.next.new.self before) in
    omega (arith, same, here, c.requires.few code)

pub loop-code-preserved : goal.loop-code-preserved
loop-code-preserved c =
    let others = c.args.others.now.entries in let old = c.args.rejects.now.entries in let new =
    c.loop-code.rejects.entries in
    let before = subst (λ (es : List (ℕ × ℕ)). Setting as_summed others es old new) c.in-Some.ensures.steps
    c.loop-code.invariant in
    setting_next as_summed others old new c.count_rejects.new.rejects.entries c.in-Some.code.now c.in-Some.more.now
    c.next.new.self before c.in-Ok.ensures.ok

pub unreachable-requires : goal.unreachable-requires
unreachable-requires c =
    let others = c.args.others.now.entries in let old = c.args.rejects.now.entries in let new =
    c.loop-code.rejects.entries in
    let before = subst (λ (es : List (ℕ × ℕ)). Setting as_summed others es old new) c.in-Some.ensures.steps
    c.loop-code.invariant in
    first_listed as_summed others old new c.in-Some.code.now c.in-Some.more.now c.next.new.self before
    c.requires.listed c.in-Err.ensures.absent
