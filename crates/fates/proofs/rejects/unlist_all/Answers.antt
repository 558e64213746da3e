use Rattle.std.proofs.Common.{List, ℕ, subst}
use Rattle.fates.specs.Rejects.{unless_none}
use Rattle.fates.proofs.RejectLaws.{Setting, setting_next}
use Rattle.fates.proofs.rejects.unlist_all.Goals as goal

pub loop-code-preserved : goal.loop-code-preserved
loop-code-preserved c =
    let others = c.args.others.now.entries in let old = c.args.rejects.now.entries in let new =
    c.loop-code.rejects.entries in
    let before = subst (λ (es : List (ℕ × ℕ)). Setting unless_none others es old new) c.in-Some.ensures.steps
    c.loop-code.invariant in
    setting_next unless_none others old new c.unlist.new.rejects.entries c.in-Some.code.now c.in-Some.field-0-1.now
    c.next.new.self before c.unlist.ensures
