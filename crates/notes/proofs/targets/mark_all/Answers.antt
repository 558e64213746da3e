use Rattle.std.proofs.Common.{◌≡◌, ℕ, ◌<◌, ◌||◌, false, get_or, sym, subst, arith, length}
use Rattle.notes.specs.Derived.{leads_to}
use Rattle.notes.proofs.Steps.{AreMarked, first_marked, more_marked, all_marked}
use Rattle.notes.proofs.targets.mark_all.Goals as goal

pub loop-k-init : goal.loop-k-init
loop-k-init c = subst (λ marks. AreMarked c.args.code.now marks 0) (sym c.requires) (first_marked c.args.code.now)

pub loop-k-preserved : goal.loop-k-preserved
loop-k-preserved c =
    more_marked c.args.code.now c.loop-k.targets c.mark.new.targets c.loop-k.k c.get.result c.get.ensures.is_at
    c.mark.ensures.length
    (subst (λ number. (j : ℕ) → j < length c.loop-k.targets →
    get_or c.mark.new.targets j false ≡ (get_or c.loop-k.targets j false || leads_to number j)) c.target.ensures
    c.mark.ensures.each)
    c.loop-k.invariant

pub returns : goal.returns
returns c = all_marked c.args.code.now c.loop-k.targets c.loop-k.k (omega (arith, c.len-k-end.ensures.is_length))
    c.loop-k.invariant
