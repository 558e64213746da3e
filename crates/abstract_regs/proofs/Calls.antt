-- The kinds of registers after a call.
use Rattle.std.proofs.Common.{◌≡◌, ℕ, ◌+◌, ◌<◌, Bool, true, false, List, [], ◌∷◌, length, get_or, drop, slice_index_or}
use Rattle.std.proofs.Common.{refl, add-one, arith}
use Rattle.std.proofs.{lemmas.Bool.or_parts, Math.Seq.drop-cons}
use Rattle.std.specs.List.{list_any, fold}
use Rattle.machine_spec.specs.declared.helper.Argument.{Argument}
use Rattle.verifier_spec.specs.declared.{state.Abs.Abs, state.Abstract.Abstract, state.StackSet.StackSet}
use Rattle.verifier_spec.specs.declared.state.Abs.TheVariants as abs
use Rattle.verifier_spec.specs.{Kinds.is_proper_kind, States.is_proper, Transfer.after_call_kinds}
use Rattle.verifier_spec.proofs.{Proper.proper_parts, Proper.proper_from, Sound.called_kinds_proper}
use Rattle.verifier_spec.proofs.Sound.{called_length}

-- of eleven registers the first six are set and the last five kept
pub after_call_eleven : (kinds : List Abs) (answer : Abs) → length kinds ≡ 11 →
    after_call_kinds kinds answer ≡ answer ∷ abs.None ∷ abs.None ∷ abs.None ∷ abs.None ∷ abs.None
    ∷ slice_index_or kinds 6 abs.None ∷ slice_index_or kinds 7 abs.None ∷ slice_index_or kinds 8 abs.None
    ∷ slice_index_or kinds 9 abs.None ∷ slice_index_or kinds 10 abs.None ∷ []
after_call_eleven (k0 ∷ k1 ∷ k2 ∷ k3 ∷ k4 ∷ k5 ∷ k6 ∷ k7 ∷ k8 ∷ k9 ∷ k10 ∷ []) answer count = refl
after_call_eleven kinds answer count = absurd (omega arith)

pub called_proper : (s : Abstract) (answer : Abs) (set : StackSet) → is_proper s ≡ true → is_proper_kind answer ≡ true →
    is_proper (record s { registers = after_call_kinds s.registers answer; set = set }) ≡ true
called_proper s answer set proper one =
    let p = proper_parts s proper in
    proper_from _ (assumption (
      called_length s.registers answer p.eleven,
      called_kinds_proper s.registers answer p.eleven p.kinds one,
      p,
    ))

-- ---- the arguments one after the other

drop_at : {A : Type 0} (xs : List A) (i : ℕ) (d : A) → i < length xs → drop i xs ≡ get_or xs i d ∷ drop (i + 1) xs
drop_at xs i d inside = rw (add-one, drop-cons xs i d inside) refl

-- where no argument from one on is wrong, that one is not, nor is any behind it
pub next_right : (p : Argument → Bool) (arguments : List Argument) (i : ℕ) (d : Argument) → i < length arguments →
    list_any p (drop i arguments) ≡ false → (p (get_or arguments i d) ≡ false)
    × (list_any p (drop (i + 1) arguments) ≡ false)
next_right p arguments i d inside h = or_parts _ _ (rw (drop_at arguments i d inside) at h)

pub next_fold : (f : StackSet → Argument → StackSet) (arguments : List Argument) (i : ℕ) (d : Argument) (set : StackSet)
    → i < length arguments → fold f set (drop i arguments)
    ≡ fold f (f set (get_or arguments i d)) (drop (i + 1) arguments)
next_fold f arguments i d set inside = rw (drop_at arguments i d inside)
