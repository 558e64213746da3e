-- A run ends in one way.
use Rattle.std.proofs.Common.{◌≡◌, ℕ, Some, sym, ap, ◌∙◌}
use Rattle.std.proofs.{lemmas.Option.same_Some, lemmas.Option.none-some}
use Rattle.machine_spec.specs.declared.{instruction.Trap.Trap, outcome.Outcome.Outcome}
use Rattle.machine_spec.specs.{Image.Program, Machine.Input, Machine.State, Traps.trap_at}
use Rattle.machine_spec.specs.Meaning.{Means, IsTrapped}
use Rattle.machine_spec.proofs.Meanings.{IsLast, end_last, one_last, one_meaning}
use Rattle.bpf_machine.specs.{declared.tracing.End.End, Ends.EndsIn, Ends.EndsOnlyIn}
use Rattle.bpf_machine.specs.declared.tracing.End.TheVariants as end

module _ (program : Program) (input : Input) where
  trap_last : (s : State) (reported : Trap) → trap_at program input s ≡ Some reported → IsLast program input s
  trap_last s reported e t step = none-some reported (sym step.no_trap ∙ e)

  one_trap : (reported other : Trap) (n m : ℕ) → IsTrapped program input reported n → IsTrapped program input other m →
      (other ≡ reported) × (m ≡ n)
  one_trap reported other n m a b =
      let same = one_last program input n m a.last b.last a.chain (trap_last a.last reported a.trap) b.chain
      (trap_last b.last other b.trap) in
      (same_Some other reported (sym (rw (← same.1) at b.trap) ∙ a.trap), sym same.0)

  -- a program that means an outcome is not trapped
  not_both : (outcome : Outcome) (reported : Trap) (n m : ℕ) → Means program input outcome n →
      IsTrapped program input reported m → ⊥
  not_both outcome reported n m a b =
      let same = one_last program input a.steps m a.last b.last a.chain (end_last program input a.last outcome a.end)
      b.chain (trap_last b.last reported b.trap) in
      none-some reported (sym a.end.no_trap ∙ rw same.1 b.trap)

  only : (e o : End) (n m : ℕ) → EndsIn program input e n → EndsIn program input o m → (o ≡ e) × (m ≡ n)
  only (end.Out p) (end.Out q) n m a b = let same = one_meaning program input q p m n b a in (ap end.Out same.0, same.1)
  only (end.Out p) (end.Trap t) n m a b = absurd (not_both p t n m a b)
  only (end.Trap t) (end.Out q) n m a b = absurd (not_both q t m n b a)
  only (end.Trap t) (end.Trap u) n m a b = let same = one_trap t u n m a b in (ap end.Trap same.0, same.1)

  pub ends_only : (e : End) (n : ℕ) → EndsIn program input e n → EndsOnlyIn program input e n
  ends_only e n ends = record { ends = ends; only = λ o m other. only e o n m ends other }
