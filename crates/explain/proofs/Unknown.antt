-- The first register that is read and of which nothing is known, part by part.
use Rattle.std.proofs.Common.{◌≡◌, ℕ, Bool, if◌then◌else◌, List, [], ◌∷◌, ◌++◌, find}
use Rattle.std.specs.{List.flat_map, Option.option_or}
use Rattle.std.proofs.lemmas.List.Folds.{find-append}
use Rattle.machine_spec.specs.declared.{helper.Argument.Argument, summary.Summary.Summary}
use Rattle.machine_spec.specs.Traps.{operand_registers, base_registers, condition_registers, argument_registers}
use Rattle.machine_spec.specs.Traps.{call_registers}
use Rattle.verifier_spec.specs.{declared.state.Abstract.Abstract, Kinds.kind_at, Kinds.is_unknown}
use Rattle.explain.specs.Reasons.{unknown_register}

-- ---- the first of the arguments

pub in_arguments : (s : Abstract) (argument : Argument) (rest : List Argument) →
    find (λ r. is_unknown (kind_at s r)) (flat_map argument_registers (argument ∷ rest))
    ≡ option_or (find (λ r. is_unknown (kind_at s r)) (argument_registers argument))
    (find (λ r. is_unknown (kind_at s r)) (flat_map argument_registers rest))
in_arguments s argument rest =
    find-append (λ r. is_unknown (kind_at s r)) (argument_registers argument) (flat_map argument_registers rest)

-- ---- all parts

five : (p : ℕ → Bool) (a b c d e : List ℕ) →
    find p (a ++ b ++ c ++ d ++ e)
    ≡ option_or (option_or (option_or (option_or (find p a) (find p b)) (find p c)) (find p d)) (find p e)
five p a b c d e =
    rw (find-append p (a ++ b ++ c ++ d) e, find-append p (a ++ b ++ c) d, find-append p (a ++ b) c, find-append p a b)

pub unknown_parts : (m : Summary) (s : Abstract) →
    unknown_register m s ≡ option_or (option_or (option_or
    (option_or (find (λ r. is_unknown (kind_at s r)) (operand_registers m.takes))
    (find (λ r. is_unknown (kind_at s r)) (base_registers m.memory)))
    (find (λ r. is_unknown (kind_at s r)) (condition_registers m.condition)))
    (find (λ r. is_unknown (kind_at s r)) (call_registers m.call)))
    (find (λ r. is_unknown (kind_at s r)) (if m.exits then 0 ∷ [] else []))
unknown_parts m s = five (λ r. is_unknown (kind_at s r)) (operand_registers m.takes) (base_registers m.memory)
    (condition_registers m.condition) (call_registers m.call) (if m.exits then 0 ∷ [] else [])
