-- The registers that an instruction reads, part by part.
use Rattle.std.proofs.Common.{◌≡◌, ℕ, Bool, true, false, ◌||◌, ◌&&◌, if◌then◌else◌, List, [], ◌∷◌, refl}
use Rattle.std.specs.List.{list_any, flat_map}
use Rattle.std.proofs.{Math.Bool.or-false, lemmas.List.Folds.list_any-append}
use Rattle.machine_spec.specs.declared.summary.Summary.{Summary}
use Rattle.machine_spec.specs.Traps.{operand_registers, base_registers, condition_registers, call_registers}
use Rattle.machine_spec.specs.Traps.{read_registers}

last_part : (p : ℕ → Bool) (exits : Bool) → list_any p (if exits then 0 ∷ [] else []) ≡ (exits && p 0)
last_part p false = refl
last_part p true = or-false (p 0)

pub read_parts : (p : ℕ → Bool) (m : Summary) →
    list_any p (read_registers m) ≡ ((((list_any p (operand_registers m.takes) || list_any p
    (base_registers m.memory)) || list_any p (condition_registers m.condition)) || list_any p
    (call_registers m.call)) || (m.exits && p 0))
read_parts p m =
    simp (list_any-append, last_part)

-- a test of the registers of all arguments is one of each argument's
pub any_of_each : {A : Type 0} (p : ℕ → Bool) (f : A → List ℕ) (xs : List A) →
    list_any p (flat_map f xs) ≡ list_any (λ x. list_any p (f x)) xs
any_of_each p f [] = refl
any_of_each p f (x ∷ xs) = simp (list_any-append, any_of_each p f xs)
