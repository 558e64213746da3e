-- Registers and stacks in lists, as functions.
use Rattle.std.proofs.Common.{◌≡◌, ℕ, zero, suc, ◌<◌, List, [], ◌∷◌, length, slice_set, Some, refl, arith, slice_get}
use Rattle.std.proofs.{Math.Path.fun_ext, lemmas.Bool.Decides.nat_tests}
use Rattle.machine_spec.specs.Values.{Value, Nothing, Registers}
use Rattle.machine_spec.specs.Machine.{with_register, after_call}

pub get-set_same : {X : Type 0} (xs : List X) (i : ℕ) (x : X) → i < length xs → slice_get (slice_set xs i x) i ≡ Some x
get-set_same [] i x h = absurd (omega arith)
get-set_same (y ∷ ys) zero x h = refl
get-set_same (y ∷ ys) (suc i) x h = get-set_same ys i x (omega arith)

-- r0 and r1 to r5 put one after the other
spent_at : (registers : Registers) (answer : Value) (r : ℕ) →
    with_register (with_register (with_register (with_register
    (with_register (with_register registers 0 answer) 1 Nothing) 2 Nothing) 3 Nothing) 4 Nothing) 5 Nothing r
    ≡ after_call registers answer r
spent_at registers answer r = grind (arith, nat_tests)

pub registers-spent : (registers : Registers) (answer : Value) →
    with_register (with_register (with_register (with_register
    (with_register (with_register registers 0 answer) 1 Nothing) 2 Nothing) 3 Nothing) 4 Nothing) 5 Nothing
    ≡ after_call registers answer
registers-spent registers answer = fun_ext λ r. spent_at registers answer r
