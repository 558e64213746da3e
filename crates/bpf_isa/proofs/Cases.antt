-- Choices, one test after the other.
use Rattle.std.proofs.Common.{Option, Some, None, IfSome, option_map}
use Rattle.std.proofs.Common.{◌≡◌, Bool, true, false, ◌||◌, cond, ℤ, pos, zero, refl}
use Rattle.std.proofs.lemmas.Bool.{and_parts, eqb-true}
use Rattle.machine_spec.specs.Opcodes.{Fields, Uses, is_zero, has_zeros}

-- what follows from a choice follows on both ways
pub on_choice : {A : Type 0} (b : Bool) (x y z : A) (P : Type 0) → cond b x y ≡ z → (b ≡ true → x ≡ z → P) →
    (b ≡ false → y ≡ z → P) → P
on_choice true x y z P e held failed = held refl e
on_choice false x y z P e held failed = failed refl e

-- what holds of all that is made of a value holds if there is one
pub all_made : {A B : Type 0} (make : A → B) (P : B → Type 0) (o : Option A) →
    ((a : A) → o ≡ Some a → P (make a)) → IfSome (option_map make o) P
all_made make P None all = tt
all_made make P (Some a) all = all a refl

zero_is : (z : ℤ) → is_zero z ≡ true → z ≡ pos 0
zero_is (pos zero) e = refl
zero_is _ e = absurd cc

or_unused : (used zero : Bool) → (used || zero) ≡ true → used ≡ false → zero ≡ true
or_unused true b h e = absurd cc
or_unused false b h e = h

-- what the test of the unused fields says
pub record HasZeros (u : Uses) (f : Fields) : Type 0 where
  pub dst : u.dst ≡ false → f.dst ≡ 0
  pub src : u.src ≡ false → f.src ≡ 0
  pub offset : u.offset ≡ false → f.offset ≡ pos 0
  pub imm : u.imm ≡ false → f.imm ≡ pos 0

pub zeros : (u : Uses) (f : Fields) → has_zeros u f ≡ true → HasZeros u f
zeros u f h =
    let a = and_parts _ _ h in
    let b = and_parts _ _ a.0 in
    let c = and_parts _ _ b.0 in
    record {
      dst = λ e. eqb-true _ _ (or_unused _ _ c.0 e);
      src = λ e. eqb-true _ _ (or_unused _ _ c.1 e);
      offset = λ e. zero_is _ (or_unused _ _ b.1 e);
      imm = λ e. zero_is _ (or_unused _ _ a.1 e);
    }
