use Rattle.std.proofs.Common.{◌≡◌, ℕ, ◌<◌, Bool, true, List, length, get_or, drop, ℤ, Some, find, FitsSigned, to_z}
use Rattle.std.proofs.Common.{of_z, w32, sym, ap, subst, ◌∙◌, arith, rules}
use Rattle.std.specs.Ordering.{int_eq}
use Rattle.std.proofs.{Math.Seq.drop-cons, lemmas.Bool.cond-true, lemmas.Bool.Decides.Decides-int_eq, lemmas.Int.ints}
use Rattle.std.proofs.lemmas.Int.{to_z-of_z}
use Rattle.machine_spec.specs.{declared.helper.Signature.Signature, declared.helper.Helper.Helper, Signatures.signature_of}
use Rattle.machine_spec.specs.Signatures.{helper_among}
use Rattle.machine_spec.specs.declared.helper.Helper.TheVariants.{LoadValue}
use Rattle.machine_spec.proofs.helper.find_helper.Goals as goal

-- what a search from a place on finds there
found_there : (p : Helper → Bool) (helpers : List Helper) (i : ℕ) (d : Helper) → i < length helpers →
    find p helpers ≡ find p (drop i helpers) → p (get_or helpers i d) ≡ true →
    Some (get_or helpers i d) ≡ find p helpers
found_there p helpers i d inside same passes =
    sym (same ∙ ap (find p) (drop-cons helpers i d inside) ∙ cond-true _ _ _ passes)

-- two numbers whose words are one
same_word : (a b : ℤ) → FitsSigned w32 a → FitsSigned w32 b → of_z w32 a ≡ of_z w32 b → a ≡ b
same_word a b f g e = sym (to_z-of_z w32 a f) ∙ ap (to_z w32) e ∙ to_z-of_z w32 b g

number_fits : (helper : Helper) → FitsSigned w32 (signature_of helper).number
number_fits LoadValue = omega (arith, ints)
number_fits _ = omega (arith, ints)

pub returns-then-signature-number : goal.returns-then-signature-number
unfolding helper_among
returns-then-signature-number c =
    let fits : FitsSigned w32 c.signature.result.number =
    subst (λ (s : Signature). FitsSigned w32 s.number) (sym c.signature.ensures) (number_fits _) in
    let other : FitsSigned w32 c.args.number = search rules in
    let number = ap (λ (s : Signature). s.number) (sym c.signature.ensures)
    ∙ same_word _ _ fits other c.if-signature-number.true in
    let same = subst (λ (n : ℤ). find (λ (h : Helper). int_eq (signature_of h).number n) c.args.helpers.now
    ≡ find (λ (h : Helper). int_eq (signature_of h).number n)
    (drop c.loop-helper.helper-index c.args.helpers.now))
    (to_z-of_z w32 c.args.number other) c.loop-helper.invariant in
    found_there (λ (h : Helper). int_eq (signature_of h).number c.args.number) c.args.helpers.now
    c.loop-helper.helper-index _ c.loop-helper-test.true same ((Decides-int_eq _ _).1 number)
