-- Conditions are read again as they were printed.
use Rattle.std.proofs.Common.{◌≡◌, ℕ, zero, suc, ◌≤◌, true, List, [], ◌∷◌, ◌++◌, Some}
use Rattle.std.proofs.Common.{None, Ok, refl, sym, ap, ◌∙◌, arith}
use Rattle.std.specs.Prelude.{codes}
use Rattle.rules.specs.declared.{level.Level.Level, rule.Test.Test}
use Rattle.rules.specs.declared.level.Level.TheVariants as level
use Rattle.rules.specs.Formulas.{Formula, Single, Negated, Both, Either}
use Rattle.rules.specs.Limits.{IsText, FitsTest, steps, FitsSteps}
use Rattle.rules.specs.Scanning.{word_at, behind_word, after_word, after_sign}
use Rattle.rules.specs.Reading.{condition_at}
use Rattle.rules.specs.Writing.{test_text, condition_text}
use Rattle.rules.proofs.Appends.{assoc4}
use Rattle.rules.proofs.WordsAgain.{is_apart, word_space}
use Rattle.rules.proofs.TestsAgain.{test_again, test_space, test_begins, closed}

-- what follows a condition ends it
abbrev pub Ends : Level → List ℕ → Type 0
Ends level.Any rest = (is_apart rest ≡ true)
    × ((after_word (codes "and") rest ≡ None) × (after_word (codes "or") rest ≡ None))
Ends level.All rest = (is_apart rest ≡ true) × (after_word (codes "and") rest ≡ None)
Ends level.One rest = is_apart rest ≡ true

-- a condition in parentheses ends there
at_close : (rest : List ℕ) → Ends level.Any (41 ∷ rest)
unfolding after_word word_at
at_close rest = (refl, (refl, refl))

and_is : (rest : List ℕ) → after_word (codes "and") (codes " and " ++ rest) ≡ Some (32 ∷ rest)
unfolding after_word word_at behind_word
and_is rest = refl

or_is : (rest : List ℕ) → after_word (codes "or") (codes " or " ++ rest) ≡ Some (32 ∷ rest)
unfolding after_word word_at behind_word
or_is rest = refl

or_is_no_and : (rest : List ℕ) → after_word (codes "and") (codes " or " ++ rest) ≡ None
unfolding after_word word_at
or_is_no_and rest = refl

not_is : (rest : List ℕ) → after_word (codes "not") (codes "not " ++ rest) ≡ Some (32 ∷ rest)
unfolding after_word word_at behind_word
not_is rest = refl

open_is_no_not : (rest : List ℕ) → after_word (codes "not") (40 ∷ rest) ≡ None
unfolding after_word word_at
open_is_no_not rest = refl

open_is : (rest : List ℕ) → after_sign (codes "(") (40 ∷ rest) ≡ Some rest
unfolding after_sign
open_is rest = refl

sign_space : (text : List ℕ) → after_sign (codes "(") (32 ∷ text) ≡ after_sign (codes "(") text
unfolding after_sign
sign_space text = refl

-- a space before a condition changes nothing but the places of faults, which are of what follows it
pub space : (most : ℕ) (what : Level) (text : List ℕ) → condition_at most what (32 ∷ text) ≡ condition_at most what text
unfolding condition_at
space zero what text = refl
space (suc most) level.Any text = rw (space most level.All text) refl
space (suc most) level.All text = rw (space most level.One text) refl
space (suc most) level.One text = rw (word_space (codes "not") text, sign_space text, test_space text) refl

-- ---- one level down

-- a condition that is read at the level below, and ends there
any_of_all : (most : ℕ) (c : Formula) (text rest : List ℕ) → condition_at most level.All text ≡ Ok (c, rest) →
    after_word (codes "or") rest ≡ None → condition_at (suc most) level.Any text ≡ Ok (c, rest)
unfolding condition_at
any_of_all most c text rest is none = rw (is, none) refl

all_of_one : (most : ℕ) (c : Formula) (text rest : List ℕ) → condition_at most level.One text ≡ Ok (c, rest) →
    after_word (codes "and") rest ≡ None → condition_at (suc most) level.All text ≡ Ok (c, rest)
unfolding condition_at
all_of_one most c text rest is none = rw (is, none) refl

-- a condition in parentheses
one_of_any : (most : ℕ) (c : Formula) (text rest : List ℕ) → condition_at most level.Any text ≡ Ok (c, 41 ∷ rest) →
    condition_at (suc most) level.One (40 ∷ text) ≡ Ok (c, rest)
unfolding condition_at
one_of_any most c text rest is = rw (open_is_no_not text, open_is text, is, closed rest) refl

either_of : (most : ℕ) (one other : Formula) (text more rest : List ℕ) →
    condition_at most level.All text ≡ Ok (one, codes " or " ++ more) →
    condition_at most level.Any more ≡ Ok (other, rest) →
    condition_at (suc most) level.Any text ≡ Ok (Either one other, rest)
unfolding condition_at
either_of most one other text more rest first second =
    rw (first, or_is more, space most level.Any more, second) refl

both_of : (most : ℕ) (one other : Formula) (text more rest : List ℕ) →
    condition_at most level.One text ≡ Ok (one, codes " and " ++ more) →
    condition_at most level.All more ≡ Ok (other, rest) →
    condition_at (suc most) level.All text ≡ Ok (Both one other, rest)
unfolding condition_at
both_of most one other text more rest first second =
    rw (first, and_is more, space most level.All more, second) refl

negated_of : (most : ℕ) (inner : Formula) (text rest : List ℕ) → condition_at most level.One text ≡ Ok (inner, rest) →
    condition_at (suc most) level.One (codes "not " ++ text) ≡ Ok (Negated inner, rest)
unfolding condition_at
negated_of most inner text rest is = rw (not_is text, space most level.One text, is) refl

-- ---- conditions

-- what a row of conditions is, without its parentheses
regrouped : (one middle other rest : List ℕ) →
    (one ++ (middle ++ (other ++ []))) ++ rest ≡ one ++ (middle ++ (other ++ rest))
regrouped one middle other rest = assoc4 one middle other [] rest

regrouped_in : (one middle other rest : List ℕ) →
    (40 ∷ (one ++ (middle ++ (other ++ 41 ∷ [])))) ++ rest
    ≡ 40 ∷ ((one ++ (middle ++ (other ++ []))) ++ 41 ∷ rest)
regrouped_in one middle other rest =
    ap (λ (t : List ℕ). 40 ∷ t) (assoc4 one middle other (41 ∷ []) rest
    ∙ sym (assoc4 one middle other [] (41 ∷ rest)))

some_steps : (what : Level) (c : Formula) → 1 ≤ steps what c
some_steps level.Any (Single t) = omega arith
some_steps level.All (Single t) = omega arith
some_steps level.One (Single t) = omega arith
some_steps level.Any (Negated inner) = omega arith
some_steps level.All (Negated inner) = omega arith
some_steps level.One (Negated inner) = omega arith
some_steps what (Both one other) = omega arith
some_steps what (Either one other) = omega arith

test_of : (most : ℕ) (t : Test) (rest : List ℕ) → FitsTest IsText t → is_apart rest ≡ true →
    condition_at (suc most) level.One (test_text t ++ rest) ≡ Ok (Single t, rest)
unfolding condition_at
test_of most t rest fits apart =
    let begins = test_begins t rest in
    rw (begins.no_not, begins.no_sign, test_again t rest fits apart) refl

pub condition_again : (most : ℕ) (what : Level) (c : Formula) (rest : List ℕ) → FitsSteps IsText what most c →
    Ends what rest → condition_at most what (condition_text what c ++ rest) ≡ Ok (c, rest)
unfolding condition_text
condition_again zero what c rest fits ends = absurd (omega (arith, fits.few, some_steps what c))
condition_again (suc most) level.Any (Single t) rest fits ends =
    let below : FitsSteps IsText level.All most (Single t) =
    record { tests = fits.tests; few = omega (arith, fits.few) } in
    any_of_all most (Single t) (test_text t ++ rest) rest
    (condition_again most level.All (Single t) rest below (ends.0, ends.1.0)) ends.1.1
condition_again (suc most) level.Any (Negated inner) rest fits ends =
    let below : FitsSteps IsText level.All most (Negated inner) =
    record { tests = fits.tests; few = omega (arith, fits.few) } in
    any_of_all most (Negated inner) _ rest
    (condition_again most level.All (Negated inner) rest below (ends.0, ends.1.0)) ends.1.1
condition_again (suc most) level.Any (Both one other) rest fits ends =
    let below : FitsSteps IsText level.All most (Both one other) =
    record { tests = fits.tests; few = omega (arith, fits.few) } in
    any_of_all most (Both one other) _ rest
    (condition_again most level.All (Both one other) rest below (ends.0, ends.1.0)) ends.1.1
condition_again (suc most) level.Any (Either one other) rest fits ends =
    let more = condition_text level.Any other ++ rest in
    let first : FitsSteps IsText level.All most one =
    record { tests = fits.tests.0; few = omega (arith, fits.few) } in
    let second : FitsSteps IsText level.Any most other =
    record { tests = fits.tests.1; few = omega (arith, fits.few) } in
    ap (condition_at (suc most) level.Any)
    (regrouped (condition_text level.All one) (codes " or ") (condition_text level.Any other) rest)
    ∙ either_of most one other (condition_text level.All one ++ (codes " or " ++ more)) more rest
    (condition_again most level.All one (codes " or " ++ more) first (refl, or_is_no_and more))
    (condition_again most level.Any other rest second ends)
condition_again (suc most) level.All (Single t) rest fits ends =
    let below : FitsSteps IsText level.One most (Single t) =
    record { tests = fits.tests; few = omega (arith, fits.few) } in
    all_of_one most (Single t) _ rest (condition_again most level.One (Single t) rest below ends.0) ends.1
condition_again (suc most) level.All (Negated inner) rest fits ends =
    let below : FitsSteps IsText level.One most (Negated inner) =
    record { tests = fits.tests; few = omega (arith, fits.few) } in
    all_of_one most (Negated inner) _ rest (condition_again most level.One (Negated inner) rest below ends.0) ends.1
condition_again (suc most) level.All (Both one other) rest fits ends =
    let more = condition_text level.All other ++ rest in
    let first : FitsSteps IsText level.One most one =
    record { tests = fits.tests.0; few = omega (arith, fits.few) } in
    let second : FitsSteps IsText level.All most other =
    record { tests = fits.tests.1; few = omega (arith, fits.few) } in
    ap (condition_at (suc most) level.All)
    (regrouped (condition_text level.One one) (codes " and ") (condition_text level.All other) rest)
    ∙ both_of most one other (condition_text level.One one ++ (codes " and " ++ more)) more rest
    (condition_again most level.One one (codes " and " ++ more) first refl)
    (condition_again most level.All other rest second ends)
condition_again (suc most) level.All (Either one other) rest fits ends =
    let below : FitsSteps IsText level.One most (Either one other) =
    record { tests = fits.tests; few = omega (arith, fits.few) } in
    all_of_one most (Either one other) _ rest (condition_again most level.One (Either one other) rest below ends.0) ends.1
condition_again (suc most) level.One (Single t) rest fits ends = test_of most t rest fits.tests ends
condition_again (suc most) level.One (Negated inner) rest fits ends =
    let below : FitsSteps IsText level.One most inner =
    record { tests = fits.tests; few = omega (arith, fits.few) } in
    negated_of most inner (condition_text level.One inner ++ rest) rest
    (condition_again most level.One inner rest below ends)
condition_again (suc most) level.One (Both one other) rest fits ends =
    let below : FitsSteps IsText level.Any most (Both one other) =
    record { tests = fits.tests; few = omega (arith, fits.few) } in
    ap (condition_at (suc most) level.One)
    (regrouped_in (condition_text level.One one) (codes " and ") (condition_text level.All other) rest)
    ∙ one_of_any most (Both one other) _ rest
    (condition_again most level.Any (Both one other) (41 ∷ rest) below (at_close rest))
condition_again (suc most) level.One (Either one other) rest fits ends =
    let below : FitsSteps IsText level.Any most (Either one other) =
    record { tests = fits.tests; few = omega (arith, fits.few) } in
    ap (condition_at (suc most) level.One)
    (regrouped_in (condition_text level.All one) (codes " or ") (condition_text level.Any other) rest)
    ∙ one_of_any most (Either one other) _ rest
    (condition_again most level.Any (Either one other) (41 ∷ rest) below (at_close rest))
