-- What is read of a text is within the limits.
use Rattle.std.proofs.Common.{◌≡◌, ℕ, zero, suc, ◌+◌, ◌-◌, ◌^◌, ◌<◌, ◌≤◌, Bool, true, false, ◌&&◌, nat_le, nat_lt, cond}
use Rattle.std.proofs.Common.{List, [], ◌∷◌, length, Option, Some, None, Result, Ok, Err, IfOk, refl, arith}
use Rattle.std.specs.Prelude.{⊤, codes}
use Rattle.std.specs.{Option.ok_or, List.AllByRecursion, List.slice_split}
use Rattle.std.proofs.lemmas.Bool.{and_parts, leb-true, ltb-true}
use Rattle.rules.specs.declared.{rule.Part.Part, rule.Layout.Layout}
use Rattle.rules.specs.declared.{level.Level.Level, fault.LineFault.LineFault}
use Rattle.rules.specs.declared.fault.RuleFault.{RuleFault}
use Rattle.rules.specs.declared.limits.TheConstants.{MAX_RULES, MAX_STEPS, MAX_PLACE, MAX_OUTPUT}
use Rattle.rules.specs.declared.fault.LineFault.TheVariants as fault
use Rattle.rules.specs.declared.level.Level.TheVariants as level
use Rattle.rules.specs.Formulas.{Formula, Single, Negated, Both, Either}
use Rattle.rules.specs.Lines.{Line}
use Rattle.rules.specs.Scanning.{Read, ◌>>=◌, on_there, after_quote, char_at, onto_text, skipped, is_end}
use Rattle.rules.specs.Scanning.{word_at, after_word, after_sign, word_expected, sign_expected, is_number, number_at}
use Rattle.rules.specs.Scanning.{number_in, quoted, text_at}
use Rattle.rules.specs.Reading.{names_part, part_at, argument_at, place_at, count_at, length_at, number_term_at}
use Rattle.rules.specs.Reading.{decimal_at, layout_named, layout_term_at, term_at, comparison_at, comparing_at, is_at}
use Rattle.rules.specs.Reading.{equal_at, begins_at, has_at, asked_at, test_at}
use Rattle.rules.specs.Reading.{condition_at, drop_at, tombstone_at, hashed_at, from_at, to_at, cut_end_at, cut_at}
use Rattle.rules.specs.Reading.{changed_at, form_at, output_at, header_at, added_at, outputs_at, action_at, when_at}
use Rattle.rules.specs.Reading.{rule_of, some_rule, rule_in, is_line_feed, before_rules, with_line, rules_in, rules_of}
use Rattle.rules.specs.Limits.{FitsText, FitsPart, IsFrom, FitsTerm, FitsTest, steps, FitsSteps, FitsWhen}
use Rattle.rules.specs.Limits.{FitsCut, FitsOutput, FitsAdded, FitsAction, FitsLine, AreRules}

-- ---- what holds of a result

any_ok : {A : Type 0} (r : Result A LineFault) → IfOk r (λ _. ⊤)
any_ok (Ok x) = tt
any_ok (Err e) = tt

then_ok : {A B : Type 0} (P : A → Type 0) (Q : B → Type 0) (r : Result A LineFault) (f : A → Result B LineFault) →
    IfOk r P → ((x : A) → P x → IfOk (f x) Q) → IfOk (r >>= f) Q
then_ok P Q (Ok x) f h go = go x h
then_ok P Q (Err e) f h go = tt

-- the same of a result of which nothing is known
after_ok : {A B : Type 0} (Q : B → Type 0) (r : Result A LineFault) (f : A → Result B LineFault) →
    ((x : A) → IfOk (f x) Q) → IfOk (r >>= f) Q
after_ok Q r f go = then_ok (λ _. ⊤) Q r f (any_ok r) (λ x _. go x)

there_ok : {A : Type 0} (P : A → Type 0) (o : Option (List ℕ)) (go : List ℕ → Result A LineFault)
    (other : Result A LineFault) → ((rest : List ℕ) → IfOk (go rest) P) → IfOk other P → IfOk (on_there o go other) P
there_ok P (Some rest) go other h k = h rest
there_ok P None go other h k = k

if_ok : {A E : Type 0} (P : A → Type 0) (b : Bool) (x y : Result A E) → (b ≡ true → IfOk x P) → IfOk y P →
    IfOk (cond b x y) P
if_ok P true x y h k = h refl
if_ok P false x y h k = k

-- ---- numbers and texts

number_fits : (low high : ℕ) (text : List ℕ) → IfOk (number_in low high text) (λ x. IsFrom low high x.0)
unfolding number_in
number_fits low high text = after_ok (λ x. IsFrom low high x.0) (number_at text) _
    (λ n. if_ok (λ x. IsFrom low high x.0) (nat_le low n.0 && nat_le n.0 high) (Ok n) _ (λ e.
    let parts = and_parts (nat_le low n.0) (nat_le n.0 high) e in
    record { low_is = leb-true low n.0 parts.0; high_is = leb-true n.0 high parts.1 }) tt)

onto_fits : (byte room : ℕ) (read : Read (List ℕ)) → IfOk read (λ x. length x.0 < room) →
    IfOk (onto_text byte read) (λ x. length x.0 < suc room)
onto_fits byte room (Ok x) h = omega arith
onto_fits byte room (Err e) h = tt

quoted_fits : (room at : ℕ) (text : List ℕ) → IfOk (quoted room at text) (λ x. length x.0 < room)
unfolding quoted
quoted_fits zero at text = tt
quoted_fits (suc room) at text =
    there_ok (λ x. length x.0 < suc room) (after_quote text) _ _ (λ rest. omega arith)
    (after_ok (λ x. length x.0 < suc room) (ok_or (char_at text) (fault.Text at)) _
    (λ c. onto_fits c.0 room (quoted room at c.1) (quoted_fits room at c.1)))

short_fits : (read : Read (List ℕ)) → IfOk read (λ x. length x.0 < 256) → IfOk read (λ x. FitsText x.0)
short_fits (Ok x) h = omega arith
short_fits (Err e) h = tt

text_fits : (text : List ℕ) → IfOk (text_at text) (λ x. FitsText x.0)
unfolding text_at
text_fits text = there_ok (λ x. FitsText x.0) (after_quote (skipped text)) _ _
    (λ rest. short_fits (quoted 256 (length (skipped text)) rest) (quoted_fits 256 (length (skipped text)) rest)) tt

-- ---- parts and terms

part_fits : (text : List ℕ) → IfOk (part_at text) (λ x. FitsPart FitsText x.0)
unfolding part_at
part_fits text = there_ok (λ x. FitsPart FitsText x.0) (after_word (codes "value") text) _ _ (λ rest. tt)
    (there_ok (λ x. FitsPart FitsText x.0) (after_word (codes "key") text) _ _ (λ rest. tt)
    (after_ok (λ x. FitsPart FitsText x.0) (word_expected (codes "header") text) _ (λ rest.
    then_ok (λ x. FitsText x.0) (λ x. FitsPart FitsText x.0) (text_at rest) _ (text_fits rest) (λ name h. h))))

argument_fits : (text : List ℕ) → IfOk (argument_at text) (λ x. FitsPart FitsText x.0)
unfolding argument_at
argument_fits text = after_ok (λ x. FitsPart FitsText x.0) (sign_expected (codes "(") text) _ part_fits

place_fits : (text : List ℕ) → IfOk (place_at text) (λ x. IsFrom 0 MAX_PLACE x.0)
unfolding place_at
place_fits text = after_ok (λ x. IsFrom 0 MAX_PLACE x.0) (sign_expected (codes ",") text) _ (number_fits 0 MAX_PLACE)

count_fits : (text : List ℕ) → IfOk (count_at text) (λ x. IsFrom 1 18 x.0)
unfolding count_at
count_fits text = after_ok (λ x. IsFrom 1 18 x.0) (sign_expected (codes ",") text) _ (number_fits 1 18)

length_fits : (text : List ℕ) → IfOk (length_at text) (λ x. FitsTerm FitsText x.0)
unfolding length_at
length_fits text = then_ok (λ x. FitsPart FitsText x.0) (λ x. FitsTerm FitsText x.0) (argument_at text) _ (argument_fits text) (λ p h.
    after_ok (λ x. FitsTerm FitsText x.0) (sign_expected (codes ")") p.1) _ (λ rest. h))

number_term_fits : (layout : Layout) (text : List ℕ) → IfOk (number_term_at layout text) (λ x. FitsTerm FitsText x.0)
unfolding number_term_at
number_term_fits layout text =
    then_ok (λ x. FitsPart FitsText x.0) (λ x. FitsTerm FitsText x.0) (argument_at text) _ (argument_fits text) (λ p h.
    then_ok (λ x. IsFrom 0 MAX_PLACE x.0) (λ x. FitsTerm FitsText x.0) (place_at p.1) _ (place_fits p.1) (λ at k.
    after_ok (λ x. FitsTerm FitsText x.0) (sign_expected (codes ")") at.1) _ (λ rest. (h, k))))

decimal_fits : (text : List ℕ) → IfOk (decimal_at text) (λ x. FitsTerm FitsText x.0)
unfolding decimal_at
decimal_fits text =
    then_ok (λ x. FitsPart FitsText x.0) (λ x. FitsTerm FitsText x.0) (argument_at text) _ (argument_fits text) (λ p h.
    then_ok (λ x. IsFrom 0 MAX_PLACE x.0) (λ x. FitsTerm FitsText x.0) (place_at p.1) _ (place_fits p.1) (λ at k.
    then_ok (λ x. IsFrom 1 18 x.0) (λ x. FitsTerm FitsText x.0) (count_at at.1) _ (count_fits at.1) (λ count l.
    after_ok (λ x. FitsTerm FitsText x.0) (sign_expected (codes ")") count.1) _ (λ rest. (h, (k, l))))))

layout_term_fits : (layout : Option Layout) (text : List ℕ) → IfOk (layout_term_at layout text) (λ x. FitsTerm FitsText x.0)
unfolding layout_term_at
layout_term_fits (Some layout) text = number_term_fits layout _
layout_term_fits None text = tt

term_fits : (text : List ℕ) → IfOk (term_at text) (λ x. FitsTerm FitsText x.0)
unfolding term_at
term_fits text =
    there_ok (λ x. FitsTerm FitsText x.0) (after_word (codes "length") text) _ _ length_fits
    (there_ok (λ x. FitsTerm FitsText x.0) (after_word (codes "decimal") text) _ _ decimal_fits
    (there_ok (λ x. FitsTerm FitsText x.0) (after_word (codes "offset") text) _ _ (λ rest. tt)
    (there_ok (λ x. FitsTerm FitsText x.0) (after_word (codes "timestamp") text) _ _ (λ rest. tt)
    (there_ok (λ x. FitsTerm FitsText x.0) (after_word (codes "partition") text) _ _ (λ rest. tt)
    (there_ok (λ x. FitsTerm FitsText x.0) (after_word (codes "headers") text) _ _ (λ rest. tt)
    (layout_term_fits (layout_named (word_at text)) text))))))

-- ---- tests

comparing_fits : (text : List ℕ) → IfOk (comparing_at text) (λ x. FitsTest FitsText x.0)
unfolding comparing_at
comparing_fits text = then_ok (λ x. FitsTerm FitsText x.0) (λ x. FitsTest FitsText x.0) (term_at text) _ (term_fits text) (λ t h.
    after_ok (λ x. FitsTest FitsText x.0) (comparison_at t.1) _ (λ how.
    then_ok (λ x. IsFrom 0 (2 ^ 64 - 1) x.0) (λ x. FitsTest FitsText x.0) (number_in 0 (2 ^ 64 - 1) how.1) _
    (number_fits 0 (2 ^ 64 - 1) how.1) (λ n k. (h, k))))

is_fits : (p : Part) (text : List ℕ) → FitsPart FitsText p → IfOk (is_at p text) (λ x. FitsTest FitsText x.0)
unfolding is_at
is_fits p text h = there_ok (λ x. FitsTest FitsText x.0) (after_word (codes "null") text) _ _ (λ rest. h)
    (after_ok (λ x. FitsTest FitsText x.0) (word_expected (codes "absent") text) _ (λ rest. h))

equal_fits : (p : Part) (text : List ℕ) → FitsPart FitsText p → IfOk (equal_at p text) (λ x. FitsTest FitsText x.0)
unfolding equal_at
equal_fits p text h =
    then_ok (λ x. FitsText x.0) (λ x. FitsTest FitsText x.0) (text_at text) _ (text_fits text) (λ t k. (h, k))

begins_fits : (p : Part) (text : List ℕ) → FitsPart FitsText p → IfOk (begins_at p text) (λ x. FitsTest FitsText x.0)
unfolding begins_at
begins_fits p text h =
    then_ok (λ x. FitsText x.0) (λ x. FitsTest FitsText x.0) (text_at text) _ (text_fits text) (λ t k. (h, k))

has_fits : (p : Part) (text : List ℕ) → FitsPart FitsText p → IfOk (has_at p text) (λ x. FitsTest FitsText x.0)
unfolding has_at
has_fits p text h =
    then_ok (λ x. FitsText x.0) (λ x. FitsTest FitsText x.0) (text_at text) _ (text_fits text) (λ t k. (h, k))

asked_fits : (p : Part) (text : List ℕ) → FitsPart FitsText p → IfOk (asked_at p text) (λ x. FitsTest FitsText x.0)
unfolding asked_at
asked_fits p text h =
    there_ok (λ x. FitsTest FitsText x.0) (after_word (codes "is") text) _ _ (λ rest. is_fits p rest h)
    (there_ok (λ x. FitsTest FitsText x.0) (after_word (codes "begins") text) _ _ (λ rest. begins_fits p rest h)
    (there_ok (λ x. FitsTest FitsText x.0) (after_word (codes "has") text) _ _ (λ rest. has_fits p rest h)
    (after_ok (λ x. FitsTest FitsText x.0) (sign_expected (codes "=") text) _ (λ rest. equal_fits p rest h))))

test_fits : (text : List ℕ) → IfOk (test_at text) (λ x. FitsTest FitsText x.0)
unfolding test_at
test_fits text = if_ok (λ x. FitsTest FitsText x.0) (names_part (word_at text)) _ _
    (λ _. then_ok (λ x. FitsPart FitsText x.0) (λ x. FitsTest FitsText x.0) (part_at text) _ (part_fits text)
    (λ p h. asked_fits p.0 p.1 h)) (comparing_fits text)

-- ---- conditions

any_steps : (c : Formula) → steps level.Any c ≤ suc (steps level.All c)
any_steps (Single t) = omega arith
any_steps (Negated inner) = omega arith
any_steps (Both one other) = omega arith
any_steps (Either one other) = omega arith

all_steps : (c : Formula) → steps level.All c ≤ suc (steps level.One c)
all_steps (Single t) = omega arith
all_steps (Negated inner) = omega arith
all_steps (Both one other) = omega arith
all_steps (Either one other) = omega arith

one_steps : (c : Formula) → steps level.One c ≤ suc (steps level.Any c)
one_steps (Single t) = omega arith
one_steps (Negated inner) = omega arith
one_steps (Both one other) = omega arith
one_steps (Either one other) = omega arith

condition_fits : (most : ℕ) (what : Level) (text : List ℕ) →
    IfOk (condition_at most what text) (λ x. FitsSteps FitsText what most x.0)
unfolding condition_at
condition_fits zero what text = tt
condition_fits (suc most) level.Any text =
    then_ok (λ x. FitsSteps FitsText level.All most x.0) (λ x. FitsSteps FitsText level.Any (suc most) x.0)
    (condition_at most level.All text) _ (condition_fits most level.All text) (λ first h.
    there_ok (λ x. FitsSteps FitsText level.Any (suc most) x.0) (after_word (codes "or") first.1) _ _ (λ rest.
    then_ok (λ x. FitsSteps FitsText level.Any most x.0) (λ x. FitsSteps FitsText level.Any (suc most) x.0)
    (condition_at most level.Any rest) _ (condition_fits most level.Any rest)
    (λ other k. record { tests = (h.tests, k.tests); few = omega (arith, h.few, k.few) }))
    (record { tests = h.tests; few = omega (arith, any_steps first.0, h.few) }))
condition_fits (suc most) level.All text =
    then_ok (λ x. FitsSteps FitsText level.One most x.0) (λ x. FitsSteps FitsText level.All (suc most) x.0)
    (condition_at most level.One text) _ (condition_fits most level.One text) (λ first h.
    there_ok (λ x. FitsSteps FitsText level.All (suc most) x.0) (after_word (codes "and") first.1) _ _ (λ rest.
    then_ok (λ x. FitsSteps FitsText level.All most x.0) (λ x. FitsSteps FitsText level.All (suc most) x.0)
    (condition_at most level.All rest) _ (condition_fits most level.All rest)
    (λ other k. record { tests = (h.tests, k.tests); few = omega (arith, h.few, k.few) }))
    (record { tests = h.tests; few = omega (arith, all_steps first.0, h.few) }))
condition_fits (suc most) level.One text =
    there_ok (λ x. FitsSteps FitsText level.One (suc most) x.0) (after_word (codes "not") text) _ _ (λ rest.
    then_ok (λ x. FitsSteps FitsText level.One most x.0) (λ x. FitsSteps FitsText level.One (suc most) x.0)
    (condition_at most level.One rest) _ (condition_fits most level.One rest)
    (λ inner h. record { tests = h.tests; few = omega (arith, h.few) }))
    (there_ok (λ x. FitsSteps FitsText level.One (suc most) x.0) (after_sign (codes "(") text) _ _ (λ rest.
    then_ok (λ x. FitsSteps FitsText level.Any most x.0) (λ x. FitsSteps FitsText level.One (suc most) x.0)
    (condition_at most level.Any rest) _ (condition_fits most level.Any rest) (λ inner h.
    after_ok (λ x. FitsSteps FitsText level.One (suc most) x.0) (sign_expected (codes ")") inner.1) _
    (λ closed. record { tests = h.tests; few = omega (arith, one_steps inner.0, h.few) })))
    (then_ok (λ x. FitsTest FitsText x.0) (λ x. FitsSteps FitsText level.One (suc most) x.0) (test_at text) _ (test_fits text)
    (λ t h. record { tests = h; few = omega arith })))

-- ---- actions

drop_fits : (text : List ℕ) → IfOk (drop_at text) (λ x. FitsAction FitsText x.0)
unfolding drop_at
drop_fits text = if_ok (λ x. FitsAction FitsText x.0) (is_number (word_at text)) _ _
    (λ _. then_ok (λ x. IsFrom 1 (2 ^ 64 - 1) x.0) (λ x. FitsAction FitsText x.0) (number_in 1 (2 ^ 64 - 1) text) _
    (number_fits 1 (2 ^ 64 - 1) text) (λ code h. h)) (record { low_is = omega arith; high_is = omega arith })

tombstone_fits : (text : List ℕ) → IfOk (tombstone_at text) (λ x. FitsAction FitsText x.0)
unfolding tombstone_at
tombstone_fits text = then_ok (λ x. IsFrom 0 MAX_OUTPUT x.0) (λ x. FitsAction FitsText x.0) (number_in 0 MAX_OUTPUT text) _
    (number_fits 0 MAX_OUTPUT text) (λ n h. h)

hashed_fits : (text : List ℕ) → IfOk (hashed_at text) (λ x. FitsOutput FitsText x.0)
unfolding hashed_at
hashed_fits text =
    then_ok (λ x. FitsPart FitsText x.0) (λ x. FitsOutput FitsText x.0) (argument_at text) _ (argument_fits text) (λ p h.
    after_ok (λ x. FitsOutput FitsText x.0) (sign_expected (codes ")") p.1) _ (λ closed.
    after_ok (λ x. FitsOutput FitsText x.0) (sign_expected (codes "%") closed) _ (λ rest.
    then_ok (λ x. IsFrom 1 64 x.0) (λ x. FitsOutput FitsText x.0) (number_in 1 64 rest) _ (number_fits 1 64 rest)
    (λ n k. (h, k)))))

from_fits : (text : List ℕ) → IfOk (from_at text) (λ x. IsFrom 0 MAX_PLACE x.0)
unfolding from_at
from_fits text = after_ok (λ x. IsFrom 0 MAX_PLACE x.0) (sign_expected (codes "[") text) _ (λ start.
    then_ok (λ x. IsFrom 0 MAX_PLACE x.0) (λ x. IsFrom 0 MAX_PLACE x.0) (number_in 0 MAX_PLACE start) _
    (number_fits 0 MAX_PLACE start) (λ from h.
    after_ok (λ x. IsFrom 0 MAX_PLACE x.0) (sign_expected (codes "..") from.1) _ (λ rest. h)))

to_fits : (from : ℕ) (text : List ℕ) → IfOk (to_at from text) (λ x. IsFrom from MAX_PLACE x.0)
unfolding to_at
to_fits from text =
    then_ok (λ x. IsFrom from MAX_PLACE x.0) (λ x. IsFrom from MAX_PLACE x.0) (number_in from MAX_PLACE text) _
    (number_fits from MAX_PLACE text) (λ to h.
    after_ok (λ x. IsFrom from MAX_PLACE x.0) (sign_expected (codes "]") to.1) _ (λ rest. h))

cut_end_fits : (from : ℕ) (text : List ℕ) → IsFrom 0 MAX_PLACE from → IfOk (cut_end_at from text) (λ x. FitsCut x.0)
unfolding cut_end_at
cut_end_fits from text h = there_ok (λ x. FitsCut x.0) (after_sign (codes "]") text) _ _
    (λ rest. record { from = h; to = tt })
    (then_ok (λ x. IsFrom from MAX_PLACE x.0) (λ x. FitsCut x.0) (to_at from text) _ (to_fits from text)
    (λ to k. record { from = h; to = k }))

cut_fits : (n : ℕ) (text : List ℕ) → IsFrom 0 MAX_OUTPUT n → IfOk (cut_at n text) (λ x. FitsOutput FitsText x.0)
unfolding cut_at
cut_fits n text i = then_ok (λ x. FitsPart FitsText x.0) (λ x. FitsOutput FitsText x.0) (part_at text) _ (part_fits text) (λ p h.
    then_ok (λ x. IsFrom 0 MAX_PLACE x.0) (λ x. FitsOutput FitsText x.0) (from_at p.1) _ (from_fits p.1) (λ from k.
    then_ok (λ x. FitsCut x.0) (λ x. FitsOutput FitsText x.0) (cut_end_at from.0 from.1) _ (cut_end_fits from.0 from.1 k)
    (λ cut l. (i, (h, l)))))

changed_fits : (n : ℕ) (text : List ℕ) → IsFrom 0 MAX_OUTPUT n → IfOk (changed_at n text) (λ x. FitsOutput FitsText x.0)
unfolding changed_at
changed_fits n text i = after_ok (λ x. FitsOutput FitsText x.0) (word_expected (codes "value") text) _ (λ start.
    then_ok (λ x. IsFrom 0 MAX_PLACE x.0) (λ x. FitsOutput FitsText x.0) (from_at start) _ (from_fits start) (λ from h.
    then_ok (λ x. IsFrom from.0 MAX_PLACE x.0) (λ x. FitsOutput FitsText x.0) (to_at from.0 from.1) _ (to_fits from.0 from.1)
    (λ to k. after_ok (λ x. FitsOutput FitsText x.0) (sign_expected (codes "=") to.1) _ (λ rest.
    then_ok (λ x. FitsText x.0) (λ x. FitsOutput FitsText x.0) (text_at rest) _ (text_fits rest)
    (λ t l. (i, (h, (k, l))))))))

form_fits : (n : ℕ) (text : List ℕ) → IsFrom 0 MAX_OUTPUT n → IfOk (form_at n text) (λ x. FitsOutput FitsText x.0)
unfolding form_at
form_fits n text i = there_ok (λ x. FitsOutput FitsText x.0) (after_word (codes "with") text) _ _ (λ rest. changed_fits n rest i)
    (if_ok (λ x. FitsOutput FitsText x.0) (names_part (word_at text)) _ _ (λ _. cut_fits n text i) i)

output_fits : (text : List ℕ) → IfOk (output_at text) (λ x. FitsOutput FitsText x.0)
unfolding output_at
output_fits text = there_ok (λ x. FitsOutput FitsText x.0) (after_word (codes "hash") text) _ _ hashed_fits
    (then_ok (λ x. IsFrom 0 MAX_OUTPUT x.0) (λ x. FitsOutput FitsText x.0) (number_in 0 MAX_OUTPUT text) _
    (number_fits 0 MAX_OUTPUT text) (λ n h. form_fits n.0 n.1 h))

header_fits : (text : List ℕ) → IfOk (header_at text) (λ x. FitsAdded FitsText (Some x.0))
unfolding header_at
header_fits text = after_ok (λ x. FitsAdded FitsText (Some x.0)) (word_expected (codes "header") text) _ (λ start.
    then_ok (λ x. FitsText x.0) (λ x. FitsAdded FitsText (Some x.0)) (text_at start) _ (text_fits start) (λ key h.
    after_ok (λ x. FitsAdded FitsText (Some x.0)) (sign_expected (codes "=") key.1) _ (λ rest.
    then_ok (λ x. FitsText x.0) (λ x. FitsAdded FitsText (Some x.0)) (text_at rest) _ (text_fits rest) (λ value k. (h, k)))))

added_fits : (text : List ℕ) → IfOk (added_at text) (λ x. FitsAdded FitsText x.0)
unfolding added_at
added_fits text = there_ok (λ x. FitsAdded FitsText x.0) (after_word (codes "and") text) _ _ (λ rest.
    then_ok (λ x. FitsAdded FitsText (Some x.0)) (λ x. FitsAdded FitsText x.0) (header_at rest) _ (header_fits rest) (λ h k. k)) tt

outputs_fits : (text : List ℕ) → IfOk (outputs_at text) (λ x. FitsAction FitsText x.0)
unfolding outputs_at
outputs_fits text = then_ok (λ x. FitsOutput FitsText x.0) (λ x. FitsAction FitsText x.0) (output_at text) _ (output_fits text) (λ o h.
    then_ok (λ x. FitsAdded FitsText x.0) (λ x. FitsAction FitsText x.0) (added_at o.1) _ (added_fits o.1) (λ added k. (h, k)))

action_fits : (text : List ℕ) → IfOk (action_at text) (λ x. FitsAction FitsText x.0)
unfolding action_at
action_fits text = there_ok (λ x. FitsAction FitsText x.0) (after_word (codes "drop") text) _ _ drop_fits
    (there_ok (λ x. FitsAction FitsText x.0) (after_word (codes "tombstone") text) _ _ tombstone_fits
    (after_ok (λ x. FitsAction FitsText x.0) (word_expected (codes "output") text) _ outputs_fits))

-- ---- rules

when_fits : (text : List ℕ) → IfOk (when_at text) (λ x. FitsWhen FitsText x.0)
unfolding when_at
when_fits text = there_ok (λ x. FitsWhen FitsText x.0) (after_word (codes "when") text) _ _ (λ rest.
    then_ok (λ x. FitsSteps FitsText level.Any MAX_STEPS x.0) (λ x. FitsWhen FitsText x.0) (condition_at MAX_STEPS level.Any rest) _
    (condition_fits MAX_STEPS level.Any rest) (λ c h. h)) tt

rule_fits : (text : List ℕ) → IfOk (rule_of text) (FitsLine FitsText)
unfolding rule_of
rule_fits text = then_ok (λ x. FitsAction FitsText x.0) (FitsLine FitsText) (action_at text) _ (action_fits text) (λ a h.
    then_ok (λ x. FitsWhen FitsText x.0) (FitsLine FitsText) (when_at a.1) _ (when_fits a.1) (λ c k.
    if_ok (FitsLine FitsText) (is_end (skipped c.1)) _ _ (λ _. record { action = h; condition = k }) tt))

-- a rule, if there is one
abbrev FitsSome : Option Line → Type 0
FitsSome (Some line) = FitsLine FitsText line
FitsSome None = ⊤

some_fits : (r : Result Line LineFault) → IfOk r (FitsLine FitsText) → IfOk (some_rule r) FitsSome
some_fits (Ok line) h = h
some_fits (Err e) h = tt

rule_in_fits : (text : List ℕ) → IfOk (rule_in text) FitsSome
unfolding rule_in
rule_in_fits text =
    if_ok FitsSome (is_end (skipped text)) _ _ (λ _. tt) (some_fits (rule_of text) (rule_fits text))

-- rules after so many others
record AreAfter (count : ℕ) (lines : List Line) : Type 0 where
  few : count + length lines ≤ MAX_RULES
  each : AllByRecursion (FitsLine FitsText) lines

before_fits : (count : ℕ) (rule : Line) (r : Result (List Line) RuleFault) → FitsLine FitsText rule →
    IfOk r (AreAfter (count + 1)) → IfOk (before_rules (rule ∷ []) r) (AreAfter count)
before_fits count rule (Ok others) h k = record { few = omega (arith, k.few); each = (h, k.each) }
before_fits count rule (Err f) h k = tt

line_fits : (number count : ℕ) (line : List ℕ) (r : Result (Option Line) LineFault)
    (later : ℕ → Result (List Line) RuleFault) → IfOk r FitsSome → count ≤ MAX_RULES →
    ((n : ℕ) → n ≤ MAX_RULES → IfOk (later n) (AreAfter n)) → IfOk (with_line number line count r later) (AreAfter count)
line_fits number count line (Err f) later h few go = tt
line_fits number count line (Ok None) later h few go = go count few
line_fits number count line (Ok (Some rule)) later h few go =
    if_ok (AreAfter count) (nat_lt count MAX_RULES) (before_rules (rule ∷ []) (later (count + 1))) _
    (λ e. before_fits count rule (later (count + 1)) h
    (go (count + 1) (omega (arith, ltb-true count MAX_RULES e)))) tt

lines_fit : (number count : ℕ) (lines : List (List ℕ)) → count ≤ MAX_RULES →
    IfOk (rules_in number count lines) (AreAfter count)
lines_fit number count [] few = record { few = omega arith; each = tt }
lines_fit number count (line ∷ lines) few =
    line_fits number count line (rule_in line) (λ (n : ℕ). rules_in (number + 1) n lines) (rule_in_fits line) few
    (λ n small. lines_fit (number + 1) n lines small)

pub rules_fit : (text : List ℕ) (rules : List Line) → rules_of text ≡ Ok rules → AreRules FitsText rules
unfolding rules_of
rules_fit text rules e =
    let all : AreAfter 0 rules = rw e at (lines_fit 1 0 (slice_split is_line_feed text) (omega arith)) in
    record { few = omega (arith, all.few); each = all.each }
