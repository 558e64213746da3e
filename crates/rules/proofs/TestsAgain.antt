-- Parts, terms and tests are read again as they were printed.
use Rattle.std.proofs.Common.{◌≡◌, ℕ, ◌-◌, ◌^◌, true, false, List, ◌∷◌, ◌++◌, Option, Some, None}
use Rattle.std.proofs.Common.{Ok, refl, ap, ◌∙◌, arith, append_assoc, decimal}
use Rattle.std.specs.Prelude.{codes}
use Rattle.rules.specs.declared.{rule.Part.Part, rule.Layout.Layout, rule.Term.Term, rule.Comparison.Comparison}
use Rattle.rules.specs.declared.rule.Test.{Test}
use Rattle.rules.specs.declared.rule.Part.TheVariants as part
use Rattle.rules.specs.declared.rule.Layout.TheVariants.{Byte, U16Be, U32Be, U64Be, U16Le, U32Le, U64Le}
use Rattle.rules.specs.declared.rule.Term.TheVariants as term
use Rattle.rules.specs.declared.rule.Comparison.TheVariants as comparison
use Rattle.rules.specs.declared.rule.Test.TheVariants as test
use Rattle.rules.specs.declared.limits.TheConstants.{MAX_PLACE, MAX_DIGITS}
use Rattle.rules.specs.Limits.{IsText, IsFrom, FitsPart, FitsTerm, FitsTest}
use Rattle.rules.specs.Scanning.{Read, unexpected, word_at, behind_word, after_word, after_sign}
use Rattle.rules.specs.Scanning.{word_expected, sign_expected, number_in, text_at}
use Rattle.rules.specs.Reading.{names_part, part_at, argument_at, place_at, count_at, length_at, number_term_at}
use Rattle.rules.specs.Reading.{decimal_at, layout_named, layout_term_at, term_at, comparison_at, comparing_at, is_at}
use Rattle.rules.specs.Reading.{equal_at, begins_at, has_at, asked_at, test_at}
use Rattle.rules.specs.Writing.{quoted_text, part_text, layout_word, argument_text, next_text, term_text}
use Rattle.rules.specs.Writing.{comparison_text, test_text}
use Rattle.rules.proofs.Appends.{assoc4, assoc5}
use Rattle.rules.proofs.WordsAgain.{is_apart, same_word, other_word, word_space, word_is_there, in_again, in_space}
use Rattle.rules.proofs.WordsAgain.{word_again, named_space, text_again, text_space}

-- ---- parts

pub part_again : (p : Part) (rest : List ℕ) → FitsPart IsText p → is_apart rest ≡ true →
    part_at (part_text p ++ rest) ≡ Ok (p, rest)
unfolding part_at
part_again part.Value rest fits apart = rw (same_word (codes "value") rest refl apart refl) refl
part_again part.Key rest fits apart =
    rw (other_word (codes "key") (codes "value") rest refl apart refl, same_word (codes "key") rest refl apart refl) refl
part_again (part.Header name) rest fits apart =
    let more = 32 ∷ (quoted_text name ++ rest) in
    let there : word_expected (codes "header") (codes "header" ++ more) ≡ Ok more =
    word_is_there (codes "header") (codes "header" ++ more) more (same_word (codes "header") more refl refl refl) in
    let text : text_at more ≡ Ok (name, rest) = text_space (quoted_text name ++ rest) ∙ text_again name rest fits in
    rw (
      other_word (codes "header") (codes "value") more refl refl refl,
      other_word (codes "header") (codes "key") more refl refl refl,
      there,
      text,
    ) refl

pub part_space : (text : List ℕ) → part_at (32 ∷ text) ≡ part_at text
unfolding part_at after_word word_expected word_at behind_word unexpected
part_space text = refl

-- a part is seen by its first word
pub part_named : (p : Part) (byte : ℕ) (rest : List ℕ) → is_apart (byte ∷ rest) ≡ true →
    names_part (word_at (part_text p ++ byte ∷ rest)) ≡ true
part_named part.Value byte rest apart =
    rw (word_again (codes "value") (byte ∷ rest) refl apart).word_is refl
part_named part.Key byte rest apart =
    rw (word_again (codes "key") (byte ∷ rest) refl apart).word_is refl
part_named (part.Header name) byte rest apart =
    rw (word_again (codes "header") (32 ∷ (quoted_text name ++ byte ∷ rest)) refl refl).word_is
    refl

-- ---- terms

argument_again : (p : Part) (rest : List ℕ) → FitsPart IsText p → is_apart rest ≡ true →
    argument_at (40 ∷ (part_text p ++ rest)) ≡ Ok (p, rest)
unfolding argument_at sign_expected after_sign
argument_again p rest fits apart = part_again p rest fits apart

pub argument_printed : (p : Part) (rest : List ℕ) → FitsPart IsText p → is_apart rest ≡ true →
    argument_at (argument_text p ++ rest) ≡ Ok (p, rest)
argument_printed p rest fits apart = argument_again p rest fits apart

place_again : (n : ℕ) (rest : List ℕ) → IsFrom 0 MAX_PLACE n → is_apart rest ≡ true →
    place_at (next_text n ++ rest) ≡ Ok (n, rest)
unfolding place_at sign_expected after_sign
place_again n rest is apart =
    in_space 0 MAX_PLACE (decimal n ++ rest) ∙ in_again 0 MAX_PLACE n rest is (omega (arith, is.high_is)) apart

count_again : (n : ℕ) (rest : List ℕ) → IsFrom 1 MAX_DIGITS n → is_apart rest ≡ true →
    count_at (next_text n ++ rest) ≡ Ok (n, rest)
unfolding count_at sign_expected after_sign
count_again n rest is apart =
    in_space 1 MAX_DIGITS (decimal n ++ rest) ∙ in_again 1 MAX_DIGITS n rest is (omega (arith, is.high_is)) apart

pub closed : (rest : List ℕ) → sign_expected (codes ")") (41 ∷ rest) ≡ Ok rest
unfolding sign_expected after_sign
closed rest = refl

-- a term begins with its word, and goes on with its arguments
length_front : (more : List ℕ) → term_at (codes "length" ++ 40 ∷ more) ≡ length_at (40 ∷ more)
unfolding term_at
length_front more = rw (same_word (codes "length") (40 ∷ more) refl refl refl) refl

decimal_front : (more : List ℕ) → term_at (codes "decimal" ++ 40 ∷ more) ≡ decimal_at (40 ∷ more)
unfolding term_at after_word word_at behind_word
decimal_front more = refl

layout_front : (layout : Layout) (more : List ℕ) →
    term_at (layout_word layout ++ 40 ∷ more) ≡ number_term_at layout (40 ∷ more)
unfolding term_at layout_term_at after_word word_at behind_word
layout_front Byte more = refl
layout_front U16Be more = refl
layout_front U32Be more = refl
layout_front U64Be more = refl
layout_front U16Le more = refl
layout_front U32Le more = refl
layout_front U64Le more = refl

length_again : (p : Part) (rest : List ℕ) → FitsPart IsText p →
    length_at (argument_text p ++ (41 ∷ rest)) ≡ Ok (term.Length p, rest)
unfolding length_at
length_again p rest fits = rw (argument_again p (41 ∷ rest) fits refl, closed rest) refl

number_term_again : (layout : Layout) (p : Part) (n : ℕ) (rest : List ℕ) → FitsPart IsText p → IsFrom 0 MAX_PLACE n →
    number_term_at layout (argument_text p ++ (next_text n ++ (41 ∷ rest))) ≡ Ok (term.Number layout p n, rest)
unfolding number_term_at
number_term_again layout p n rest fits is =
    rw (argument_again p (next_text n ++ (41 ∷ rest)) fits refl, place_again n (41 ∷ rest) is refl, closed rest) refl

decimal_again : (p : Part) (n count : ℕ) (rest : List ℕ) → FitsPart IsText p → IsFrom 0 MAX_PLACE n →
    IsFrom 1 MAX_DIGITS count →
    decimal_at (argument_text p ++ (next_text n ++ (next_text count ++ (41 ∷ rest)))) ≡ Ok (term.Decimal p n count, rest)
unfolding decimal_at
decimal_again p n count rest fits is few =
    rw (
      argument_again p (next_text n ++ (next_text count ++ (41 ∷ rest))) fits refl,
      place_again n (next_text count ++ (41 ∷ rest)) is refl,
      count_again count (41 ∷ rest) few refl,
      closed rest,
    ) refl

offset_again : (rest : List ℕ) → term_at (codes "offset" ++ 32 ∷ rest) ≡ Ok (term.Offset, 32 ∷ rest)
unfolding term_at after_word word_at behind_word
offset_again rest = refl

timestamp_again : (rest : List ℕ) → term_at (codes "timestamp" ++ 32 ∷ rest) ≡ Ok (term.Timestamp, 32 ∷ rest)
unfolding term_at after_word word_at behind_word
timestamp_again rest = refl

partition_again : (rest : List ℕ) → term_at (codes "partition" ++ 32 ∷ rest) ≡ Ok (term.Partition, 32 ∷ rest)
unfolding term_at after_word word_at behind_word
partition_again rest = refl

headers_again : (rest : List ℕ) → term_at (codes "headers" ++ 32 ∷ rest) ≡ Ok (term.Headers, 32 ∷ rest)
unfolding term_at after_word word_at behind_word
headers_again rest = refl

-- a term before a space
pub term_again : (t : Term) (rest : List ℕ) → FitsTerm IsText t → term_at (term_text t ++ 32 ∷ rest) ≡ Ok (t, 32 ∷ rest)
unfolding term_text
term_again (term.Length p) rest fits =
    let more = argument_text p ++ (41 ∷ 32 ∷ rest) in
    let regrouped : (codes "length" ++ (argument_text p ++ codes ")")) ++ 32 ∷ rest ≡ codes "length" ++ more =
    ap (λ (t : List ℕ). codes "length" ++ t) (append_assoc (argument_text p) (codes ")") (32 ∷ rest)) in
    ap term_at regrouped ∙ length_front (part_text p ++ (41 ∷ 32 ∷ rest)) ∙ length_again p (32 ∷ rest) fits
term_again (term.Number layout p n) rest fits =
    let more = argument_text p ++ (next_text n ++ (41 ∷ 32 ∷ rest)) in
    let regrouped : (layout_word layout ++ (argument_text p ++ (next_text n ++ codes ")"))) ++ 32 ∷ rest
    ≡ layout_word layout ++ more =
    assoc4 (layout_word layout) (argument_text p) (next_text n) (codes ")") (32 ∷ rest) in
    ap term_at regrouped ∙ layout_front layout (part_text p ++ (next_text n ++ (41 ∷ 32 ∷ rest)))
    ∙ number_term_again layout p n (32 ∷ rest) fits.0 fits.1
term_again (term.Decimal p n count) rest fits =
    let more = argument_text p ++ (next_text n ++ (next_text count ++ (41 ∷ 32 ∷ rest))) in
    let regrouped : (codes "decimal" ++ (argument_text p ++ (next_text n ++ (next_text count ++ codes ")")))) ++ 32 ∷ rest
    ≡ codes "decimal" ++ more =
    assoc5 (codes "decimal") (argument_text p) (next_text n) (next_text count) (codes ")") (32 ∷ rest) in
    ap term_at regrouped ∙ decimal_front (part_text p ++ (next_text n ++ (next_text count ++ (41 ∷ 32 ∷ rest))))
    ∙ decimal_again p n count (32 ∷ rest) fits.0 fits.1.0 fits.1.1
term_again term.Offset rest fits = offset_again rest
term_again term.Timestamp rest fits = timestamp_again rest
term_again term.Partition rest fits = partition_again rest
term_again term.Headers rest fits = headers_again rest

-- a term is seen by its first word, which is no part's
term_named : (t : Term) (rest : List ℕ) → names_part (word_at (term_text t ++ 32 ∷ rest)) ≡ false
unfolding term_text word_at
term_named (term.Length p) rest = refl
term_named (term.Number Byte p n) rest = refl
term_named (term.Number U16Be p n) rest = refl
term_named (term.Number U32Be p n) rest = refl
term_named (term.Number U64Be p n) rest = refl
term_named (term.Number U16Le p n) rest = refl
term_named (term.Number U32Le p n) rest = refl
term_named (term.Number U64Le p n) rest = refl
term_named (term.Decimal p n count) rest = refl
term_named term.Offset rest = refl
term_named term.Timestamp rest = refl
term_named term.Partition rest = refl
term_named term.Headers rest = refl

-- ---- comparisons

-- a comparison without the space before it
abbrev sign_text : Comparison → List ℕ
sign_text comparison.Equal = codes "= "
sign_text comparison.NotEqual = codes "!= "
sign_text comparison.Less = codes "< "
sign_text comparison.LessOrEqual = codes "<= "
sign_text comparison.Greater = codes "> "
sign_text comparison.GreaterOrEqual = codes ">= "

after_space : (how : Comparison) → comparison_text how ≡ 32 ∷ sign_text how
after_space comparison.Equal = refl
after_space comparison.NotEqual = refl
after_space comparison.Less = refl
after_space comparison.LessOrEqual = refl
after_space comparison.Greater = refl
after_space comparison.GreaterOrEqual = refl

comparison_again : (how : Comparison) (rest : List ℕ) →
    comparison_at (32 ∷ (sign_text how ++ rest)) ≡ Ok (how, 32 ∷ rest)
unfolding comparison_at after_sign
comparison_again comparison.Equal rest = refl
comparison_again comparison.NotEqual rest = refl
comparison_again comparison.Less rest = refl
comparison_again comparison.LessOrEqual rest = refl
comparison_again comparison.Greater rest = refl
comparison_again comparison.GreaterOrEqual rest = refl

-- ---- tests

comparing_again : (t : Term) (how : Comparison) (n : ℕ) (rest : List ℕ) → FitsTerm IsText t →
    IsFrom 0 (2 ^ 64 - 1) n → is_apart rest ≡ true →
    test_at (term_text t ++ (32 ∷ (sign_text how ++ (decimal n ++ rest)))) ≡ Ok (test.Compare t how n, rest)
unfolding test_at comparing_at
comparing_again t how n rest fits is apart =
    let number : number_in 0 (2 ^ 64 - 1) (32 ∷ (decimal n ++ rest)) ≡ Ok (n, rest) =
    in_space 0 (2 ^ 64 - 1) (decimal n ++ rest) ∙ in_again 0 (2 ^ 64 - 1) n rest is (omega (arith, is.high_is)) apart in
    rw (
      term_named t (sign_text how ++ (decimal n ++ rest)),
      term_again t (sign_text how ++ (decimal n ++ rest)) fits,
      comparison_again how (decimal n ++ rest),
      number,
    ) refl

-- what is asked of a part
null_again : (p : Part) (rest : List ℕ) → is_apart rest ≡ true →
    asked_at p (codes " is null" ++ rest) ≡ Ok (test.Null p, rest)
unfolding asked_at is_at
null_again p rest apart =
    let more = 32 ∷ (codes "null" ++ rest) in
    let asked : after_word (codes "is") (32 ∷ (codes "is" ++ more)) ≡ Some more =
    word_space (codes "is") (codes "is" ++ more) ∙ same_word (codes "is") more refl refl refl in
    let null : after_word (codes "null") more ≡ Some rest =
    word_space (codes "null") (codes "null" ++ rest) ∙ same_word (codes "null") rest refl apart refl in
    rw (asked, null) refl

absent_again : (p : Part) (rest : List ℕ) → is_apart rest ≡ true →
    asked_at p (codes " is absent" ++ rest) ≡ Ok (test.Absent p, rest)
unfolding asked_at is_at
absent_again p rest apart =
    let more = 32 ∷ (codes "absent" ++ rest) in
    let asked : after_word (codes "is") (32 ∷ (codes "is" ++ more)) ≡ Some more =
    word_space (codes "is") (codes "is" ++ more) ∙ same_word (codes "is") more refl refl refl in
    let other : after_word (codes "null") more ≡ None =
    word_space (codes "null") (codes "absent" ++ rest) ∙ other_word (codes "absent") (codes "null") rest refl apart refl in
    let absent : word_expected (codes "absent") more ≡ Ok rest = word_is_there (codes "absent") more rest
    (word_space (codes "absent") (codes "absent" ++ rest) ∙ same_word (codes "absent") rest refl apart refl) in
    rw (asked, other, absent) refl

equal_again : (p : Part) (text rest : List ℕ) → IsText text →
    asked_at p (codes " = " ++ (quoted_text text ++ rest)) ≡ Ok (test.Equal p text, rest)
unfolding asked_at equal_at after_word word_at sign_expected after_sign
equal_again p text rest is =
    rw (text_space (quoted_text text ++ rest) ∙ text_again text rest is) refl

begins_again : (p : Part) (text rest : List ℕ) → IsText text →
    asked_at p (codes " begins " ++ (quoted_text text ++ rest)) ≡ Ok (test.Begins p text, rest)
unfolding asked_at begins_at after_word word_at behind_word
begins_again p text rest is =
    rw (text_space (quoted_text text ++ rest) ∙ text_again text rest is) refl

has_again : (p : Part) (text rest : List ℕ) → IsText text →
    asked_at p (codes " has " ++ (quoted_text text ++ rest)) ≡ Ok (test.Has p text, rest)
unfolding asked_at has_at after_word word_at behind_word
has_again p text rest is =
    rw (text_space (quoted_text text ++ rest) ∙ text_again text rest is) refl

-- a test of a part, of which what is asked is read
of_part : (p : Part) (rest : List ℕ) (answer : Read Test) → FitsPart IsText p → asked_at p (32 ∷ rest) ≡ answer →
    test_at (part_text p ++ 32 ∷ rest) ≡ answer
unfolding test_at
of_part p rest answer fits asked = rw (part_named p 32 rest refl, part_again p (32 ∷ rest) fits refl) asked

pub test_again : (t : Test) (rest : List ℕ) → FitsTest IsText t → is_apart rest ≡ true →
    test_at (test_text t ++ rest) ≡ Ok (t, rest)
unfolding test_text
test_again (test.Null p) rest fits apart =
    ap test_at (append_assoc (part_text p) (codes " is null") rest)
    ∙ of_part p (codes "is null" ++ rest) _ fits (null_again p rest apart)
test_again (test.Absent p) rest fits apart =
    ap test_at (append_assoc (part_text p) (codes " is absent") rest)
    ∙ of_part p (codes "is absent" ++ rest) _ fits (absent_again p rest apart)
test_again (test.Equal p text) rest fits apart =
    ap test_at (append_assoc (part_text p) (codes " = " ++ quoted_text text) rest)
    ∙ of_part p (codes "= " ++ (quoted_text text ++ rest)) _ fits.0 (equal_again p text rest fits.1)
test_again (test.Begins p text) rest fits apart =
    ap test_at (append_assoc (part_text p) (codes " begins " ++ quoted_text text) rest)
    ∙ of_part p (codes "begins " ++ (quoted_text text ++ rest)) _ fits.0 (begins_again p text rest fits.1)
test_again (test.Has p text) rest fits apart =
    ap test_at (append_assoc (part_text p) (codes " has " ++ quoted_text text) rest)
    ∙ of_part p (codes "has " ++ (quoted_text text ++ rest)) _ fits.0 (has_again p text rest fits.1)
test_again (test.Compare t how n) rest fits apart =
    let regrouped : (term_text t ++ (comparison_text how ++ decimal n)) ++ rest
    ≡ term_text t ++ (32 ∷ (sign_text how ++ (decimal n ++ rest))) =
    append_assoc (term_text t) (comparison_text how ++ decimal n) rest
    ∙ ap (λ (m : List ℕ). term_text t ++ m) (append_assoc (comparison_text how) (decimal n) rest
    ∙ ap (λ (s : List ℕ). s ++ (decimal n ++ rest)) (after_space how)) in
    ap test_at regrouped ∙ comparing_again t how n rest fits.0 fits.1 apart

layout_space : (layout : Option Layout) (text : List ℕ) → layout_term_at layout (32 ∷ text) ≡ layout_term_at layout text
unfolding layout_term_at behind_word word_at unexpected
layout_space (Some layout) text = refl
layout_space None text = refl

term_space : (text : List ℕ) → term_at (32 ∷ text) ≡ term_at text
unfolding term_at after_word word_at behind_word
term_space text = rw (layout_space (layout_named (word_at text)) text) refl

comparing_space : (text : List ℕ) → comparing_at (32 ∷ text) ≡ comparing_at text
unfolding comparing_at
comparing_space text = rw (term_space text) refl

pub test_space : (text : List ℕ) → test_at (32 ∷ text) ≡ test_at text
unfolding test_at
test_space text = rw (named_space text, part_space text, comparing_space text) refl

-- a test begins with a word that is not `not`, and with no parenthesis
pub record BeginsTest (text : List ℕ) : Type 0 where
  pub no_not : after_word (codes "not") text ≡ None
  pub no_sign : after_sign (codes "(") text ≡ None

part_begins : (p : Part) (rest : List ℕ) → BeginsTest (part_text p ++ 32 ∷ rest)
unfolding after_word word_at after_sign
part_begins part.Value rest = record { no_not = refl; no_sign = refl }
part_begins part.Key rest = record { no_not = refl; no_sign = refl }
part_begins (part.Header name) rest = record { no_not = refl; no_sign = refl }

term_begins : (t : Term) (rest : List ℕ) → BeginsTest (term_text t ++ 32 ∷ rest)
unfolding term_text after_word word_at after_sign
term_begins (term.Length p) rest = record { no_not = refl; no_sign = refl }
term_begins (term.Number Byte p n) rest = record { no_not = refl; no_sign = refl }
term_begins (term.Number U16Be p n) rest = record { no_not = refl; no_sign = refl }
term_begins (term.Number U32Be p n) rest = record { no_not = refl; no_sign = refl }
term_begins (term.Number U64Be p n) rest = record { no_not = refl; no_sign = refl }
term_begins (term.Number U16Le p n) rest = record { no_not = refl; no_sign = refl }
term_begins (term.Number U32Le p n) rest = record { no_not = refl; no_sign = refl }
term_begins (term.Number U64Le p n) rest = record { no_not = refl; no_sign = refl }
term_begins (term.Decimal p n count) rest = record { no_not = refl; no_sign = refl }
term_begins term.Offset rest = record { no_not = refl; no_sign = refl }
term_begins term.Timestamp rest = record { no_not = refl; no_sign = refl }
term_begins term.Partition rest = record { no_not = refl; no_sign = refl }
term_begins term.Headers rest = record { no_not = refl; no_sign = refl }

pub test_begins : (t : Test) (rest : List ℕ) → BeginsTest (test_text t ++ rest)
unfolding test_text
test_begins (test.Null p) rest =
    rw (append_assoc (part_text p) (codes " is null") rest) (part_begins p (codes "is null" ++ rest))
test_begins (test.Absent p) rest =
    rw (append_assoc (part_text p) (codes " is absent") rest) (part_begins p (codes "is absent" ++ rest))
test_begins (test.Equal p text) rest =
    rw (append_assoc (part_text p) (codes " = " ++ quoted_text text) rest)
    (part_begins p (codes "= " ++ (quoted_text text ++ rest)))
test_begins (test.Begins p text) rest =
    rw (append_assoc (part_text p) (codes " begins " ++ quoted_text text) rest)
    (part_begins p (codes "begins " ++ (quoted_text text ++ rest)))
test_begins (test.Has p text) rest =
    rw (append_assoc (part_text p) (codes " has " ++ quoted_text text) rest)
    (part_begins p (codes "has " ++ (quoted_text text ++ rest)))
test_begins (test.Compare t how n) rest =
    rw (
      append_assoc (term_text t) (comparison_text how ++ decimal n) rest,
      append_assoc (comparison_text how) (decimal n) rest,
      after_space how,
    )
    (term_begins t (sign_text how ++ (decimal n ++ rest)))
