-- What is printed of a rule has no line feed.
use Rattle.std.proofs.Common.{◌≡◌, ℕ, ◌/◌, ◌%◌, ◌^◌, ◌<◌, Bool, true, false, not, ◌&&◌, ◌||◌, ◌==◌, nat_le}
use Rattle.std.proofs.Common.{nat_lt, List, [], ◌∷◌, ◌++◌, Option, Some, None, refl, ap, subst, ◌∙◌, arith, decimal}
use Rattle.std.specs.Prelude.{codes}
use Rattle.std.specs.{List.list_all, List.flat_map, List.AllByRecursion, Str.Parse.AllDigits, Char.digit_value}
use Rattle.std.specs.{Char.digit_char}
use Rattle.std.proofs.lemmas.Bool.{and_from, ne_eqb}
use Rattle.std.proofs.lemmas.List.Folds.{list_all-append}
use Rattle.std.proofs.{lemmas.Fmt.decimal_is_IsNumeral, lemmas.Str.Parse.digit_from_value, lemmas.Str.digit_value-digit_char}
use Rattle.rules.specs.declared.{rule.Part.Part, rule.Layout.Layout, rule.Term.Term, rule.Comparison.Comparison}
use Rattle.rules.specs.declared.{rule.Test.Test, rule.Output.Output, rule.AddedHeader.AddedHeader, rule.Action.Action}
use Rattle.rules.specs.declared.level.Level.{Level}
use Rattle.rules.specs.declared.rule.Part.TheVariants as part
use Rattle.rules.specs.declared.rule.Layout.TheVariants.{Byte, U16Be, U32Be, U64Be, U16Le, U32Le, U64Le}
use Rattle.rules.specs.declared.rule.Term.TheVariants as term
use Rattle.rules.specs.declared.rule.Comparison.TheVariants as comparison
use Rattle.rules.specs.declared.rule.Test.TheVariants as test
use Rattle.rules.specs.declared.rule.Output.TheVariants as output
use Rattle.rules.specs.declared.rule.Action.TheVariants as action
use Rattle.rules.specs.declared.level.Level.TheVariants as level
use Rattle.rules.specs.Formulas.{Formula, Single, Negated, Both, Either}
use Rattle.rules.specs.Lines.{Line}
use Rattle.rules.specs.Limits.{IsText, FitsPart, FitsTerm, FitsTest, HasFitting, FitsEnd, FitsOutput, FitsAdded}
use Rattle.rules.specs.Limits.{FitsAction, FitsWhen, FitsLine}
use Rattle.rules.specs.Reading.{is_line_feed}
use Rattle.rules.specs.Writing.{byte_text, quoted_text, part_text, layout_word, next_text, term_text}
use Rattle.rules.specs.Writing.{comparison_text, test_text, encloses_or, encloses_and, open_text, close_text}
use Rattle.rules.specs.Writing.{condition_text, from_text, to_text, record_text, output_text, added_text, action_text}
use Rattle.rules.specs.Writing.{when_text, rule_text}

-- no byte is a line feed
abbrev pub IsPlain : List ℕ → Type 0
IsPlain text = list_all (λ byte. not (is_line_feed byte)) text ≡ true

joined : (xs ys : List ℕ) → IsPlain xs → IsPlain ys → IsPlain (xs ++ ys)
joined xs ys one other = list_all-append (λ byte. not (is_line_feed byte)) xs ys ∙ and_from _ _ one other

digit_plain : (c : ℕ) → digit_value c < 10 → not (is_line_feed c) ≡ true
digit_plain c small =
    let range = digit_from_value c small in
    ap not (ne_eqb c 10 (λ e. omega (arith, range.0)))

digits_plain : (ds : List ℕ) → AllDigits 10 ds → IsPlain ds
digits_plain [] all = refl
digits_plain (c ∷ ds) all = and_from _ _ (digit_plain c all.0) (digits_plain ds all.1)

number_plain : (n : ℕ) → n < 2 ^ 64 → IsPlain (decimal n)
number_plain n small = digits_plain (decimal n) (decimal_is_IsNumeral n small).0.1

-- a hex digit is no line feed
hex_plain : (d : ℕ) → d < 16 → not (is_line_feed (digit_char d)) ≡ true
hex_plain d small = ap not (ne_eqb (digit_char d) 10 (λ e.
    let value : digit_value (digit_char d) ≡ d = digit_value-digit_char d (omega arith) in
    let other : digit_value (digit_char d) ≡ 36 = ap digit_value e in omega arith))

quote_plain : (byte : ℕ) → ((byte == 34) || (byte == 92)) ≡ true → not (is_line_feed byte) ≡ true
quote_plain byte q = ap not (ne_eqb byte 10 (λ e.
    let isnt : ((10 == 34) || (10 == 92)) ≡ true = subst (λ (b : ℕ). ((b == 34) || (b == 92)) ≡ true) e q in cc))

byte_plain : (byte : ℕ) (quote line tab printed : Bool) → byte < 256 → ((byte == 34) || (byte == 92)) ≡ quote →
    (byte == 10) ≡ line → (byte == 9) ≡ tab → (nat_le 32 byte && nat_lt byte 127) ≡ printed → IsPlain (byte_text byte)
byte_plain byte true true tab printed small q l t p =
    rw q (and_from (not (is_line_feed byte)) true (quote_plain byte q) refl)
byte_plain byte true false tab printed small q l t p = rw (q, l) refl
byte_plain byte false true tab printed small q l t p = rw (q, l) refl
byte_plain byte false false true printed small q l t p = rw (q, l, t) refl
byte_plain byte false false false true small q l t p = rw (q, l, t, p, l) refl
byte_plain byte false false false false small q l t p =
    rw (q, l, t, p, hex_plain (byte / 16) (omega arith), hex_plain (byte % 16) (omega arith)) refl

bytes_plain : (text : List ℕ) → AllByRecursion (λ byte. byte < 256) text → IsPlain (flat_map byte_text text)
bytes_plain [] all = refl
bytes_plain (byte ∷ text) all = joined (byte_text byte) (flat_map byte_text text)
    (byte_plain byte _ _ _ _ all.0 refl refl refl refl) (bytes_plain text all.1)

text_plain : (text : List ℕ) → IsText text → IsPlain (quoted_text text)
unfolding quoted_text
text_plain text is = joined (flat_map byte_text text) (34 ∷ []) (bytes_plain text is.bytes) refl

part_plain : (p : Part) → FitsPart IsText p → IsPlain (part_text p)
part_plain part.Value fits = refl
part_plain part.Key fits = refl
part_plain (part.Header name) fits = text_plain name fits

next_plain : (n : ℕ) → n < 2 ^ 64 → IsPlain (next_text n)
next_plain n small = number_plain n small

word_plain : (layout : Layout) → IsPlain (layout_word layout)
word_plain Byte = refl
word_plain U16Be = refl
word_plain U32Be = refl
word_plain U64Be = refl
word_plain U16Le = refl
word_plain U32Le = refl
word_plain U64Le = refl

term_plain : (t : Term) → FitsTerm IsText t → IsPlain (term_text t)
unfolding term_text
term_plain (term.Length p) fits = joined (part_text p) (codes ")") (part_plain p fits) refl
term_plain (term.Number layout p n) fits = joined (layout_word layout) _ (word_plain layout)
    (joined (part_text p) _ (part_plain p fits.0)
    (joined (next_text n) (codes ")") (next_plain n (omega (arith, fits.1.high_is))) refl))
term_plain (term.Decimal p n count) fits = joined (part_text p) _ (part_plain p fits.0)
    (joined (next_text n) _ (next_plain n (omega (arith, fits.1.0.high_is)))
    (joined (next_text count) (codes ")") (next_plain count (omega (arith, fits.1.1.high_is))) refl))
term_plain term.Offset fits = refl
term_plain term.Timestamp fits = refl
term_plain term.Partition fits = refl
term_plain term.Headers fits = refl

comparison_plain : (how : Comparison) → IsPlain (comparison_text how)
comparison_plain comparison.Equal = refl
comparison_plain comparison.NotEqual = refl
comparison_plain comparison.Less = refl
comparison_plain comparison.LessOrEqual = refl
comparison_plain comparison.Greater = refl
comparison_plain comparison.GreaterOrEqual = refl

test_plain : (t : Test) → FitsTest IsText t → IsPlain (test_text t)
unfolding test_text
test_plain (test.Null p) fits = joined (part_text p) _ (part_plain p fits) refl
test_plain (test.Absent p) fits = joined (part_text p) _ (part_plain p fits) refl
test_plain (test.Equal p text) fits = joined (part_text p) _ (part_plain p fits.0)
    (joined (codes " = ") (quoted_text text) refl (text_plain text fits.1))
test_plain (test.Begins p text) fits = joined (part_text p) _ (part_plain p fits.0)
    (joined (codes " begins ") (quoted_text text) refl (text_plain text fits.1))
test_plain (test.Has p text) fits = joined (part_text p) _ (part_plain p fits.0)
    (joined (codes " has ") (quoted_text text) refl (text_plain text fits.1))
test_plain (test.Compare t how n) fits = joined (term_text t) _ (term_plain t fits.0)
    (joined (comparison_text how) (decimal n) (comparison_plain how) (number_plain n (omega (arith, fits.1.high_is))))

open_plain : (b : Bool) → IsPlain (open_text b)
open_plain true = refl
open_plain false = refl

close_plain : (b : Bool) → IsPlain (close_text b)
close_plain true = refl
close_plain false = refl

condition_plain : (what : Level) (c : Formula) → HasFitting IsText c → IsPlain (condition_text what c)
unfolding condition_text
condition_plain what (Single t) fits = test_plain t fits
condition_plain what (Negated inner) fits =
    joined (codes "not ") (condition_text level.One inner) refl (condition_plain level.One inner fits)
condition_plain what (Both one other) fits = joined (open_text (encloses_and what)) _ (open_plain (encloses_and what))
    (joined (condition_text level.One one) _ (condition_plain level.One one fits.0)
    (joined (condition_text level.All other) _ (condition_plain level.All other fits.1) (close_plain (encloses_and what))))
condition_plain what (Either one other) fits = joined (open_text (encloses_or what)) _ (open_plain (encloses_or what))
    (joined (condition_text level.All one) _ (condition_plain level.All one fits.0)
    (joined (condition_text level.Any other) _ (condition_plain level.Any other fits.1) (close_plain (encloses_or what))))

from_plain : (from : ℕ) → from < 2 ^ 64 → IsPlain (from_text from)
from_plain from small = joined (decimal from) (codes "..") (number_plain from small) refl

to_plain : (from : ℕ) (to : Option ℕ) → FitsEnd from to → IsPlain (to_text to)
to_plain from (Some to) fits = joined (decimal to) (codes "]") (number_plain to (omega (arith, fits.high_is))) refl
to_plain from None fits = refl

record_plain : (n : ℕ) → n < 2 ^ 64 → IsPlain (record_text n)
record_plain n small = number_plain n small

output_plain : (o : Output) → FitsOutput IsText o → IsPlain (output_text o)
unfolding output_text
output_plain (output.Record n) fits = record_plain n (omega (arith, fits.high_is))
output_plain (output.Hashed p n) fits =
    joined (part_text p) _ (part_plain p fits.0) (number_plain n (omega (arith, fits.1.high_is)))
output_plain (output.Cut n p cut) fits = joined (record_text n) _ (record_plain n (omega (arith, fits.0.high_is)))
    (joined (part_text p) _ (part_plain p fits.1.0)
    (joined (from_text cut.from) (to_text cut.to) (from_plain cut.from (omega (arith, fits.1.1.from.high_is)))
    (to_plain cut.from cut.to fits.1.1.to)))
output_plain (output.Changed n from to text) fits =
    joined (record_text n) _ (record_plain n (omega (arith, fits.0.high_is)))
    (joined (from_text from) _ (from_plain from (omega (arith, fits.1.0.high_is)))
    (joined (to_text (Some to)) _ (to_plain from (Some to) fits.1.1.0) (text_plain text fits.1.1.1)))

added_plain : (added : Option AddedHeader) → FitsAdded IsText added → IsPlain (added_text added)
added_plain None fits = refl
added_plain (Some h) fits = joined (quoted_text h.key) _ (text_plain h.key fits.0) (text_plain h.value fits.1)

action_plain : (a : Action) → FitsAction IsText a → IsPlain (action_text a)
unfolding action_text
action_plain (action.Drop code) fits = number_plain code (omega (arith, fits.high_is))
action_plain (action.Tombstone n) fits = number_plain n (omega (arith, fits.high_is))
action_plain (action.Output o added) fits =
    joined (output_text o) (added_text added) (output_plain o fits.0) (added_plain added fits.1)

when_plain : (c : Option Formula) → FitsWhen IsText c → IsPlain (when_text c)
when_plain None fits = refl
when_plain (Some c) fits =
    joined (codes " when ") (condition_text level.Any c) refl (condition_plain level.Any c fits.tests)

pub rule_plain : (line : Line) → FitsLine IsText line → IsPlain (rule_text line)
unfolding rule_text
rule_plain line fits = joined (action_text line.action) (when_text line.condition) (action_plain line.action fits.action)
    (when_plain line.condition fits.condition)
