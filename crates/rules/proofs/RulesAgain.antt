-- Rules are read again as they were printed.
use Rattle.std.proofs.Common.{◌≡◌, ℕ, ◌+◌, ◌≤◌, Bool, true, false, not, ◌==◌, List, [], ◌∷◌, ◌++◌, length}
use Rattle.std.proofs.Common.{Option, Some, None, Ok, refl, sym, ap, ◌∙◌, arith, append_assoc}
use Rattle.std.specs.Prelude.{codes}
use Rattle.std.specs.{List.list_all, List.slice_split, List.AllByRecursion}
use Rattle.std.proofs.lemmas.Bool.{and_parts, lt-ltb}
use Rattle.std.proofs.lemmas.List.{append-nil}
use Rattle.rules.specs.declared.rule.Action.{Action}
use Rattle.rules.specs.declared.rule.Output.TheVariants as output
use Rattle.rules.specs.declared.rule.Action.TheVariants as action
use Rattle.rules.specs.declared.level.Level.TheVariants as level
use Rattle.rules.specs.declared.limits.TheConstants.{MAX_RULES, MAX_STEPS}
use Rattle.rules.specs.Formulas.{Formula}
use Rattle.rules.specs.Lines.{Line}
use Rattle.rules.specs.Limits.{IsText, FitsWhen, FitsLine, AreRules}
use Rattle.rules.specs.Scanning.{skipped, is_end, word_at, behind_word, after_word}
use Rattle.rules.specs.Reading.{when_at, rule_of, rule_in, is_line_feed}
use Rattle.rules.specs.Reading.{rules_in, rules_of, condition_at}
use Rattle.rules.specs.Writing.{output_text, action_text, when_text, rule_text, condition_text, text_of}
use Rattle.rules.proofs.{ConditionsAgain.Ends, ConditionsAgain.space, ConditionsAgain.condition_again}
use Rattle.rules.proofs.{ActionsAgain.EndsAction, ActionsAgain.action_again, PlainRules.IsPlain, PlainRules.rule_plain}

-- what follows an action in a line
when_ends : (c : Option Formula) → EndsAction (when_text c)
unfolding after_word word_at
when_ends None = record { apart = refl; no_with = refl; no_part = refl; no_and = refl }
when_ends (Some c) = record { apart = refl; no_with = refl; no_part = refl; no_and = refl }

line_ends : Ends level.Any []
unfolding after_word word_at
line_ends = (refl, (refl, refl))

when_is : (text : List ℕ) → after_word (codes "when") (codes " when " ++ text) ≡ Some (32 ∷ text)
unfolding after_word word_at behind_word
when_is text = refl

no_when : after_word (codes "when") [] ≡ None
unfolding after_word word_at
no_when = refl

when_again : (c : Option Formula) → FitsWhen IsText c → when_at (when_text c) ≡ Ok (c, [])
unfolding when_at
when_again None fits = rw no_when refl
when_again (Some c) fits =
    let text = condition_text level.Any c in
    let whole : condition_at MAX_STEPS level.Any (32 ∷ text) ≡ Ok (c, []) =
    space MAX_STEPS level.Any text ∙ ap (condition_at MAX_STEPS level.Any) (sym (append-nil text))
    ∙ condition_again MAX_STEPS level.Any c [] fits line_ends in
    rw (when_is text, whole) refl

rule_again : (line : Line) → FitsLine IsText line → rule_of (rule_text line) ≡ Ok line
unfolding rule_of rule_text
rule_again line fits =
    rw (
      action_again line.action (when_text line.condition) fits.action (when_ends line.condition),
      when_again line.condition fits.condition,
    ) refl

-- a rule is no comment
some_action : (a : Action) (rest : List ℕ) → is_end (skipped (action_text a ++ rest)) ≡ false
unfolding action_text output_text
some_action (action.Drop code) rest = refl
some_action (action.Tombstone n) rest = refl
some_action (action.Output (output.Record n) added) rest = refl
some_action (action.Output (output.Hashed p n) added) rest = refl
some_action (action.Output (output.Cut n p cut) added) rest = refl
some_action (action.Output (output.Changed n from to text) added) rest = refl

some_text : (line : Line) → is_end (skipped (rule_text line)) ≡ false
unfolding rule_text
some_text line = some_action line.action (when_text line.condition)

line_again : (line : Line) → FitsLine IsText line → rule_in (rule_text line) ≡ Ok (Some line)
unfolding rule_in
line_again line fits = rw (some_text line, rule_again line fits) refl

-- ---- lines

split_step : (x : ℕ) (xs ys : List ℕ) (b : Bool) → (x == 10) ≡ b → not (x == 10) ≡ true →
    slice_split is_line_feed (xs ++ 10 ∷ ys) ≡ xs ∷ slice_split is_line_feed ys →
    slice_split is_line_feed (x ∷ (xs ++ 10 ∷ ys)) ≡ (x ∷ xs) ∷ slice_split is_line_feed ys
split_step x xs ys true e isnt rest = let bad : false ≡ true = rw e at isnt in absurd cc
split_step x xs ys false e isnt rest = rw (e, rest) refl

-- a text before a line feed is a line
split_first : (xs ys : List ℕ) → IsPlain xs → slice_split is_line_feed (xs ++ 10 ∷ ys) ≡ xs ∷ slice_split is_line_feed ys
split_first [] ys plain = refl
split_first (x ∷ xs) ys plain =
    let parts = and_parts (not (is_line_feed x)) (list_all (λ byte. not (is_line_feed byte)) xs) plain in
    split_step x xs ys (x == 10) refl parts.0 (split_first xs ys parts.1)

empty_line : rule_in [] ≡ Ok None
unfolding rule_in
empty_line = refl

lines_again : (lines : List Line) (number count : ℕ) → AllByRecursion (FitsLine IsText) lines →
    count + length lines ≤ MAX_RULES → rules_in number count (slice_split is_line_feed (text_of lines)) ≡ Ok lines
lines_again [] number count each few = rw empty_line refl
lines_again (line ∷ lines) number count each few =
    let split : slice_split is_line_feed ((rule_text line ++ 10 ∷ []) ++ text_of lines)
    ≡ rule_text line ∷ slice_split is_line_feed (text_of lines) =
    ap (slice_split is_line_feed) (append_assoc (rule_text line) (10 ∷ []) (text_of lines))
    ∙ split_first (rule_text line) (text_of lines) (rule_plain line each.0) in
    let room = lt-ltb count MAX_RULES (omega arith) in
    let later = lines_again lines (number + 1) (count + 1) each.1 (omega arith) in
    rw (split, line_again line each.0, room, later) refl

pub rules_again : (lines : List Line) → AreRules IsText lines → rules_of (text_of lines) ≡ Ok lines
unfolding rules_of
rules_again lines are = lines_again lines 1 0 are.each (omega (arith, are.few))
