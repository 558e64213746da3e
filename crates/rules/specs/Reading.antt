-- Which rules a text has, or why it is refused.
use Rattle.std.specs.Prelude.{ℕ, zero, suc, ◌+◌, ◌-◌, ◌^◌, Bool, ◌||◌, ◌==◌, nat_lt, if◌then◌else◌, List, [], ◌∷◌, ◌++◌}
use Rattle.std.specs.Prelude.{length, Option, Some, None, Result, Ok, Err, codes}
use Rattle.std.specs.{List.slice_split, Str.bytes_eq}
use Rattle.rules.specs.declared.{rule.Part.Part, rule.Layout.Layout, rule.Term.Term, rule.Comparison.Comparison}
use Rattle.rules.specs.declared.{rule.Test.Test, rule.Cut.Cut, rule.Output.Output, rule.AddedHeader.AddedHeader}
use Rattle.rules.specs.declared.{rule.Action.Action, level.Level.Level, fault.LineFault.LineFault}
use Rattle.rules.specs.declared.{fault.RuleFault.RuleFault}
use Rattle.rules.specs.declared.limits.TheConstants.{MAX_RULES, MAX_STEPS, MAX_PLACE, MAX_DIGITS, MAX_OUTPUT, MAX_HASHED}
use Rattle.rules.specs.declared.limits.TheConstants.{DROP_CODE}
use Rattle.rules.specs.declared.rule.Part.TheVariants as part
use Rattle.rules.specs.declared.rule.Layout.TheVariants.{Byte, U16Be, U32Be, U64Be, U16Le, U32Le, U64Le}
use Rattle.rules.specs.declared.rule.Term.TheVariants as term
use Rattle.rules.specs.declared.rule.Comparison.TheVariants as comparison
use Rattle.rules.specs.declared.rule.Test.TheVariants as test
use Rattle.rules.specs.declared.rule.Output.TheVariants as output
use Rattle.rules.specs.declared.rule.Action.TheVariants as action
use Rattle.rules.specs.declared.level.Level.TheVariants as level
use Rattle.rules.specs.declared.fault.LineFault.TheVariants as fault
use Rattle.rules.specs.declared.fault.RuleFault.TheVariants as rule_fault
use Rattle.rules.specs.Formulas.{Formula, Single, Negated, Both, Either}
use Rattle.rules.specs.Lines.{Line}
use Rattle.rules.specs.Faults.{spot_at, at_line}
use Rattle.rules.specs.Scanning.{Read, ◌>>=◌, on_there, skipped, is_end, unexpected, word_at, after_word, after_sign}
use Rattle.rules.specs.Scanning.{behind_word, word_expected, sign_expected, is_number, number_in, text_at}

-- ---- parts and terms

-- a word that a part begins with
abbrev pub names_part : List ℕ → Bool
names_part word = bytes_eq word (codes "value") || (bytes_eq word (codes "key") || bytes_eq word (codes "header"))

-- the part at the front
unfoldable pub part_at : List ℕ → Read Part
part_at text =
    on_there (after_word (codes "value") text) (λ rest. Ok (part.Value, rest))
    (on_there (after_word (codes "key") text) (λ rest. Ok (part.Key, rest)) (do
      rest ← word_expected (codes "header") text
      name ← text_at rest
      Ok (part.Header name.0, name.1)))

-- the layout that a word names
abbrev pub layout_named : List ℕ → Option Layout
layout_named word =
    if bytes_eq word (codes "byte") then Some Byte else
    if bytes_eq word (codes "u16be") then Some U16Be else
    if bytes_eq word (codes "u32be") then Some U32Be else
    if bytes_eq word (codes "u64be") then Some U64Be else
    if bytes_eq word (codes "u16le") then Some U16Le else
    if bytes_eq word (codes "u32le") then Some U32Le else
    if bytes_eq word (codes "u64le") then Some U64Le else None

-- `(PART` of a term
unfoldable pub argument_at : List ℕ → Read Part
argument_at text = do
  rest ← sign_expected (codes "(") text
  part_at rest

-- `, PLACE` of a term
unfoldable pub place_at : List ℕ → Read ℕ
place_at text = do
  rest ← sign_expected (codes ",") text
  number_in 0 MAX_PLACE rest

-- `, COUNT` of a term
unfoldable pub count_at : List ℕ → Read ℕ
count_at text = do
  rest ← sign_expected (codes ",") text
  number_in 1 MAX_DIGITS rest

-- `(PART)` after `length`
unfoldable pub length_at : List ℕ → Read Term
length_at text = do
  p ← argument_at text
  rest ← sign_expected (codes ")") p.1
  Ok (term.Length p.0, rest)

-- `(PART, PLACE)` after a layout
unfoldable pub number_term_at : Layout → List ℕ → Read Term
number_term_at layout text = do
  p ← argument_at text
  at ← place_at p.1
  rest ← sign_expected (codes ")") at.1
  Ok (term.Number layout p.0 at.0, rest)

-- `(PART, PLACE, COUNT)` after `decimal`
unfoldable pub decimal_at : List ℕ → Read Term
decimal_at text = do
  p ← argument_at text
  at ← place_at p.1
  count ← count_at at.1
  rest ← sign_expected (codes ")") count.1
  Ok (term.Decimal p.0 at.0 count.0, rest)

-- a term of a layout, if a word names one
unfoldable pub layout_term_at : Option Layout → List ℕ → Read Term
layout_term_at (Some layout) text = number_term_at layout (behind_word text)
layout_term_at None text = Err (unexpected text)

-- the term at the front
unfoldable pub term_at : List ℕ → Read Term
term_at text =
    on_there (after_word (codes "length") text) length_at
    (on_there (after_word (codes "decimal") text) decimal_at
    (on_there (after_word (codes "offset") text) (λ rest. Ok (term.Offset, rest))
    (on_there (after_word (codes "timestamp") text) (λ rest. Ok (term.Timestamp, rest))
    (on_there (after_word (codes "partition") text) (λ rest. Ok (term.Partition, rest))
    (on_there (after_word (codes "headers") text) (λ rest. Ok (term.Headers, rest))
    (layout_term_at (layout_named (word_at text)) text))))))

-- ---- tests

-- the comparison at the front
unfoldable pub comparison_at : List ℕ → Read Comparison
comparison_at text =
    on_there (after_sign (codes "=") text) (λ rest. Ok (comparison.Equal, rest))
    (on_there (after_sign (codes "!=") text) (λ rest. Ok (comparison.NotEqual, rest))
    (on_there (after_sign (codes "<=") text) (λ rest. Ok (comparison.LessOrEqual, rest))
    (on_there (after_sign (codes "<") text) (λ rest. Ok (comparison.Less, rest))
    (on_there (after_sign (codes ">=") text) (λ rest. Ok (comparison.GreaterOrEqual, rest))
    (on_there (after_sign (codes ">") text) (λ rest. Ok (comparison.Greater, rest))
    (Err (unexpected text)))))))

-- `TERM = NUMBER` and its kin
unfoldable pub comparing_at : List ℕ → Read Test
comparing_at text = do
  t ← term_at text
  how ← comparison_at t.1
  n ← number_in 0 (2 ^ 64 - 1) how.1
  Ok (test.Compare t.0 how.0 n.0, n.1)

-- `null` or `absent` after `PART is`
unfoldable pub is_at : Part → List ℕ → Read Test
is_at p text = on_there (after_word (codes "null") text) (λ rest. Ok (test.Null p, rest)) (do
  rest ← word_expected (codes "absent") text
  Ok (test.Absent p, rest))

-- `TEXT` after `PART =`
unfoldable pub equal_at : Part → List ℕ → Read Test
equal_at p text = do
  t ← text_at text
  Ok (test.Equal p t.0, t.1)

-- `TEXT` after `PART begins`
unfoldable pub begins_at : Part → List ℕ → Read Test
begins_at p text = do
  t ← text_at text
  Ok (test.Begins p t.0, t.1)

-- `TEXT` after `PART has`
unfoldable pub has_at : Part → List ℕ → Read Test
has_at p text = do
  t ← text_at text
  Ok (test.Has p t.0, t.1)

-- what is asked of a part
unfoldable pub asked_at : Part → List ℕ → Read Test
asked_at p text =
    on_there (after_word (codes "is") text) (is_at p)
    (on_there (after_word (codes "begins") text) (begins_at p)
    (on_there (after_word (codes "has") text) (has_at p) (do
      rest ← sign_expected (codes "=") text
      equal_at p rest)))

-- the test at the front
unfoldable pub test_at : List ℕ → Read Test
test_at text = if names_part (word_at text) then (do
  p ← part_at text
  asked_at p.0 p.1) else comparing_at text

-- ---- conditions

-- two conditions with a word between them, or the first alone
abbrev pub joined : (word : List ℕ) → (Formula → Formula → Formula) → (second : List ℕ → Read Formula) →
    Formula × List ℕ → Read Formula
joined word join second first = on_there (after_word word first.1) (λ rest. do
  other ← second rest
  Ok (join first.0 other.0, other.1)) (Ok first)

-- a condition in parentheses, of which the first is read
abbrev pub enclosed_at : (whole : List ℕ → Read Formula) → List ℕ → Read Formula
enclosed_at whole text = do
  inner ← whole text
  rest ← sign_expected (codes ")") inner.1
  Ok (inner.0, rest)

-- a test
abbrev pub single_at : List ℕ → Read Formula
single_at text = do
  t ← test_at text
  Ok (Single t.0, t.1)

-- `not` and what it denies
abbrev pub negated_at : (one : List ℕ → Read Formula) → List ℕ → Read Formula
negated_at one text = do
  inner ← one text
  Ok (Negated inner.0, inner.1)

-- `not` and what it denies, a condition in parentheses, or a test
abbrev pub one_at : (one whole : List ℕ → Read Formula) → List ℕ → Read Formula
one_at one whole text =
    on_there (after_word (codes "not") text) (negated_at one)
    (on_there (after_sign (codes "(") text) (enclosed_at whole) (single_at text))

-- The condition at the front, read in so many steps at most: conditions with `or` between them, each of which is
-- conditions with `and` between them, each of which has none but in parentheses. Each step down is one.
unfoldable pub condition_at : (steps : ℕ) → Level → List ℕ → Read Formula
condition_at zero what text = Err (fault.Deep (length (skipped text)))
condition_at (suc steps) level.Any text =
    condition_at steps level.All text >>= joined (codes "or") Either (condition_at steps level.Any)
condition_at (suc steps) level.All text =
    condition_at steps level.One text >>= joined (codes "and") Both (condition_at steps level.All)
condition_at (suc steps) level.One text = one_at (condition_at steps level.One) (condition_at steps level.Any) text

-- ---- actions

-- `CODE` after `drop`, or none
unfoldable pub drop_at : List ℕ → Read Action
drop_at text = if is_number (word_at text) then (do
  code ← number_in 1 (2 ^ 64 - 1) text
  Ok (action.Drop code.0, code.1)) else Ok (action.Drop DROP_CODE, text)

-- `N` after `tombstone`
unfoldable pub tombstone_at : List ℕ → Read Action
tombstone_at text = do
  n ← number_in 0 MAX_OUTPUT text
  Ok (action.Tombstone n.0, n.1)

-- `(PART) % COUNT` after `hash`
unfoldable pub hashed_at : List ℕ → Read Output
hashed_at text = do
  p ← argument_at text
  closed ← sign_expected (codes ")") p.1
  rest ← sign_expected (codes "%") closed
  n ← number_in 1 MAX_HASHED rest
  Ok (output.Hashed p.0 n.0, n.1)

-- `[FROM..` of a cut
unfoldable pub from_at : List ℕ → Read ℕ
from_at text = do
  start ← sign_expected (codes "[") text
  from ← number_in 0 MAX_PLACE start
  rest ← sign_expected (codes "..") from.1
  Ok (from.0, rest)

-- `TO]` of a cut that begins at a place
unfoldable pub to_at : ℕ → List ℕ → Read ℕ
to_at from text = do
  to ← number_in from MAX_PLACE text
  rest ← sign_expected (codes "]") to.1
  Ok (to.0, rest)

-- `TO]` or `]` of a cut that begins at a place
unfoldable pub cut_end_at : ℕ → List ℕ → Read Cut
cut_end_at from text = on_there (after_sign (codes "]") text) (λ rest. Ok (record { from = from; to = None }, rest)) (do
  to ← to_at from text
  Ok (record { from = from; to = Some to.0 }, to.1))

-- `PART[FROM..TO]` after `output N`
unfoldable pub cut_at : ℕ → List ℕ → Read Output
cut_at n text = do
  p ← part_at text
  from ← from_at p.1
  cut ← cut_end_at from.0 from.1
  Ok (output.Cut n p.0 cut.0, cut.1)

-- `value[FROM..TO] = TEXT` after `output N with`
unfoldable pub changed_at : ℕ → List ℕ → Read Output
changed_at n text = do
  start ← word_expected (codes "value") text
  from ← from_at start
  to ← to_at from.0 from.1
  rest ← sign_expected (codes "=") to.1
  t ← text_at rest
  Ok (output.Changed n from.0 to.0 t.0, t.1)

-- what an output partition gets
unfoldable pub form_at : ℕ → List ℕ → Read Output
form_at n text = on_there (after_word (codes "with") text) (changed_at n)
    (if names_part (word_at text) then cut_at n text else Ok (output.Record n, text))

-- `hash(PART) % COUNT`, or `N` and what it gets
unfoldable pub output_at : List ℕ → Read Output
output_at text = on_there (after_word (codes "hash") text) hashed_at (do
  n ← number_in 0 MAX_OUTPUT text
  form_at n.0 n.1)

-- `header TEXT = TEXT` after `and`
unfoldable pub header_at : List ℕ → Read AddedHeader
header_at text = do
  start ← word_expected (codes "header") text
  key ← text_at start
  rest ← sign_expected (codes "=") key.1
  value ← text_at rest
  Ok (record { key = key.0; value = value.0 }, value.1)

-- the header that is added, if one is
unfoldable pub added_at : List ℕ → Read (Option AddedHeader)
added_at text = on_there (after_word (codes "and") text) (λ rest. do
  h ← header_at rest
  Ok (Some h.0, h.1)) (Ok (None, text))

-- what is output, and the header that is added
unfoldable pub outputs_at : List ℕ → Read Action
outputs_at text = do
  o ← output_at text
  h ← added_at o.1
  Ok (action.Output o.0 h.0, h.1)

-- the action at the front
unfoldable pub action_at : List ℕ → Read Action
action_at text =
    on_there (after_word (codes "drop") text) drop_at
    (on_there (after_word (codes "tombstone") text) tombstone_at (do
      rest ← word_expected (codes "output") text
      outputs_at rest))

-- ---- rules

-- the condition after `when`, if there is one
unfoldable pub when_at : List ℕ → Read (Option Formula)
when_at text = on_there (after_word (codes "when") text) (λ rest. do
  c ← condition_at MAX_STEPS level.Any rest
  Ok (Some c.0, c.1)) (Ok (None, text))

-- the rule of a whole line
unfoldable pub rule_of : List ℕ → Result Line LineFault
rule_of text = do
  a ← action_at text
  c ← when_at a.1
  if is_end (skipped c.1) then Ok (record { action = a.0; condition = c.0 }) else Err (unexpected c.1)

-- a rule, if there is one
abbrev pub some_rule : Result Line LineFault → Result (Option Line) LineFault
some_rule (Ok line) = Ok (Some line)
some_rule (Err f) = Err f

-- the rule of a line; none where nothing but a comment stands there
unfoldable pub rule_in : List ℕ → Result (Option Line) LineFault
rule_in text = if is_end (skipped text) then Ok None else some_rule (rule_of text)

-- ---- texts

-- a line feed
abbrev pub is_line_feed : ℕ → Bool
is_line_feed byte = byte == 10

-- rules before those of the lines after them, or the fault of these lines
abbrev pub before_rules : List Line → Result (List Line) RuleFault → Result (List Line) RuleFault
before_rules rules (Ok others) = Ok (rules ++ others)
before_rules rules (Err f) = Err f

-- A line after so many rules: its own rule and those of the lines after it. There are MAX_RULES rules at most.
abbrev pub with_line : (number : ℕ) → (line : List ℕ) → (count : ℕ) → Result (Option Line) LineFault →
    (ℕ → Result (List Line) RuleFault) → Result (List Line) RuleFault
with_line number line count (Err f) later = Err (at_line number (length line) f)
with_line number line count (Ok None) later = later count
with_line number line count (Ok (Some rule)) later =
    if nat_lt count MAX_RULES then before_rules (rule ∷ []) (later (count + 1))
    else Err (rule_fault.Many (spot_at number (length line) (length (skipped line))))

-- the rules of lines, the first with this number and after so many rules, or the fault of the lowest faulty line
abbrev pub rules_in : (number count : ℕ) → List (List ℕ) → Result (List Line) RuleFault
rules_in number count [] = Ok []
rules_in number count (line ∷ lines) =
    with_line number line count (rule_in line) (λ count. rules_in (number + 1) count lines)

-- the rules of a text, or its first fault; a line ends at a line feed
unfoldable pub rules_of : List ℕ → Result (List Line) RuleFault
rules_of text = rules_in 1 0 (slice_split is_line_feed text)
