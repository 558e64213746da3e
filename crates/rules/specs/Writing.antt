-- The one printed form of rules.
use Rattle.std.specs.Prelude.{ℕ, ◌/◌, ◌%◌, Bool, true, false, ◌&&◌, ◌||◌, ◌==◌, nat_lt, nat_le, if◌then◌else◌}
use Rattle.std.specs.Prelude.{List, [], ◌∷◌, ◌++◌, Option, Some, None, codes, decimal}
use Rattle.std.specs.{List.flat_map, Char.digit_char}
use Rattle.rules.specs.declared.{rule.Part.Part, rule.Layout.Layout, rule.Term.Term, rule.Comparison.Comparison}
use Rattle.rules.specs.declared.{rule.Test.Test, rule.Cut.Cut, rule.Output.Output, rule.AddedHeader.AddedHeader, rule.Action.Action}
use Rattle.rules.specs.declared.level.Level.{Level}
use Rattle.rules.specs.declared.rule.Part.TheVariants as part
use Rattle.rules.specs.declared.rule.Layout.TheVariants.{Byte, U16Be, U32Be, U64Be, U16Le, U32Le, U64Le}
use Rattle.rules.specs.declared.rule.Term.TheVariants as term
use Rattle.rules.specs.declared.rule.Comparison.TheVariants as comparison
use Rattle.rules.specs.declared.rule.Test.TheVariants as test
use Rattle.rules.specs.declared.rule.Output.TheVariants as output
use Rattle.rules.specs.declared.rule.Action.TheVariants as action
use Rattle.rules.specs.declared.level.Level.TheVariants as level
use Rattle.rules.specs.Formulas.{Formula, Single, Negated, Both, Either}
use Rattle.rules.specs.Lines.{Line}

-- ---- texts

-- a byte of a text within quotes: `\"`, `\\`, `\n`, `\t`, other printed ASCII as it is, the others `\xHH`
abbrev pub byte_text : ℕ → List ℕ
byte_text byte =
    if (byte == 34) || (byte == 92) then 92 ∷ byte ∷ [] else
    if byte == 10 then 92 ∷ 110 ∷ [] else
    if byte == 9 then 92 ∷ 116 ∷ [] else
    if nat_le 32 byte && nat_lt byte 127 then byte ∷ []
    else 92 ∷ 120 ∷ digit_char (byte / 16) ∷ digit_char (byte % 16) ∷ []

-- a text in quotes
unfoldable pub quoted_text : List ℕ → List ℕ
quoted_text text = 34 ∷ (flat_map byte_text text ++ 34 ∷ [])

-- ---- parts and terms

abbrev pub part_text : Part → List ℕ
part_text part.Value = codes "value"
part_text part.Key = codes "key"
part_text (part.Header name) = codes "header " ++ quoted_text name

abbrev pub layout_word : Layout → List ℕ
layout_word Byte = codes "byte"
layout_word U16Be = codes "u16be"
layout_word U32Be = codes "u32be"
layout_word U64Be = codes "u64be"
layout_word U16Le = codes "u16le"
layout_word U32Le = codes "u32le"
layout_word U64Le = codes "u64le"

-- `(PART`
abbrev pub argument_text : Part → List ℕ
argument_text p = codes "(" ++ part_text p

-- `, NUMBER`
abbrev pub next_text : ℕ → List ℕ
next_text n = codes ", " ++ decimal n

abbrev pub length_text : Part → List ℕ
length_text p = codes "length" ++ (argument_text p ++ codes ")")

abbrev pub layout_term_text : Layout → Part → ℕ → List ℕ
layout_term_text layout p at = layout_word layout ++ (argument_text p ++ (next_text at ++ codes ")"))

abbrev pub decimal_text : Part → (at count : ℕ) → List ℕ
decimal_text p at count = codes "decimal" ++ (argument_text p ++ (next_text at ++ (next_text count ++ codes ")")))

unfoldable pub term_text : Term → List ℕ
term_text (term.Length p) = length_text p
term_text (term.Number layout p at) = layout_term_text layout p at
term_text (term.Decimal p at count) = decimal_text p at count
term_text term.Offset = codes "offset"
term_text term.Timestamp = codes "timestamp"
term_text term.Partition = codes "partition"
term_text term.Headers = codes "headers"

-- ---- tests and conditions

-- a comparison between spaces
abbrev pub comparison_text : Comparison → List ℕ
comparison_text comparison.Equal = codes " = "
comparison_text comparison.NotEqual = codes " != "
comparison_text comparison.Less = codes " < "
comparison_text comparison.LessOrEqual = codes " <= "
comparison_text comparison.Greater = codes " > "
comparison_text comparison.GreaterOrEqual = codes " >= "

-- a term, a comparison and a number
abbrev pub comparing_text : Term → Comparison → ℕ → List ℕ
comparing_text t how n = term_text t ++ (comparison_text how ++ decimal n)

unfoldable pub test_text : Test → List ℕ
test_text (test.Null p) = part_text p ++ codes " is null"
test_text (test.Absent p) = part_text p ++ codes " is absent"
test_text (test.Equal p text) = part_text p ++ (codes " = " ++ quoted_text text)
test_text (test.Begins p text) = part_text p ++ (codes " begins " ++ quoted_text text)
test_text (test.Has p text) = part_text p ++ (codes " has " ++ quoted_text text)
test_text (test.Compare t how n) = comparing_text t how n

-- conditions with `or` between them stand in parentheses where no `or` may stand
abbrev pub encloses_or : Level → Bool
encloses_or level.Any = false
encloses_or level.All = true
encloses_or level.One = true

-- the same of `and`
abbrev pub encloses_and : Level → Bool
encloses_and level.Any = false
encloses_and level.All = false
encloses_and level.One = true

abbrev pub open_text : Bool → List ℕ
open_text encloses = if encloses then codes "(" else []

abbrev pub close_text : Bool → List ℕ
close_text encloses = if encloses then codes ")" else []

-- a condition, in parentheses where it needs some
unfoldable pub condition_text : Level → Formula → List ℕ
condition_text what (Single t) = test_text t
condition_text what (Negated inner) = codes "not " ++ condition_text level.One inner
condition_text what (Both one other) = open_text (encloses_and what) ++ (condition_text level.One one
    ++ (codes " and " ++ (condition_text level.All other ++ close_text (encloses_and what))))
condition_text what (Either one other) = open_text (encloses_or what) ++ (condition_text level.All one
    ++ (codes " or " ++ (condition_text level.Any other ++ close_text (encloses_or what))))

-- ---- actions and rules

-- `[FROM..`
abbrev pub from_text : ℕ → List ℕ
from_text from = codes "[" ++ (decimal from ++ codes "..")

-- `TO]`, or `]`
abbrev pub to_text : Option ℕ → List ℕ
to_text (Some to) = decimal to ++ codes "]"
to_text None = codes "]"

-- `output N`
abbrev pub record_text : ℕ → List ℕ
record_text n = codes "output " ++ decimal n

abbrev pub hashed_text : Part → ℕ → List ℕ
hashed_text p n = codes "output hash" ++ (argument_text p ++ (codes ") % " ++ decimal n))

abbrev pub cut_text : ℕ → Part → Cut → List ℕ
cut_text n p cut = record_text n ++ (codes " " ++ (part_text p ++ (from_text cut.from ++ to_text cut.to)))

abbrev pub changed_text : (n from to : ℕ) → List ℕ → List ℕ
changed_text n from to text = record_text n
    ++ (codes " with value" ++ (from_text from ++ (to_text (Some to) ++ (codes " = " ++ quoted_text text))))

unfoldable pub output_text : Output → List ℕ
output_text (output.Record n) = record_text n
output_text (output.Hashed p n) = hashed_text p n
output_text (output.Cut n p cut) = cut_text n p cut
output_text (output.Changed n from to text) = changed_text n from to text

-- `and header TEXT = TEXT`
abbrev pub header_text : AddedHeader → List ℕ
header_text h = codes " and header " ++ (quoted_text h.key ++ (codes " = " ++ quoted_text h.value))

-- the header that is added, if one is
abbrev pub added_text : Option AddedHeader → List ℕ
added_text (Some h) = header_text h
added_text None = []

unfoldable pub action_text : Action → List ℕ
action_text (action.Drop code) = codes "drop " ++ decimal code
action_text (action.Tombstone n) = codes "tombstone " ++ decimal n
action_text (action.Output o added) = output_text o ++ added_text added

-- when a rule takes a record, if not always
abbrev pub when_text : Option Formula → List ℕ
when_text (Some c) = codes " when " ++ condition_text level.Any c
when_text None = []

-- a rule, without its line feed
unfoldable pub rule_text : Line → List ℕ
rule_text line = action_text line.action ++ when_text line.condition

-- a rule a line
abbrev pub text_of : List Line → List ℕ
text_of lines = flat_map (λ line. rule_text line ++ 10 ∷ []) lines
