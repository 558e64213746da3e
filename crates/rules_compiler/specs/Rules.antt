-- The code of conditions and of rules.
use Rattle.std.specs.Prelude.{pos, Bool, true, false, ◌&&◌, if◌then◌else◌, List, [], ◌∷◌, drop, Option, Some, None}
use Rattle.machine_spec.specs.declared.instruction.Source.TheVariants.{Immediate}
use Rattle.machine_spec.specs.declared.operation.Operation.TheVariants.{Xor}
use Rattle.machine_spec.specs.declared.operation.Test.TheVariants.{Equal, NotEqual, Less}
use Rattle.machine_spec.specs.declared.operation.Test.{Test as Jump}
use Rattle.rules.specs.declared.{rule.Part.Part, rule.Test.Test}
use Rattle.rules.specs.declared.rule.Part.TheVariants as part
use Rattle.rules.specs.declared.rule.Test.TheVariants as test
use Rattle.rules.specs.Formulas.{Formula, Single, Negated, Both, Either}
use Rattle.rules.specs.Lines.{Line}
use Rattle.rules_compiler.specs.declared.pieces.TheConstants.{ANSWER, LENGTH, TRUTH, VALUE, KEY, KEY_LENGTH}
use Rattle.rules_compiler.specs.Code.{Code, Plain, Ends, Then, Unless}
use Rattle.rules_compiler.specs.{Pieces.set, Pieces.copy, Pieces.change, Tests.test_code, Actions.action_code}
use Rattle.rules_compiler.specs.Tests.{is_short, match_test_code}

-- code, and behind it code that is left out where r8 passes a test against 0
abbrev pub joined_code : Jump → (one other : Code) → Code
joined_code how one other = Then one (Unless how TRUTH (Immediate (pos 0)) other)

-- r8 gets whether a condition holds; what stands behind `and` and `or` is left out where what stands before decides
unfoldable pub condition_code : Formula → Code
condition_code (Single t) = test_code t
condition_code (Negated inner) = Then (condition_code inner) (Plain (change Xor TRUTH (pos 1) ∷ []))
condition_code (Both one other) = joined_code Equal (condition_code one) (condition_code other)
condition_code (Either one other) = joined_code NotEqual (condition_code one) (condition_code other)

-- an action that is left out where the condition before it does not hold
abbrev pub guarded_code : Option Formula → Code → Code
guarded_code (Some c) block = joined_code Equal (condition_code c) block
guarded_code None block = block

unfoldable pub line_code : Line → Code
line_code line = guarded_code line.condition (action_code line.action)

-- the code of each rule in turn
unfoldable pub lines_code : List Line → Code
lines_code [] = Plain []
lines_code (line ∷ lines) = Then (line_code line) (lines_code lines)

-- the length and the address of the value are kept throughout
abbrev pub first_code : Code
first_code = Plain (copy LENGTH 2 ∷ copy VALUE 1 ∷ [])

-- ---- the first rule

-- Before it no helper is called, so that the key is read in itself where the rule asks it alone for a short text.
abbrev pub is_key : Part → Bool
is_key part.Key = true
is_key p = false

abbrev pub asks_key : Test → Bool
asks_key (test.Equal p text) = is_key p && is_short text
asks_key (test.Begins p text) = is_key p && is_short text
asks_key t = false

abbrev pub asks_single : Formula → Bool
asks_single (Single t) = asks_key t
asks_single c = false

-- a condition is such a test, or what `not` makes of one
abbrev pub asks_alone : Formula → Bool
asks_alone (Negated inner) = asks_single inner
asks_alone c = asks_single c

abbrev pub asks_first : Option Formula → Bool
asks_first (Some c) = asks_alone c
asks_first None = false

-- r8 gets whether such a test holds
unfoldable pub key_test_code : Test → Code
key_test_code (test.Equal p text) = match_test_code KEY KEY_LENGTH text NotEqual
key_test_code (test.Begins p text) = match_test_code KEY KEY_LENGTH text Less
key_test_code t = Plain []

unfoldable pub key_single_code : Formula → Code
key_single_code (Single t) = key_test_code t
key_single_code c = Plain []

unfoldable pub key_condition_code : Formula → Code
key_condition_code (Negated inner) = Then (key_single_code inner) (Plain (change Xor TRUTH (pos 1) ∷ []))
key_condition_code c = key_single_code c

unfoldable pub key_line_code : Option Formula → Code → Code
key_line_code (Some c) block =
    Then (key_condition_code c) (Then first_code (Unless Equal TRUTH (Immediate (pos 0)) block))
key_line_code None block = Then first_code block

unfoldable pub opening_code : Line → Code
opening_code line = if asks_first line.condition then key_line_code line.condition (action_code line.action)
    else Then first_code (line_code line)

-- the code of the first rule, if there is one
unfoldable pub opening_of : List Line → Code
opening_of [] = first_code
opening_of (line ∷ lines) = opening_code line

-- the code of all rules
unfoldable pub rules_code : List Line → Code
rules_code lines = Then (opening_of lines) (lines_code (drop 1 lines))

-- a record that no rule takes is kept
abbrev pub rest_code : Code
rest_code = Plain (set ANSWER (pos 0) ∷ [])

-- the code of rules before the end
unfoldable pub body_of : List Line → Code
body_of lines = Then (rules_code lines) rest_code

-- the code of rules
unfoldable pub code_of : List Line → Code
code_of lines = Then (body_of lines) Ends
