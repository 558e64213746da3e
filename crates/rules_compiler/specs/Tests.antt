-- The code of tests: r8 gets whether one holds.
use Rattle.std.specs.Prelude.{ℕ, zero, suc, ◌+◌, ◌-◌, ◌*◌, ◌^◌, ℤ, pos, Bool, not, ◌&&◌, nat_lt, nat_le, if◌then◌else◌}
use Rattle.std.specs.Prelude.{List, [], ◌∷◌, ◌++◌, length}
use Rattle.machine_spec.specs.declared.instruction.Instruction.{Instruction}
use Rattle.machine_spec.specs.declared.instruction.Instruction.TheVariants.{Load, JumpIf, Call}
use Rattle.machine_spec.specs.declared.operation.Width.TheVariants.{Bits64}
use Rattle.machine_spec.specs.declared.instruction.{Size.Size, Extension.TheVariants.Zero}
use Rattle.machine_spec.specs.declared.operation.Operation.TheVariants.{Add}
use Rattle.machine_spec.specs.declared.instruction.Source.TheVariants.{Register, Immediate}
use Rattle.machine_spec.specs.declared.operation.{Test.Test as Jumps}
use Rattle.machine_spec.specs.declared.operation.Test.TheVariants as jumps
use Rattle.rules.specs.declared.{rule.Part.Part, rule.Term.Term, rule.Comparison.Comparison, rule.Test.Test}
use Rattle.rules.specs.declared.rule.Part.TheVariants as part
use Rattle.rules.specs.declared.rule.Term.TheVariants as term
use Rattle.rules.specs.declared.rule.Comparison.TheVariants as comparison
use Rattle.rules.specs.declared.rule.Test.TheVariants as test
use Rattle.rules_compiler.specs.declared.searches.TheConstants.{LOOKED_AT, OTHERS, PLACES}
use Rattle.rules_compiler.specs.declared.pieces.TheConstants.{ANSWER, PART, LENGTH, TRUTH, VALUE, FRAME, NEAR}
use Rattle.rules_compiler.specs.declared.values.TheConstants.{SHORT}
use Rattle.rules_compiler.specs.Code.{Code, Plain, Then, Unless, instructions}
use Rattle.rules_compiler.specs.Pieces.{set, copy, change, number_code, text_code, part_code, measure}
use Rattle.rules.specs.declared.rule.{Layout.Layout}
use Rattle.rules.specs.Meaning.{compares, layout_size}
use Rattle.rules_compiler.specs.Terms.{term_code, read_code, is_near}

-- what the helper says of a part's length is a number
unfoldable pub length_test_code : Part → ℤ → Code
length_test_code p number = Then (Plain (part_code p ++ measure))
    (Unless jumps.NotEqual ANSWER (Immediate number) (Plain (set TRUTH (pos 1) ∷ [])))

-- r1 to r4 name the part, its begin and a text in the stack
abbrev pub name_text : ℕ → List Instruction
name_text size = copy 1 PART ∷ set 2 (pos 0) ∷ copy 3 FRAME ∷ change Add 3 NEAR ∷ set 4 (pos size) ∷ []

-- r8 gets whether the part begins with the text
abbrev pub stands : ℕ → List Instruction
stands size = name_text size ++ (Call (pos 16) ∷ copy TRUTH ANSWER ∷ [])

-- r0 gets the part's length plus 2, or 1 of a null part, or 0 where there is none
abbrev pub sized : List Instruction
sized = copy 1 PART ∷ Call (pos 13) ∷ []

-- the part begins with a text, and what the helper says of its length passes a test; that is asked where it begins so
unfoldable pub text_test_code : Part → List ℕ → Jumps → ℕ → Code
text_test_code p text how number = Then (Plain (part_code p ++ (text_code NEAR text ++ stands (length text))))
    (Unless jumps.Equal TRUTH (Immediate (pos 0)) (Then (Plain sized)
    (Unless how ANSWER (Immediate (pos number)) (Plain (set TRUTH (pos 0) ∷ [])))))

-- ---- short texts at an address that a register has

-- a byte is compared, after which so many others are
abbrev pub match_byte : (base place byte left : ℕ) → List Instruction
match_byte base place byte left = Load Size.Byte Zero ANSWER base (pos place)
    ∷ JumpIf Bits64 jumps.NotEqual ANSWER (Immediate (pos byte)) (pos (2 * left + 1)) ∷ []

-- r8 gets 1 where the bytes of a text stand there from a place on
unfoldable pub match_code : (base : ℕ) → List ℕ → ℕ → Code
match_code base [] place = Plain (set TRUTH (pos 1) ∷ [])
match_code base (byte ∷ text) place = Then (Plain (Load Size.Byte Zero ANSWER base (pos place) ∷ []))
    (Unless jumps.NotEqual ANSWER (Immediate (pos byte)) (match_code base text (place + 1)))

-- the part at the address begins with a text, and its length compared with the text's fails a test
unfoldable pub match_test_code : (base long : ℕ) → List ℕ → Jumps → Code
match_test_code base long text how = Then (Plain (set TRUTH (pos 0) ∷ []))
    (Unless how long (Immediate (pos (length text))) (match_code base text 0))

-- the same of the value
abbrev pub value_test_code : List ℕ → Jumps → Code
value_test_code text how = match_test_code VALUE LENGTH text how

-- a text is compared byte by byte
abbrev pub is_short : List ℕ → Bool
is_short text = nat_lt 0 (length text) && nat_le (length text) SHORT

unfoldable pub equal_code : Part → List ℕ → Code
equal_code part.Value text = if is_short text then value_test_code text jumps.NotEqual
    else text_test_code part.Value text jumps.Equal (length text + 2)
equal_code p text = text_test_code p text jumps.Equal (length text + 2)

unfoldable pub begins_code : Part → List ℕ → Code
begins_code part.Value text = if is_short text then value_test_code text jumps.Less
    else text_test_code part.Value text jumps.GreaterOrEqual 2
begins_code p text = text_test_code p text jumps.GreaterOrEqual 2

-- ---- has

-- r0 gets the first place of the text among PLACES from a place on, plus 1, else 0
abbrev pub look : (size place : ℕ) → List Instruction
look size place = copy 1 PART ∷ set 2 (pos place) ∷ copy 3 FRAME ∷ change Add 3 NEAR ∷ set 4 (pos size)
    ∷ Call (pos 15) ∷ []

-- r8 gets 1 where something was found
abbrev pub mark : Code
mark = Plain (set TRUTH (pos 1) ∷ [])

-- the last search, which finds the text only where it ends within the bytes that are looked at
abbrev pub last_mark : ℕ → Code
last_mark size = Unless jumps.Equal ANSWER (Immediate (pos 0))
    (Unless jumps.Greater ANSWER (Immediate (pos (LOOKED_AT - size + 1))) mark)

-- a search from a place on, where the part reaches further than the text; so many others follow, where it finds nothing
unfoldable pub searches_code : (size place left : ℕ) → Code
searches_code size place zero = Then (Plain sized) (Unless jumps.Less ANSWER (Immediate (pos (place + size + 2)))
    (Then (Plain (look size place)) (last_mark size)))
searches_code size place (suc left) = Then (Plain sized) (Unless jumps.Less ANSWER (Immediate (pos (place + size + 2)))
    (Then (Plain (look size place)) (Then (Unless jumps.Equal ANSWER (Immediate (pos 0)) mark)
    (Unless jumps.NotEqual TRUTH (Immediate (pos 0)) (searches_code size (place + PLACES) left)))))

unfoldable pub has_code : Part → List ℕ → Code
has_code p text = Then (Plain (part_code p ++ (text_code NEAR text ++ set TRUTH (pos 0) ∷ [])))
    (searches_code (length text) 0 OTHERS)

-- the test of a jump that is taken where a comparison holds
abbrev pub test_of : Comparison → Jumps
test_of comparison.Equal = jumps.Equal
test_of comparison.NotEqual = jumps.NotEqual
test_of comparison.Less = jumps.Less
test_of comparison.LessOrEqual = jumps.LessOrEqual
test_of comparison.Greater = jumps.Greater
test_of comparison.GreaterOrEqual = jumps.GreaterOrEqual

-- r8 is cleared where r0 compares otherwise with a number
unfoldable pub comparing_code : Comparison → ℕ → Code
comparing_code how number = Then (Plain (number_code 1 number))
    (Unless (test_of how) ANSWER (Register 1) (Plain (set TRUTH (pos 0) ∷ [])))

unfoldable pub term_compare_code : Term → Comparison → ℕ → Code
term_compare_code t how number = Then (term_code t)
    (Unless jumps.Equal TRUTH (Immediate (pos 0)) (comparing_code how number))

-- whether 0, the length of a null value's bytes, compares otherwise with a number that an instruction can hold
abbrev pub is_plain : Comparison → ℕ → Bool
is_plain how number = not (compares how 0 number) && nat_lt number (2 ^ 31)

-- r8 gets whether the value's length passes a test against a number
abbrev pub length_list : Jumps → ℤ → List Instruction
length_list how number = set TRUTH (pos 1) ∷ JumpIf Bits64 how LENGTH (Immediate number) (pos 1) ∷ set TRUTH (pos 0) ∷ []

-- the same as a comparison
unfoldable pub value_length_code : Comparison → ℕ → Code
value_length_code how number = Then (Plain (set TRUTH (pos 1) ∷ []))
    (Unless (test_of how) LENGTH (Immediate (pos number)) (Plain (set TRUTH (pos 0) ∷ [])))

-- r8 gets whether r0 compares so with a number
unfoldable pub value_truth_code : Comparison → ℕ → Code
value_truth_code how number = Then (Plain (set TRUTH (pos 1) ∷ []))
    (Unless (test_of how) ANSWER (Immediate (pos number)) (Plain (set TRUTH (pos 0) ∷ [])))

-- whether a number in the value compares so with one that an instruction can hold
unfoldable pub value_compare_code : Layout → ℕ → Comparison → ℕ → Code
value_compare_code layout place how number = Then (Plain (set TRUTH (pos 0) ∷ []))
    (Unless jumps.Less LENGTH (Immediate (pos (place + layout_size layout)))
    (Then (read_code layout place) (value_truth_code how number)))

-- the same as a list
abbrev pub compare_block : Layout → ℕ → Jumps → ℤ → List Instruction
compare_block layout place how number = instructions (read_code layout place)
    ++ (set TRUTH (pos 1) ∷ JumpIf Bits64 how ANSWER (Immediate number) (pos 1) ∷ set TRUTH (pos 0) ∷ [])

abbrev pub compare_list : Layout → ℕ → Jumps → ℤ → List Instruction
compare_list layout place how number = set TRUTH (pos 0)
    ∷ JumpIf Bits64 jumps.Less LENGTH (Immediate (pos (place + layout_size layout)))
    (pos (length (compare_block layout place how number))) ∷ compare_block layout place how number

-- both can be named
abbrev pub is_at_hand : Layout → ℕ → ℕ → Bool
is_at_hand layout place number = is_near layout place && nat_lt number (2 ^ 31)

unfoldable pub compare_code : Term → Comparison → ℕ → Code
compare_code (term.Length part.Value) how number =
    if is_plain how number then value_length_code how number else term_compare_code (term.Length part.Value) how number
compare_code (term.Number layout part.Value place) how number =
    if is_at_hand layout place number then value_compare_code layout place how number
    else term_compare_code (term.Number layout part.Value place) how number
compare_code t how number = term_compare_code t how number

unfoldable pub test_code : Test → Code
test_code (test.Null p) = length_test_code p (pos 1)
test_code (test.Absent p) = length_test_code p (pos 0)
test_code (test.Equal p text) = equal_code p text
test_code (test.Begins p text) = begins_code p text
test_code (test.Has p text) = has_code p text
test_code (test.Compare t how number) = compare_code t how number
