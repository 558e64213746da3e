-- The code of actions, each of which ends the run.
use Rattle.std.specs.Prelude.{ℕ, ◌+◌, ◌-◌, length, ℤ, pos, List, [], ◌∷◌, ◌++◌, Option, Some, None}
use Rattle.machine_spec.specs.declared.instruction.{Instruction.Instruction, Instruction.TheVariants.Call}
use Rattle.machine_spec.specs.declared.operation.Operation.TheVariants.{Add, Sub, Mod}
use Rattle.machine_spec.specs.declared.operation.Test.TheVariants.{Equal, GreaterOrEqual}
use Rattle.machine_spec.specs.declared.instruction.Source.TheVariants.{Immediate}
use Rattle.rules.specs.declared.{rule.Part.Part, rule.Output.Output, rule.AddedHeader.AddedHeader, rule.Action.Action}
use Rattle.rules.specs.declared.rule.Output.TheVariants as output
use Rattle.rules.specs.declared.rule.Action.TheVariants as action
use Rattle.rules_compiler.specs.declared.pieces.TheConstants.{ANSWER, PART, FRAME, NEAR, FAR}
use Rattle.rules_compiler.specs.Code.{Code, Plain, Ends, Then, Unless}
use Rattle.rules_compiler.specs.Pieces.{set, copy, change, number_code, text_code, part_code}

unfoldable pub drop_code : ℕ → Code
drop_code number = Then (Plain (number_code ANSWER number)) Ends

-- an emission by a helper that takes the output alone
unfoldable pub plain_code : ℕ → ℤ → Code
plain_code out helper = Then (Plain (set 1 (pos out) ∷ Call helper ∷ [])) Ends

unfoldable pub hashed_code : Part → ℕ → Code
hashed_code p count = Then (Plain (part_code p ++ (copy 1 PART ∷ Call (pos 18) ∷ change Mod ANSWER (pos count)
    ∷ copy 1 ANSWER ∷ Call (pos 3) ∷ []))) Ends

-- bytes of a part from one place on and before another one
unfoldable pub part_cut_code : ℕ → Part → (from to : ℕ) → Code
part_cut_code out p from to = Then (Plain (part_code p ++ (set 4 (pos (to - from)) ∷ set 1 (pos out) ∷ copy 2 PART
    ∷ set 3 (pos from) ∷ Call (pos 20) ∷ []))) Ends

-- the same up to the part's end; a part that is null or absent has no bytes
unfoldable pub rest_cut_code : ℕ → Part → (from : ℕ) → Code
rest_cut_code out p from = Then (Plain (part_code p ++ (copy 1 PART ∷ Call (pos 13) ∷ [])))
    (Then (Unless GreaterOrEqual ANSWER (Immediate (pos 2)) (Plain (set ANSWER (pos 2) ∷ [])))
    (Then (Plain (copy 4 ANSWER ∷ change Sub 4 (pos (from + 2)) ∷ set 1 (pos out) ∷ copy 2 PART ∷ set 3 (pos from)
    ∷ Call (pos 20) ∷ [])) Ends))

abbrev pub cut_code : ℕ → Part → ℕ → Option ℕ → Code
cut_code out p from (Some to) = part_cut_code out p from to
cut_code out p from None = rest_cut_code out p from

-- r4 and r5 name a text in the stack, r2 and r3 the bytes of the value in place of which it is emitted
abbrev pub change_call : (out from to size : ℕ) → List Instruction
change_call out from to size = set 1 (pos out) ∷ set 2 (pos from) ∷ set 3 (pos (to - from)) ∷ copy 4 FRAME
    ∷ change Add 4 NEAR ∷ set 5 (pos size) ∷ []

unfoldable pub changed_code : (out from to : ℕ) → List ℕ → Code
changed_code out from to text =
    Then (Plain (text_code NEAR text ++ (change_call out from to (length text) ++ Call (pos 21) ∷ []))) Ends

unfoldable pub output_code : Output → Code
output_code (output.Record out) = plain_code out (pos 3)
output_code (output.Hashed p count) = hashed_code p count
output_code (output.Cut out p cut) = cut_code out p cut.from cut.to
output_code (output.Changed out from to text) = changed_code out from to text

-- r1 to r4 name two texts in the stack
abbrev pub name_header : (key_size value_size : ℕ) → List Instruction
name_header key_size value_size = copy 1 FRAME ∷ change Add 1 FAR ∷ set 2 (pos key_size) ∷ copy 3 FRAME
    ∷ change Add 3 NEAR ∷ set 4 (pos value_size) ∷ []

-- a header is added to what is output behind this; the run ends with the answer of the helper where it is not added
unfoldable pub added_code : (key value : List ℕ) → Code
added_code key value = Then (Plain (text_code FAR key ++ (text_code NEAR value
    ++ (name_header (length key) (length value) ++ Call (pos 22) ∷ [])))) (Unless Equal ANSWER (Immediate (pos 0)) Ends)

-- code with a header that is added before it, if one is
abbrev pub with_added : Option AddedHeader → Code → Code
with_added (Some h) block = Then (added_code h.key h.value) block
with_added None block = block

unfoldable pub action_code : Action → Code
action_code (action.Drop number) = drop_code number
action_code (action.Tombstone out) = plain_code out (pos 6)
action_code (action.Output what added) = with_added added (output_code what)
