-- The code of rules is read again from its spelling.
use Rattle.std.proofs.Common.{ℕ, ◌+◌, ◌-◌, ◌^◌, ◌<◌, ◌≤◌, pos}
use Rattle.std.proofs.Common.{List, [], ◌∷◌, ◌++◌, length, Option, Some, None, refl, arith}
use Rattle.std.specs.List.{AllByRecursion}
use Rattle.machine_spec.specs.declared.{instruction.Instruction.Instruction}
use Rattle.machine_spec.specs.declared.instruction.Instruction.TheVariants.{Call}
use Rattle.machine_spec.specs.declared.operation.Operation.TheVariants.{Sub, Mod}
use Rattle.machine_spec.specs.declared.operation.Test.TheVariants as jumps
use Rattle.rules.specs.declared.{rule.Part.Part}
use Rattle.rules.specs.declared.{rule.Output.Output, rule.AddedHeader.AddedHeader, rule.Action.Action}
use Rattle.rules.specs.declared.rule.Output.TheVariants as output
use Rattle.rules.specs.declared.rule.Action.TheVariants as action
use Rattle.rules.specs.Formulas.{Formula}
use Rattle.rules.specs.Lines.{Line}
use Rattle.rules.specs.Limits.{IsText, FitsPart, FitsEnd, FitsOutput, FitsAdded, FitsAction, FitsWhen, FitsLine}
use Rattle.rules_compiler.specs.Code.{Code, Ends, Then}
use Rattle.rules_compiler.specs.Pieces.{set, copy, change, number_code, text_code}
use Rattle.rules_compiler.specs.Pieces.{part_code}
use Rattle.rules_compiler.specs.declared.pieces.TheConstants.{NEAR, FAR}
use Rattle.rules_compiler.specs.Actions.{drop_code, plain_code, hashed_code, part_cut_code, rest_cut_code, cut_code, output_code}
use Rattle.rules_compiler.specs.Actions.{change_call, changed_code, name_header, added_code, with_added, action_code}
use Rattle.rules_compiler.specs.Rules.{guarded_code, line_code, lines_code, first_code, asks_first, key_line_code}
use Rattle.rules_compiler.specs.Rules.{opening_code, opening_of, rules_code, body_of}
use Rattle.std.proofs.Common.{drop}
use Rattle.std.proofs.{lemmas.Bool.cond_both}
use Rattle.rules_compiler.proofs.Spelt.{fits_imm, fits_zero}
use Rattle.rules_compiler.proofs.Spelt.{spelt_call, spelt_change, spelt_copy, spelt_exit}
use Rattle.rules_compiler.proofs.Spelt.{spelt_set}
use Rattle.rules_compiler.proofs.SpeltCode.{Spells, number_spelt, part_spelt, set_zero}
use Rattle.rules_compiler.proofs.SpeltTests.{condition_spells, key_condition_spells}
use Rattle.rules_compiler.proofs.SpeltCode.{spells_plain, spells_then, spells_unless, spelt_near, spelt_far, text_spelt}
use Rattle.rules_compiler.proofs.Texts.{near_stands, far_stands}
use Rattle.rules_compiler.proofs.Spelt.{spelt_call, spelt_set}

-- ---- actions

ends_spells : Spells Ends
ends_spells = record { spelt = λ few. (spelt_exit, tt) }

plain_spells : (out helper : ℕ) → out ≤ 63 → helper < 2 ^ 31 → Spells (plain_code out (pos helper))
unfolding plain_code
plain_spells out helper few small = spells_then (spells_plain (set 1 (pos out) ∷ Call (pos helper) ∷ [])
    (spelt_set 1 refl (pos out) (fits_imm out (omega arith)), (spelt_call helper small, tt))) ends_spells

abbrev hashed_list : ℕ → List Instruction
hashed_list count = copy 1 6 ∷ Call (pos 18) ∷ change Mod 0 (pos count) ∷ copy 1 0 ∷ Call (pos 3) ∷ []

hashed_spells : (p : Part) (count : ℕ) → FitsPart IsText p → count ≤ 64 → Spells (hashed_code p count)
unfolding hashed_code
hashed_spells p count fits few = spells_then (spells_plain (part_code p ++ hashed_list count) (part_spelt p (hashed_list count) fits (
  spelt_copy 1 refl 6 refl,
  (
    spelt_call 18 (omega arith),
    (
      spelt_change 0 refl Mod (pos count) refl (fits_imm count (omega arith)),
      (spelt_copy 1 refl 0 refl, (spelt_call 3 (omega arith), tt)),
    ),
  ),
))) ends_spells

abbrev cut_list : ℕ → ℕ → ℕ → List Instruction
cut_list out from to = set 4 (pos (to - from)) ∷ set 1 (pos out) ∷ copy 2 6 ∷ set 3 (pos from) ∷ Call (pos 20) ∷ []

abbrev rest_list : ℕ → ℕ → List Instruction
rest_list out from = copy 4 0 ∷ change Sub 4 (pos (from + 2)) ∷ set 1 (pos out) ∷ copy 2 6 ∷ set 3 (pos from)
    ∷ Call (pos 20) ∷ []

rest_spells : (out : ℕ) (p : Part) (from : ℕ) → FitsPart IsText p → out ≤ 63 → from ≤ 1048576 → Spells (rest_cut_code out p from)
unfolding rest_cut_code
rest_spells out p from fits few low = spells_then
    (spells_plain (part_code p ++ (copy 1 6 ∷ Call (pos 13) ∷ [])) (part_spelt p (copy 1 6 ∷ Call (pos 13) ∷ []) fits
    (spelt_copy 1 refl 6 refl, (spelt_call 13 (omega arith), tt))))
    (spells_then (spells_unless jumps.GreaterOrEqual 0 (pos 2) refl (fits_imm 2 (omega arith))
    (spells_plain (set 0 (pos 2) ∷ []) (spelt_set 0 refl (pos 2) (fits_imm 2 (omega arith)), tt)))
    (spells_then (spells_plain (rest_list out from) (
      spelt_copy 4 refl 0 refl,
      (
        spelt_change 4 refl Sub (pos (from + 2)) refl (fits_imm (from + 2) (omega arith)),
        (
          spelt_set 1 refl (pos out) (fits_imm out (omega arith)),
          (
            spelt_copy 2 refl 6 refl,
            (spelt_set 3 refl (pos from) (fits_imm from (omega arith)), (spelt_call 20 (omega arith), tt)),
          ),
        ),
      ),
    )) ends_spells))

cut_spells : (out : ℕ) (p : Part) (from : ℕ) (to : Option ℕ) → FitsPart IsText p → out ≤ 63 → from ≤ 1048576 → FitsEnd from to → Spells (cut_code out p from to)
unfolding part_cut_code
cut_spells out p from None fits few low ends = rest_spells out p from fits few low
cut_spells out p from (Some to) fits few low ends = spells_then
    (spells_plain (part_code p ++ cut_list out from to) (part_spelt p (cut_list out from to) fits (
      spelt_set 4 refl (pos (to - from)) (fits_imm (to - from) (omega (arith, ends.high_is))),
      (
        spelt_set 1 refl (pos out) (fits_imm out (omega arith)),
        (
          spelt_copy 2 refl 6 refl,
          (spelt_set 3 refl (pos from) (fits_imm from (omega arith)), (spelt_call 20 (omega arith), tt)),
        ),
      ),
    ))) ends_spells

text_small : (size : ℕ) → size ≤ 255 → size < 2 ^ 31
text_small size few = omega arith

changed_spells : (out from to : ℕ) (text : List ℕ) → IsText text → out ≤ 63 → from ≤ 1048576 → to ≤ 1048576 →
    Spells (changed_code out from to text)
unfolding changed_code
changed_spells out from to text is few low high = spells_then
    (spells_plain (text_code NEAR text ++ (change_call out from to (length text) ++ Call (pos 21) ∷ []))
    (text_spelt near_stands text (change_call out from to (length text) ++ Call (pos 21) ∷ []) is (
      spelt_set 1 refl (pos out) (fits_imm out (omega arith)),
      (
        spelt_set 2 refl (pos from) (fits_imm from (omega arith)),
        (
          spelt_set 3 refl (pos (to - from)) (fits_imm (to - from) (omega arith)),
          (
            spelt_copy 4 refl 10 refl,
            (
              spelt_near 4 refl,
              (
                spelt_set 5 refl (pos (length text)) (fits_imm (length text) (text_small (length text) is.few)),
                (spelt_call 21 (omega arith), tt),
              ),
            ),
          ),
        ),
      ),
    ))) ends_spells

added_spells : (key value : List ℕ) → IsText key → IsText value → Spells (added_code key value)
unfolding added_code
added_spells key value key_is value_is = spells_then
    (spells_plain (text_code FAR key ++ (text_code NEAR value ++ (name_header (length key) (length value) ++ Call (pos 22) ∷ [])))
    (text_spelt far_stands key (text_code NEAR value ++ (name_header (length key) (length value) ++ Call (pos 22) ∷ [])) key_is
    (text_spelt near_stands value (name_header (length key) (length value) ++ Call (pos 22) ∷ []) value_is (
      spelt_copy 1 refl 10 refl,
      (
        spelt_far 1 refl,
        (
          spelt_set 2 refl (pos (length key)) (fits_imm (length key) (text_small (length key) key_is.few)),
          (
            spelt_copy 3 refl 10 refl,
            (
              spelt_near 3 refl,
              (
                spelt_set 4 refl (pos (length value)) (fits_imm (length value) (text_small (length value) value_is.few)),
                (spelt_call 22 (omega arith), tt),
              ),
            ),
          ),
        ),
      ),
    ))))
    (spells_unless jumps.Equal 0 (pos 0) refl fits_zero ends_spells)

with_added_spells : (added : Option AddedHeader) {block : Code} → FitsAdded IsText added → Spells block →
    Spells (with_added added block)
with_added_spells None fits x = x
with_added_spells (Some h) fits x = spells_then (added_spells h.key h.value fits.0 fits.1) x

output_spells : (what : Output) → FitsOutput IsText what → Spells (output_code what)
unfolding output_code
output_spells (output.Record out) fits = plain_spells out 3 fits.high_is (omega arith)
output_spells (output.Hashed p count) fits = hashed_spells p count fits.0 fits.1.high_is
output_spells (output.Cut out p cut) fits = cut_spells out p cut.from cut.to fits.1.0 fits.0.high_is fits.1.1.from.high_is fits.1.1.to
output_spells (output.Changed out from to text) fits =
    changed_spells out from to text fits.1.1.1 fits.0.high_is fits.1.0.high_is fits.1.1.0.high_is

action_spells : (a : Action) → FitsAction IsText a → Spells (action_code a)
unfolding action_code drop_code
action_spells (action.Drop n) fits =
    spells_then (spells_plain (number_code 0 n) (number_spelt 0 n refl (omega (arith, fits.high_is)))) ends_spells
action_spells (action.Tombstone out) fits = plain_spells out 6 fits.high_is (omega arith)
action_spells (action.Output what added) fits = with_added_spells added fits.1 (output_spells what fits.0)

-- ---- rules

guarded_spells : (c : Option Formula) (block : Code) → FitsWhen IsText c → Spells block → Spells (guarded_code c block)
guarded_spells None block fits x = x
guarded_spells (Some c) block fits x = spells_then (condition_spells c fits.tests)
    (spells_unless jumps.Equal 8 (pos 0) refl fits_zero x)

line_spells : (line : Line) → FitsLine IsText line → Spells (line_code line)
unfolding line_code
line_spells line fits =
    guarded_spells line.condition (action_code line.action) fits.condition (action_spells line.action fits.action)

lines_spell : (lines : List Line) → AllByRecursion (FitsLine IsText) lines → Spells (lines_code lines)
unfolding lines_code
lines_spell [] fits = spells_plain [] tt
lines_spell (line ∷ lines) fits = spells_then (line_spells line fits.0) (lines_spell lines fits.1)

first_spells : Spells first_code
first_spells = spells_plain (copy 7 2 ∷ copy 9 1 ∷ []) (spelt_copy 7 refl 2 refl, (spelt_copy 9 refl 1 refl, tt))

key_line_spells : (c : Option Formula) (block : Code) → FitsWhen IsText c → Spells block → Spells (key_line_code c block)
unfolding key_line_code
key_line_spells None block fits x = spells_then first_spells x
key_line_spells (Some c) block fits x = spells_then (key_condition_spells c fits.tests)
    (spells_then first_spells (spells_unless jumps.Equal 8 (pos 0) refl fits_zero x))

opening_spells : (lines : List Line) → AllByRecursion (FitsLine IsText) lines → Spells (opening_of lines)
unfolding opening_of opening_code
opening_spells [] fits = first_spells
opening_spells (line ∷ lines) fits = cond_both (asks_first line.condition)
    (key_line_code line.condition (action_code line.action)) (Then first_code (line_code line)) (λ code. Spells code)
    (λ asks. key_line_spells line.condition (action_code line.action) fits.0.condition (action_spells line.action fits.0.action))
    (λ other. spells_then first_spells (line_spells line fits.0))

behind_fits : (lines : List Line) → AllByRecursion (FitsLine IsText) lines → AllByRecursion (FitsLine IsText) (drop 1 lines)
behind_fits [] fits = tt
behind_fits (line ∷ lines) fits = fits.1

pub body_spells : (lines : List Line) → AllByRecursion (FitsLine IsText) lines → Spells (body_of lines)
unfolding body_of rules_code
body_spells lines fits = spells_then (spells_then (opening_spells lines fits) (lines_spell (drop 1 lines) (behind_fits lines fits)))
    (spells_plain (set 0 (pos 0) ∷ []) (set_zero 0 refl, tt))
