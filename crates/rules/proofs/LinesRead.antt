-- The rules of lines, line after line.
use Rattle.std.proofs.Common.{◌≡◌, ◌≢◌, ℕ, ◌+◌, ◌<◌, ◌≤◌, Bool, true, false, List, [], ◌∷◌, ◌++◌, length, drop, take, Result}
use Rattle.std.proofs.Common.{Ok, Err, Option, Some, None, refl, sym, ap, ◌∙◌, arith, leb, ltb, cond, append_assoc}
use Rattle.std.proofs.lemmas.List.{drop-drop, length-drop, take_all, length-append, map_push, length-map}
use Rattle.std.proofs.lemmas.Bool.{ltb-true, ltb-false, le-leb, lt-leb, lt-ltb, le-ltb}
use Rattle.std.proofs.lemmas.List.Splits.{slice_split_first}
use Rattle.std.specs.List.{slice_split, position_or_len}
use Rattle.rules.specs.declared.{fault.LineFault.LineFault, fault.RuleFault.RuleFault, rule.Rule.Rule}
use Rattle.rules.specs.declared.fault.LineFault.TheVariants as fault
use Rattle.rules.specs.declared.fault.RuleFault.TheVariants as rule_fault
use Rattle.rules.specs.declared.limits.TheConstants.{MAX_RULES}
use Rattle.rules.specs.{Faults.at_line, Faults.spot_at, Lines.Line, Lines.line_of, Lines.lines_of, Scanning.skipped}
use Rattle.rules.specs.{Steps.IsAdded, Steps.IsRefused}
use Rattle.rules.specs.Reading.{is_line_feed, rule_in, before_rules, rules_in}

-- a text without such a byte is one piece
split_whole : (p : ℕ → Bool) (xs : List ℕ) → length xs ≤ position_or_len p xs → slice_split p xs ≡ xs ∷ []
split_whole p [] h = refl
split_whole p (x ∷ xs) h = grind (arith, split_whole p xs)

-- the lines from a place on, which is past the text's end after the last
abbrev pub lines_from : List ℕ → ℕ → List (List ℕ)
lines_from text start = cond (leb start (length text)) (slice_split is_line_feed (drop start text)) []

next_cases : (text : List ℕ) (start : ℕ) (b : Bool) →
    let rest = drop start text in let end = position_or_len is_line_feed rest in start ≤ length text →
    ltb end (length rest) ≡ b
    → slice_split is_line_feed rest ≡ take end rest ∷ lines_from text (start + (end + 1))
next_cases text start true within e =
    let rest = drop start text in
    let end = position_or_len is_line_feed rest in
    let before : end < length rest = ltb-true end (length rest) e in
    let left = length-drop start text in
    let later = le-leb (start + (end + 1)) (length text) (omega arith) in
    rw (later, slice_split_first is_line_feed rest 0 before, drop-drop (end + 1) start text)
next_cases text start false within e =
    let rest = drop start text in
    let end = position_or_len is_line_feed rest in
    let past : length rest ≤ end = ltb-false end (length rest) e in
    let left = length-drop start text in
    let last = lt-leb (start + (end + 1)) (length text) (omega arith) in
    rw (last, split_whole is_line_feed rest past, take_all end rest past)

next_line : (text : List ℕ) (start end : ℕ) → start ≤ length text → end ≡ position_or_len is_line_feed (drop start text)
    → lines_from text start ≡ take end (drop start text) ∷ lines_from text (start + (end + 1))
next_line text start end within place =
    rw (le-leb start (length text) within, place) (next_cases text start _ within refl)

-- what lines up to a place made, and what those after it make
pub record IsRead (text : List ℕ) (number start : ℕ) (rules : List Line) : Type 0 where
  pub so_far : rules_in 1 0 (slice_split is_line_feed text)
      ≡ before_rules rules (rules_in number (length rules) (lines_from text start))

pub read_more : (text line : List ℕ) (old new : List Line) (number start end : ℕ) → start ≤ length text →
    end ≡ position_or_len is_line_feed (drop start text) → line ≡ take end (drop start text) →
    IsAdded number line (rule_in line) old new → IsRead text number start old →
    IsRead text (number + 1) (start + (end + 1)) new
read_more text line old new number start end within place is added before =
    let later = lines_from text (start + (end + 1)) in
    record {
      so_far = rw (before.so_far, next_line text start end within place, ← is)
          (added.whatever (λ (count : ℕ). rules_in (number + 1) count later));
    }

pub read_refused : (text line : List ℕ) (old : List Line) (number start end : ℕ) (f : RuleFault) →
    start ≤ length text → end ≡ position_or_len is_line_feed (drop start text) → line ≡ take end (drop start text) →
    IsRefused number line (rule_in line) old f → IsRead text number start old →
    rules_in 1 0 (slice_split is_line_feed text) ≡ Err f
read_refused text line old number start end f within place is refused before =
    let later = refused.whatever (λ (count : ℕ). rules_in (number + 1) count (lines_from text (start + (end + 1)))) in
    rw (before.so_far, next_line text start end within place, ← is, later)

-- ---- one line

twice : (old rules : List Line) (r : Result (List Line) RuleFault) →
    before_rules old (before_rules rules r) ≡ before_rules (old ++ rules) r
twice old rules (Ok others) = ap Ok (sym (append_assoc old rules others))
twice old rules (Err f) = refl

-- a rule that is added
pub rule_added : (number : ℕ) (line : List ℕ) (rules new : List Rule) (rule : Rule) → length rules < MAX_RULES →
    new ≡ rules ++ rule ∷ [] → IsAdded number line (Ok (Some (line_of rule))) (lines_of rules) (lines_of new)
rule_added number line rules new rule room is =
    let count : length (lines_of rules) ≡ length rules = length-map rules line_of in
    let pushed : lines_of new ≡ lines_of rules ++ line_of rule ∷ [] = ap lines_of is ∙ map_push line_of rules rule in
    let size : length (lines_of rules ++ line_of rule ∷ []) ≡ length (lines_of rules) + 1 =
    length-append (lines_of rules) (line_of rule ∷ []) in
    let below = lt-ltb (length (lines_of rules)) MAX_RULES (omega arith) in
    record {
      whatever = λ (later : ℕ → Result (List Line) RuleFault).
          rw (pushed, below, size) (twice (lines_of rules) (line_of rule ∷ []) (later (length (lines_of rules) + 1)));
    }

-- one rule too many
pub rule_refused : (number : ℕ) (line : List ℕ) (rules : List Rule) (rule : Line) → MAX_RULES ≤ length rules →
    IsRefused number line (Ok (Some rule)) (lines_of rules)
    (rule_fault.Many (spot_at number (length line) (length (skipped line))))
rule_refused number line rules rule full =
    let count : length (lines_of rules) ≡ length rules = length-map rules line_of in
    let past = le-ltb (length (lines_of rules)) MAX_RULES (omega arith) in
    record { whatever = λ (later : ℕ → Result (List Line) RuleFault). rw past refl }

-- a line without a rule
pub none_added : (number : ℕ) (line : List ℕ) (rules : List Line) (reading : Result (Option Line) LineFault) →
    reading ≡ Ok None → IsAdded number line reading rules rules
none_added number line rules reading is =
    record { whatever = λ (later : ℕ → Result (List Line) RuleFault). rw is refl }

-- a line with a fault
pub line_refused : (number : ℕ) (line : List ℕ) (rules : List Line) (reading : Result (Option Line) LineFault)
    (f : LineFault) → (f ≢ fault.Memory → reading ≡ Err f) → at_line number (length line) f ≢ rule_fault.Memory →
    IsRefused number line reading rules (at_line number (length line) f)
line_refused number line rules reading f answer other =
    let is = answer (λ (e : f ≡ fault.Memory). other (ap (at_line number (length line)) e)) in
    record { whatever = λ (later : ℕ → Result (List Line) RuleFault). rw is refl }
