-- What searches for a text in a part find.
use Rattle.std.proofs.Common.{◌≡◌, ℕ, zero, suc, ◌+◌, ◌-◌, ◌*◌, ◌^◌, ◌<◌, ◌≤◌, pos, Bool, true, false}
use Rattle.std.proofs.Common.{◌&&◌, nat_le, List, [], ◌∷◌, ◌++◌, length, Option, Some}
use Rattle.std.proofs.Common.{None, refl, sym, ap, ◌∙◌, subst, arith, ⊎_elim}
use Rattle.std.proofs.lemmas.Bool.{cases_Bool, ne_eqb, le-ltb, lt-ltb, and_parts}
use Rattle.machine_spec.specs.declared.instruction.Source.TheVariants.{Immediate}
use Rattle.machine_spec.specs.declared.operation.Width.TheVariants.{Bits64}
use Rattle.machine_spec.specs.declared.operation.Test.TheVariants as jumps
use Rattle.machine_spec.specs.Values.{Number, immediate}
use Rattle.machine_spec.specs.Machine.{Input, State, state_after, goes_to}
use Rattle.machine_spec.specs.Signatures.{helper_among}
use Rattle.machine_spec.specs.{Parts.length_answer, Parts.part_in}
use Rattle.verifier_spec.specs.StandsFor.{IsInput}
use Rattle.rules.specs.declared.{rule.Part.Part}
use Rattle.rules.specs.Meaning.{passes_if, holds}
use Rattle.rules.specs.Limits.{IsText, FitsPart}
use Rattle.rules_compiler.specs.Code.{Code, Plain, Then, Unless}
use Rattle.rules_compiler.specs.Pieces.{set, word_count, text_code, part_code}
use Rattle.rules_compiler.specs.declared.pieces.TheConstants.{NEAR}
use Rattle.rules_compiler.proofs.Ready.{Ready, small_immediate}
use Rattle.rules_compiler.proofs.Texts.{near_stands, runs_both, HoldsText, text_has, text_read, bytes_of_text}
use Rattle.rules_compiler.proofs.Parts.{found, bytes_found, part_run}
use Rattle.machine_spec.specs.{Parts.part_numbered, Places.stand_at, Values.result_of}
use Rattle.std.proofs.lemmas.Bool.{lt-leb, cases_lt, leb-true}
use Rattle.machine_spec.specs.declared.operation.Operation.TheVariants.{Add}
use Rattle.std.proofs.Common.{unwrap_or, take}
use Rattle.std.proofs.lemmas.Bool.{le-leb}
use Rattle.rules_compiler.proofs.Walks.{On, run_list}
use Rattle.std.specs.Option.{option_map_or}
use Rattle.std.proofs.lemmas.Bool.{and_from}
use Rattle.machine_spec.specs.Places.{least_place}
use Rattle.rules.specs.Meaning.{occurs, looked_at_of, test_has}
use Rattle.rules_compiler.specs.declared.searches.TheConstants.{LOOKED_AT, OTHERS, PLACES}
use Rattle.rules_compiler.specs.Tests.{look, sized, mark, last_mark, searches_code, has_code}
use Rattle.rules_compiler.proofs.Courses.{Decides, bytes_of_found, skip_decides, enter_decides, list_decides}
use Rattle.rules_compiler.proofs.Courses.{then_decides, skipped}
use Rattle.rules_compiler.proofs.Occurrences.{Found, NoPlace, from_any, hit, hits, least_cases}
use Rattle.rules_compiler.proofs.Occurrences.{occurs_is, same_truth, stand_long, to_any, to_hit}

-- ---- the helper's answer

abbrev found_answer : Option ℕ → ℕ
found_answer o = option_map_or (λ p. p + 1) o 0

-- ---- states

pub record Looking (input : Input) (text : List ℕ) (number : ℕ) (t : State) : Type 0 where
  pub ready : Ready input t
  pub part : t.registers 6 ≡ Number number
  pub holds : HoldsText t.stack text (word_count (length text))
  pub truth : t.registers 8 ≡ Number 0

module _ (input : Input) (text : List ℕ) (few : length text ≤ 255) (number : ℕ) where
  abbrev answer_at : ℕ
  answer_at = length_answer (part_in input.given (part_numbered number))

  abbrev bytes : List ℕ
  bytes = bytes_of_found (part_in input.given (part_numbered number))

  sized_looking : (t : State) → Looking input text number t → Looking input text number (run_list input sized t)
  unfolding state_after helper_among
  sized_looking t l = record { ready = assumption l.ready; part = l.part; holds = l.holds; truth = l.truth }

  sized_answer : (t : State) → Looking input text number t → (run_list input sized t).registers 0
      ≡ Number (length_answer (part_in input.given (part_numbered number)))
  unfolding state_after helper_among
  sized_answer t l = let is = l.part in rw is refl

  look_looking : (t : State) (place : ℕ) → Looking input text number t →
      Looking input text number (run_list input (look (length text) place) t)
  unfolding state_after helper_among
  look_looking t place l = record { ready = assumption l.ready; part = l.part; holds = l.holds; truth = l.truth }

  look_answer : (t : State) (place : ℕ) → place ≤ 65536 → Looking input text number t →
      (run_list input (look (length text) place) t).registers 0
      ≡ Number (found_answer (least_place (stand_at (bytes_of_found (part_in input.given (part_numbered number))) text) place 4096))
  unfolding state_after helper_among
  look_answer t place low l =
      let frame = l.ready.frame_is in
      let is = l.part in
      let at = small_immediate place (omega arith) in
      let read = text_read 256 input t.stack text (immediate Bits64 (pos (length text)))
      (result_of Bits64 Add (t.registers 10) (Number (immediate Bits64 NEAR))) (Number (immediate Bits64 (pos (length text))))
      l.holds (rw frame refl) refl (small_immediate (length text) (omega arith)) in
      rw (is, read, at) refl

  goes_looking : (t : State) (slot : ℕ) → Looking input text number t → Looking input text number (goes_to t slot)
  goes_looking t slot l = record { ready = assumption l.ready; part = l.part; holds = l.holds; truth = l.truth }

  mark_decides : (t : State) → Ready input t → Decides input mark t true
  unfolding state_after
  mark_decides t ready = list_decides input (set 8 (pos 1) ∷ []) t true (assumption ready) refl

  mark_none : (t : State) → Looking input text number t → t.registers 0 ≡ Number 0 →
      Decides input (Unless jumps.Equal 0 (Immediate (pos 0)) mark) t false
  mark_none t l answer = skip_decides input jumps.Equal 0 (Immediate (pos 0)) mark t false (rw answer refl) l.ready l.truth

  mark_some : (t : State) (p : ℕ) (block : Code) (b : Bool) → Looking input text number t → t.registers 0 ≡ Number (p + 1) →
      Decides input block (goes_to t (t.slot + 1)) b → Decides input (Unless jumps.Equal 0 (Immediate (pos 0)) block) t b
  mark_some t p block b l answer d =
      let apart = ne_eqb (p + 1) 0 (λ e. omega arith) in
      enter_decides input jumps.Equal 0 (Immediate (pos 0)) block t b (rw (answer, apart) refl) d

  -- ---- the last search

  last_decides : (t : State) (place : ℕ) → place + 4096 ≡ 65536 → Looking input text number t →
      t.registers 0 ≡ Number (found_answer (least_place (stand_at (bytes_of_found (part_in input.given (part_numbered number))) text) place 4096)) →
      Decides input (last_mark (length text)) t (hits (bytes_of_found (part_in input.given (part_numbered number))) text place)
  last_decides t place end l answer =
      let part = bytes_of_found (part_in input.given (part_numbered number)) in
      let inner : Code = Unless jumps.Greater 0 (Immediate (pos (LOOKED_AT - length text + 1))) mark in
      ⊎_elim
      (λ some.
      let p = some.0 in
      let is = answer ∙ ap (λ (o : Option ℕ). Number (found_answer o)) some.1.is in
      let small = small_immediate (LOOKED_AT - length text + 1) (omega arith) in
      let u = goes_to t (t.slot + 1) in
      ⊎_elim
      (λ past.
      let test = lt-ltb (LOOKED_AT - length text + 1) (p + 1) past in
      let none : hits part text place ≡ false = not_any part place (λ f.
      let both = and_parts (stand_at part text f.place) (nat_le (f.place + length text) 65536) f.holds in
      let fits = leb-true (f.place + length text) 65536 both.1 in
      ⊎_elim (λ before. true_false (stand_at part text f.place) both.0 (some.1.first f.place f.low before))
      (λ behind. absurd (omega arith)) (cases_lt f.place p)) in
      subst (Decides input (last_mark (length text)) t) (sym none)
      (mark_some t p inner false l is (skip_decides input jumps.Greater 0 (Immediate (pos (LOOKED_AT - length text + 1))) mark u false
      (rw (is, small, test) refl) (assumption l.ready) l.truth)))
      (λ there.
      let test = le-ltb (LOOKED_AT - length text + 1) (p + 1) there in
      let found : hits part text place ≡ true = to_any (hit part text) place (65536 - place) p some.1.low (omega (arith, some.1.high))
      (to_hit part text p some.1.holds (omega arith)) in
      subst (Decides input (last_mark (length text)) t) (sym found)
      (mark_some t p inner true l is (enter_decides input jumps.Greater 0 (Immediate (pos (LOOKED_AT - length text + 1))) mark u true
      (rw (is, small, test) refl) (mark_decides (goes_to u (u.slot + 1)) (assumption l.ready)))))
      (cases_lt (LOOKED_AT - length text + 1) (p + 1)))
      (λ none.
      let is = answer ∙ ap (λ (o : Option ℕ). Number (found_answer o)) none.is in
      let nothing : hits part text place ≡ false = not_any part place (λ f.
      let both = and_parts (stand_at part text f.place) (nat_le (f.place + length text) 65536) f.holds in
      true_false (stand_at part text f.place) both.0 (none.none f.place f.low (omega (arith, f.high)))) in
      subst (Decides input (last_mark (length text)) t) (sym nothing)
      (skip_decides input jumps.Equal 0 (Immediate (pos 0)) inner t false (rw is refl) l.ready l.truth))
      (least_cases (stand_at part text) place 4096)
    where
      true_false : (b : Bool) → b ≡ true → b ≡ false → ⊥
      true_false b x y = absurd cc

      not_any : (part : List ℕ) (place : ℕ) → (Found (hit part text) place (65536 - place) → ⊥) → hits part text place ≡ false
      not_any part place h = ⊎_elim (λ is. absurd (h (from_any (hit part text) place (65536 - place) is))) (λ not. not)
          (cases_Bool (hits part text place))

answer_long : (o : Option (Option (List ℕ))) → 2 ≤ length_answer o → length_answer o ≡ length (bytes_of_found o) + 2
answer_long None some = absurd (omega arith)
answer_long (Some None) some = absurd (omega arith)
answer_long (Some (Some text)) some = refl

no_hit : (part text : List ℕ) (place : ℕ) → (Found (hit part text) place (65536 - place) → ⊥) → hits part text place ≡ false
no_hit part text place h = ⊎_elim (λ is. absurd (h (from_any (hit part text) place (65536 - place) is))) (λ not. not)
    (cases_Bool (hits part text place))

module _ (input : Input) (text : List ℕ) (few : length text ≤ 255) (number : ℕ) where
  abbrev asked : Option (Option (List ℕ))
  asked = part_in input.given (part_numbered number)

  -- what is decided of the places from one on
  abbrev decided : ℕ → Bool
  decided place = nat_le (place + length text + 2) (length_answer (part_in input.given (part_numbered number)))
      && hits (bytes_of_found (part_in input.given (part_numbered number))) text place

  guard_decides : (n : ℕ) (block : Code) (b : Bool) (t : State) → n < 2 ^ 31 → Looking input text number t →
      ((u : State) → Looking input text number u → n ≤ length_answer (part_in input.given (part_numbered number)) →
      Decides input block u b) →
      Decides input (Then (Plain sized) (Unless jumps.Less 0 (Immediate (pos n)) block)) t
      (nat_le n (length_answer (part_in input.given (part_numbered number))) && b)
  guard_decides n block b t small l go =
      let a = length_answer (part_in input.given (part_numbered number)) in
      let u = run_list input sized t in
      let v = sized_looking input text few number t l in
      let answer = sized_answer input text few number t l in
      let same = small_immediate n small in
      then_decides input (Plain sized) (Unless jumps.Less 0 (Immediate (pos n)) block) t u (nat_le n a && b) refl
      (⊎_elim
      (λ short.
      let test = lt-ltb a n short in
      let not = lt-leb n a short in
      let none : (nat_le n a && b) ≡ false = rw not refl in
      subst (Decides input (Unless jumps.Less 0 (Immediate (pos n)) block) u) (sym none)
      (skip_decides input jumps.Less 0 (Immediate (pos n)) block u false (rw (answer, same, test) refl) v.ready v.truth))
      (λ long.
      let test = le-ltb a n long in
      let is = le-leb n a long in
      let all : (nat_le n a && b) ≡ b = rw is refl in
      subst (Decides input (Unless jumps.Less 0 (Immediate (pos n)) block) u) (sym all)
      (enter_decides input jumps.Less 0 (Immediate (pos n)) block u b (rw (answer, same, test) refl)
      (go (goes_to u (u.slot + 1)) (goes_looking input text few number u (u.slot + 1) v) long)))
      (cases_lt a n))

  further_is : (place : ℕ) → place + 4096 ≤ 65536 →
      NoPlace (stand_at (bytes_of_found (part_in input.given (part_numbered number))) text) place 4096 →
      place + length text + 2 ≤ length_answer (part_in input.given (part_numbered number)) →
      (nat_le (place + PLACES + length text + 2) (length_answer (part_in input.given (part_numbered number)))
      && hits (bytes_of_found (part_in input.given (part_numbered number))) text (place + PLACES))
      ≡ hits (bytes_of_found (part_in input.given (part_numbered number))) text place
  further_is place low none long =
      let o = part_in input.given (part_numbered number) in
      let part = bytes_of_found o in
      let size = answer_long o (omega arith) in
      same_truth (nat_le (place + PLACES + length text + 2) (length_answer o) && hits part text (place + PLACES)) (hits part text place)
      (λ e.
      let both = and_parts (nat_le (place + PLACES + length text + 2) (length_answer o)) (hits part text (place + PLACES)) e in
      let f = from_any (hit part text) (place + PLACES) (65536 - (place + PLACES)) both.1 in
      to_any (hit part text) place (65536 - place) f.place (omega (arith, f.low)) (omega (arith, f.high)) f.holds)
      (λ e.
      let f = from_any (hit part text) place (65536 - place) e in
      let both = and_parts (stand_at part text f.place) (nat_le (f.place + length text) 65536) f.holds in
      let reaches = stand_long part text f.place both.0 in
      ⊎_elim
      (λ before. absurd (both_ways (stand_at part text f.place) both.0 (none.none f.place f.low before)))
      (λ behind.
      and_from (nat_le (place + PLACES + length text + 2) (length_answer o)) (hits part text (place + PLACES))
      (le-leb (place + PLACES + length text + 2) (length_answer o) (omega arith))
      (to_any (hit part text) (place + PLACES) (65536 - (place + PLACES)) f.place behind (omega (arith, f.high)) f.holds))
      (cases_lt f.place (place + 4096)))
    where
      both_ways : (b : Bool) → b ≡ true → b ≡ false → ⊥
      both_ways b x y = absurd cc

  more_decides : (place : ℕ) (rest : Code) (v : State) → place + 8192 ≤ 65536 → Looking input text number v →
      v.registers 0 ≡ Number (found_answer (least_place (stand_at (bytes_of_found (part_in input.given (part_numbered number))) text) place 4096)) →
      place + length text + 2 ≤ length_answer (part_in input.given (part_numbered number)) →
      ((w : State) → Looking input text number w → Decides input rest w (decided (place + PLACES))) →
      Decides input (Then (Unless jumps.Equal 0 (Immediate (pos 0)) mark) (Unless jumps.NotEqual 8 (Immediate (pos 0)) rest)) v
      (hits (bytes_of_found (part_in input.given (part_numbered number))) text place)
  more_decides place rest v low l answer long go =
      let part = bytes_of_found (part_in input.given (part_numbered number)) in
      let first : Code = Unless jumps.Equal 0 (Immediate (pos 0)) mark in
      let next : Code = Unless jumps.NotEqual 8 (Immediate (pos 0)) rest in
      ⊎_elim
      (λ some.
      let p = some.0 in
      let is = answer ∙ ap (λ (o : Option ℕ). Number (found_answer o)) some.1.is in
      let found : hits part text place ≡ true = to_any (hit part text) place (65536 - place) p some.1.low (omega (arith, some.1.high))
      (to_hit part text p some.1.holds (omega (arith, some.1.high))) in
      let d = mark_some input text few number v p mark true l is
      (mark_decides input text few number (goes_to v (v.slot + 1)) (assumption l.ready)) in
      let truth = d.truth in
      subst (Decides input (Then first next) v) (sym found)
      (then_decides input first next v d.state true d.runs
      (skip_decides input jumps.NotEqual 8 (Immediate (pos 0)) rest d.state true (rw truth refl) d.ready d.truth)))
      (λ none.
      let is = answer ∙ ap (λ (o : Option ℕ). Number (found_answer o)) none.is in
      let w = goes_to v (v.slot + 1 + 1) in
      let x = goes_looking input text few number v (v.slot + 1 + 1) l in
      let truth = l.truth in
      subst (Decides input (Then first next) v) (further_is place (omega arith) none long)
      (then_decides input first next v w (decided (place + PLACES))
      (skipped input jumps.Equal 0 (Immediate (pos 0)) mark v (rw is refl))
      (enter_decides input jumps.NotEqual 8 (Immediate (pos 0)) rest w (decided (place + PLACES)) (rw truth refl)
      (go (goes_to w (w.slot + 1)) (goes_looking input text few number w (w.slot + 1) x)))))
      (least_cases (stand_at part text) place 4096)

  searches_decide : (place left : ℕ) (t : State) → place + PLACES * left + 4096 ≡ 65536 → Looking input text number t →
      Decides input (searches_code (length text) place left) t (decided place)
  unfolding searches_code
  searches_decide place zero t end l =
      let part = bytes_of_found (part_in input.given (part_numbered number)) in
      guard_decides (place + length text + 2) (Then (Plain (look (length text) place)) (last_mark (length text)))
      (hits part text place) t (omega arith) l
      (λ u v long. then_decides input (Plain (look (length text) place)) (last_mark (length text)) u
      (run_list input (look (length text) place) u) (hits part text place) refl
      (last_decides input text few number (run_list input (look (length text) place) u) place (omega arith)
      (look_looking input text few number u place v) (look_answer input text few number u place (omega arith) v)))
  searches_decide place (suc left) t end l =
      let part = bytes_of_found (part_in input.given (part_numbered number)) in
      let rest = searches_code (length text) (place + PLACES) left in
      let both : Code = Then (Unless jumps.Equal 0 (Immediate (pos 0)) mark) (Unless jumps.NotEqual 8 (Immediate (pos 0)) rest) in
      guard_decides (place + length text + 2) (Then (Plain (look (length text) place)) both)
      (hits part text place) t (omega arith) l
      (λ u v long. then_decides input (Plain (look (length text) place)) both u
      (run_list input (look (length text) place) u) (hits part text place) refl
      (more_decides place rest (run_list input (look (length text) place) u) (omega arith)
      (look_looking input text few number u place v) (look_answer input text few number u place (omega arith) v) long
      (λ w x. searches_decide (place + PLACES) left w (omega arith) x)))

has_is : (o : Option (Option (List ℕ))) (text : List ℕ) → length text ≤ 255 →
    (nat_le (0 + length text + 2) (length_answer o) && hits (bytes_of_found o) text 0)
    ≡ passes_if (λ bytes. occurs text (looked_at_of bytes)) (unwrap_or o None)
has_is None text few = let none = lt-leb (0 + length text + 2) 0 (omega arith) in rw none refl
has_is (Some None) text few = let none = lt-leb (0 + length text + 2) 1 (omega arith) in rw none refl
has_is (Some (Some xs)) text few = same_truth
    (nat_le (0 + length text + 2) (length xs + 2) && hits xs text 0) (occurs text (take 65536 xs))
    (λ e. sym (occurs_is text xs few) ∙ (and_parts (nat_le (0 + length text + 2) (length xs + 2)) (hits xs text 0) e).1)
    (λ e.
    let all = occurs_is text xs few ∙ e in
    let f = from_any (hit xs text) 0 (65536 - 0) all in
    let both = and_parts (stand_at xs text f.place) (nat_le (f.place + length text) 65536) f.holds in
    let long = stand_long xs text f.place both.0 in
    and_from (nat_le (0 + length text + 2) (length xs + 2)) (hits xs text 0)
    (le-leb (0 + length text + 2) (length xs + 2) (omega arith)) all)

cleared : (input : Input) (t : State) (text : List ℕ) (number : ℕ) → Ready input t → t.registers 6 ≡ Number number →
    HoldsText t.stack text (word_count (length text)) → Looking input text number (run_list input (set 8 (pos 0) ∷ []) t)
unfolding state_after
cleared input t text number ready is holds = record { ready = assumption ready; part = is; holds = holds; truth = refl }

pub has_decides : (input : Input) → IsInput input → (s : State) → Ready input s → (p : Part) (text : List ℕ) →
    FitsPart IsText p → IsText text → Decides input (has_code p text) s (test_has p text input.given)
unfolding has_code
has_decides input given s ready p text fits is =
    let r = part_run input given p fits s ready in
    let t = run_list input (part_code p) s in
    let has = text_has input near_stands text (bytes_of_text text is) is.few t r.ready in
    let u = run_list input (text_code NEAR text) t in
    let v = run_list input (set 8 (pos 0) ∷ []) u in
    let one = runs_both input (part_code p) (text_code NEAR text ++ set 8 (pos 0) ∷ []) s in
    let two = runs_both input (text_code NEAR text) (set 8 (pos 0) ∷ []) t in
    let l = cleared input u text r.number has.ready (has.kept 6 ∙ r.is) has.holds in
    let same = ap (λ (o : Option (Option (List ℕ))). nat_le (0 + length text + 2) (length_answer o)
    && hits (bytes_of_found o) text 0) r.names
    ∙ has_is (found p input.given) text is.few
    ∙ ap (passes_if (λ bytes. occurs text (looked_at_of bytes))) (sym (bytes_found p input.given)) in
    let all : Code = Then (Plain (part_code p ++ (text_code NEAR text ++ set 8 (pos 0) ∷ [])))
    (searches_code (length text) 0 OTHERS) in
    subst (Decides input all s) same
    (then_decides input (Plain (part_code p ++ (text_code NEAR text ++ set 8 (pos 0) ∷ []))) (searches_code (length text) 0 OTHERS)
    s v (decided input text is.few r.number 0) (ap On (one ∙ two))
    (searches_decide input text is.few r.number 0 OTHERS v (omega arith) l))
