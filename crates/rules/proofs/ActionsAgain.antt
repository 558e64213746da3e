-- Actions are read again as they were printed.
use Rattle.std.proofs.Common.{◌≡◌, ℕ, ◌-◌, ◌^◌, ◌<◌, true, false, List, ◌∷◌, ◌++◌, Option, Some, None}
use Rattle.std.proofs.Common.{Ok, refl, ap, ◌∙◌, arith, append_assoc, decimal}
use Rattle.std.specs.Prelude.{codes}
use Rattle.rules.specs.declared.{rule.Part.Part, rule.Cut.Cut, rule.Output.Output, rule.AddedHeader.AddedHeader}
use Rattle.rules.specs.declared.rule.Action.{Action}
use Rattle.rules.specs.declared.rule.Part.TheVariants as part
use Rattle.rules.specs.declared.rule.Output.TheVariants as output
use Rattle.rules.specs.declared.rule.Action.TheVariants as action
use Rattle.rules.specs.declared.limits.TheConstants.{MAX_PLACE, MAX_OUTPUT, MAX_HASHED}
use Rattle.rules.specs.Limits.{IsText, IsFrom, FitsPart, FitsEnd, FitsCut, FitsOutput, FitsAdded, FitsAction}
use Rattle.rules.specs.Scanning.{Read, word_at, behind_word, after_word, after_sign}
use Rattle.rules.specs.Scanning.{word_expected, sign_expected, is_number, number_in, text_at}
use Rattle.rules.specs.Reading.{names_part, part_at, drop_at, tombstone_at, hashed_at, from_at, to_at}
use Rattle.rules.specs.Reading.{cut_end_at, cut_at, changed_at, form_at, output_at, header_at, added_at, outputs_at}
use Rattle.rules.specs.Reading.{action_at}
use Rattle.rules.specs.Writing.{quoted_text, part_text, argument_text, from_text, to_text}
use Rattle.rules.specs.Writing.{output_text, added_text, action_text}
use Rattle.rules.proofs.WordsAgain.{is_apart, word_space, number_word, number_is_no_word, in_again, in_space, no_sign_of_number}
use Rattle.rules.proofs.WordsAgain.{named_space, text_again, text_space}
use Rattle.rules.proofs.Appends.{assoc3, assoc4, assoc5, assoc6}
use Rattle.rules.proofs.TestsAgain.{part_again, part_space, part_named, argument_printed, closed}

-- what follows an action ends it
pub record EndsAction (rest : List ℕ) : Type 0 where
  pub apart : is_apart rest ≡ true
  pub no_with : after_word (codes "with") rest ≡ None
  pub no_part : names_part (word_at rest) ≡ false
  pub no_and : after_word (codes "and") rest ≡ None

-- what follows an output, a header that is added among it
record EndsOutput (rest : List ℕ) : Type 0 where
  apart : is_apart rest ≡ true
  no_with : after_word (codes "with") rest ≡ None
  no_part : names_part (word_at rest) ≡ false

-- ---- cuts

from_again : (from : ℕ) (rest : List ℕ) → IsFrom 0 MAX_PLACE from → from_at (from_text from ++ rest) ≡ Ok (from, rest)
unfolding from_at sign_expected after_sign
from_again from rest is =
    let regrouped : (decimal from ++ codes "..") ++ rest ≡ decimal from ++ (46 ∷ 46 ∷ rest) =
    append_assoc (decimal from) (codes "..") rest in
    let number : number_in 0 MAX_PLACE ((decimal from ++ codes "..") ++ rest) ≡ Ok (from, 46 ∷ 46 ∷ rest) =
    ap (number_in 0 MAX_PLACE) regrouped
    ∙ in_again 0 MAX_PLACE from (46 ∷ 46 ∷ rest) is (omega (arith, is.high_is)) refl in
    rw number refl

to_again : (from to : ℕ) (rest : List ℕ) → IsFrom from MAX_PLACE to → to_at from (decimal to ++ (93 ∷ rest)) ≡ Ok (to, rest)
unfolding to_at sign_expected after_sign
to_again from to rest is = rw (in_again from MAX_PLACE to (93 ∷ rest) is (omega (arith, is.high_is)) refl) refl

no_end : (from : ℕ) (rest : List ℕ) → cut_end_at from (93 ∷ rest) ≡ Ok (record { from = from; to = None }, rest)
unfolding cut_end_at after_sign
no_end from rest = refl

cut_end_again : (from : ℕ) (to : Option ℕ) (rest : List ℕ) → FitsEnd from to →
    cut_end_at from (to_text to ++ rest) ≡ Ok (record { from = from; to = to }, rest)
unfolding cut_end_at
cut_end_again from None rest fits = no_end from rest
cut_end_again from (Some to) rest fits =
    let regrouped : (decimal to ++ codes "]") ++ rest ≡ decimal to ++ (93 ∷ rest) =
    append_assoc (decimal to) (codes "]") rest in
    rw (regrouped, no_sign_of_number 93 to (93 ∷ rest) refl (omega (arith, fits.high_is)), to_again from to rest fits) refl

-- ---- outputs

number_space : (n : ℕ) (rest : List ℕ) → IsFrom 0 MAX_OUTPUT n → is_apart rest ≡ true →
    number_in 0 MAX_OUTPUT (32 ∷ (decimal n ++ rest)) ≡ Ok (n, rest)
number_space n rest is apart =
    in_space 0 MAX_OUTPUT (decimal n ++ rest) ∙ in_again 0 MAX_OUTPUT n rest is (omega (arith, is.high_is)) apart

-- an output that begins with its number
numbered : (n : ℕ) (rest : List ℕ) (answer : Read Output) → IsFrom 0 MAX_OUTPUT n → is_apart rest ≡ true →
    form_at n rest ≡ answer → output_at (32 ∷ (decimal n ++ rest)) ≡ answer
unfolding output_at
numbered n rest answer is apart form =
    let none : after_word (codes "hash") (32 ∷ (decimal n ++ rest)) ≡ None =
    word_space (codes "hash") (decimal n ++ rest)
    ∙ number_is_no_word 104 (codes "ash") n rest refl (omega (arith, is.high_is)) apart in
    rw (none, number_space n rest is apart) form

record_again : (n : ℕ) (rest : List ℕ) → EndsOutput rest → form_at n rest ≡ Ok (output.Record n, rest)
unfolding form_at
record_again n rest ends = rw (ends.no_with, ends.no_part) refl

percent : (text : List ℕ) → sign_expected (codes "%") (codes " %" ++ text) ≡ Ok text
unfolding sign_expected after_sign
percent text = refl

hashed_again : (p : Part) (n : ℕ) (rest : List ℕ) → FitsPart IsText p → IsFrom 1 MAX_HASHED n → is_apart rest ≡ true →
    hashed_at (argument_text p ++ (codes ") % " ++ (decimal n ++ rest))) ≡ Ok (output.Hashed p n, rest)
unfolding hashed_at
hashed_again p n rest fits is apart =
    let number : number_in 1 MAX_HASHED (32 ∷ (decimal n ++ rest)) ≡ Ok (n, rest) =
    in_space 1 MAX_HASHED (decimal n ++ rest) ∙ in_again 1 MAX_HASHED n rest is (omega (arith, is.high_is)) apart in
    rw (
      argument_printed p (codes ") % " ++ (decimal n ++ rest)) fits refl,
      closed (codes " % " ++ (decimal n ++ rest)),
      percent (32 ∷ (decimal n ++ rest)),
      number,
    ) refl

part_is_no_with : (p : Part) (rest : List ℕ) → after_word (codes "with") (32 ∷ (part_text p ++ 91 ∷ rest)) ≡ None
unfolding after_word word_at
part_is_no_with part.Value rest = refl
part_is_no_with part.Key rest = refl
part_is_no_with (part.Header name) rest = refl

cut_again : (n : ℕ) (p : Part) (cut : Cut) (rest : List ℕ) → FitsPart IsText p → FitsCut cut →
    form_at n (32 ∷ (part_text p ++ (from_text cut.from ++ (to_text cut.to ++ rest)))) ≡ Ok (output.Cut n p cut, rest)
unfolding form_at cut_at
cut_again n p cut rest fits is =
    let more = from_text cut.from ++ (to_text cut.to ++ rest) in
    let inside = (decimal cut.from ++ codes "..") ++ (to_text cut.to ++ rest) in
    let named : names_part (word_at (32 ∷ (part_text p ++ more))) ≡ true =
    ap names_part (named_space (part_text p ++ more)) ∙ part_named p 91 inside refl in
    let read : part_at (32 ∷ (part_text p ++ more)) ≡ Ok (p, more) =
    part_space (part_text p ++ more) ∙ part_again p more fits refl in
    rw (
      part_is_no_with p inside,
      named,
      read,
      from_again cut.from (to_text cut.to ++ rest) is.from,
      cut_end_again cut.from cut.to rest is.to,
    ) refl

with_is : (text : List ℕ) → after_word (codes "with") (codes " with" ++ (32 ∷ text)) ≡ Some (32 ∷ text)
unfolding after_word word_at behind_word
with_is text = refl

value_is : (text : List ℕ) → word_expected (codes "value") (codes " value" ++ (91 ∷ text)) ≡ Ok (91 ∷ text)
unfolding word_expected after_word word_at behind_word
value_is text = refl

equal_is : (text : List ℕ) → sign_expected (codes "=") (codes " =" ++ text) ≡ Ok text
unfolding sign_expected after_sign
equal_is text = refl

changed_again : (n from to : ℕ) (text rest : List ℕ) → IsFrom 0 MAX_PLACE from → IsFrom from MAX_PLACE to → IsText text →
    form_at n (codes " with value" ++ (from_text from ++ (to_text (Some to) ++ (codes " = " ++ (quoted_text text ++ rest)))))
    ≡ Ok (output.Changed n from to text, rest)
unfolding form_at changed_at
changed_again n from to text rest start end is =
    let last = 32 ∷ (quoted_text text ++ rest) in
    let more = to_text (Some to) ++ (codes " =" ++ last) in
    let end_read : to_at from more ≡ Ok (to, codes " =" ++ last) =
    ap (to_at from) (append_assoc (decimal to) (codes "]") (codes " =" ++ last)) ∙ to_again from to (codes " =" ++ last) end in
    let read : text_at last ≡ Ok (text, rest) = text_space (quoted_text text ++ rest) ∙ text_again text rest is in
    rw (
      with_is (codes "value" ++ (from_text from ++ more)),
      value_is ((decimal from ++ codes "..") ++ more),
      from_again from more start,
      end_read,
      equal_is last,
      read,
    ) refl

hash_is : (more : List ℕ) (answer : Read Output) → hashed_at (40 ∷ more) ≡ answer →
    output_at (codes " hash" ++ 40 ∷ more) ≡ answer
unfolding output_at after_word word_at behind_word
hash_is more answer is = is

-- an output, after its word
output_again : (o : Output) (rest : List ℕ) → FitsOutput IsText o → EndsOutput rest →
    (more : List ℕ) × (output_text o ++ rest ≡ codes "output " ++ more) × (output_at (32 ∷ more) ≡ Ok (o, rest))
unfolding output_text
output_again (output.Record n) rest fits ends =
    (decimal n ++ rest, refl, numbered n rest _ fits ends.apart (record_again n rest ends))
output_again (output.Hashed p n) rest fits ends =
    let inside = part_text p ++ (codes ") % " ++ (decimal n ++ rest)) in
    let more = argument_text p ++ (codes ") % " ++ (decimal n ++ rest)) in
    let regrouped : (argument_text p ++ (codes ") % " ++ decimal n)) ++ rest ≡ more =
    assoc3 (argument_text p) (codes ") % ") (decimal n) rest in (
      codes "hash" ++ more,
      ap (λ (t : List ℕ). codes "output hash" ++ t) regrouped,
      hash_is inside _ (hashed_again p n rest fits.0 fits.1 ends.apart),
    )
output_again (output.Cut n p cut) rest fits ends =
    let more = 32 ∷ (part_text p ++ (from_text cut.from ++ (to_text cut.to ++ rest))) in
    let regrouped : (decimal n ++ (codes " " ++ (part_text p ++ (from_text cut.from ++ to_text cut.to)))) ++ rest
    ≡ decimal n ++ more =
    assoc5 (decimal n) (codes " ") (part_text p) (from_text cut.from) (to_text cut.to) rest in (
      decimal n ++ more,
      ap (λ (t : List ℕ). codes "output " ++ t) regrouped,
      numbered n more _ fits.0 refl (cut_again n p cut rest fits.1.0 fits.1.1),
    )
output_again (output.Changed n from to text) rest fits ends =
    let more = codes " with value" ++ (from_text from ++ (to_text (Some to) ++ (codes " = " ++ (quoted_text text ++ rest)))) in
    let regrouped : (decimal n ++ (codes " with value"
    ++ (from_text from ++ (to_text (Some to) ++ (codes " = " ++ quoted_text text))))) ++ rest
    ≡ decimal n ++ more =
    assoc6 (decimal n) (codes " with value") (from_text from) (to_text (Some to)) (codes " = ") (quoted_text text) rest in (
      decimal n ++ more,
      ap (λ (t : List ℕ). codes "output " ++ t) regrouped,
      numbered n more _ fits.0 refl (changed_again n from to text rest fits.1.0 fits.1.1.0 fits.1.1.1),
    )

-- ---- headers that are added

and_is : (text : List ℕ) → after_word (codes "and") (codes " and header" ++ text) ≡ Some (codes " header" ++ text)
unfolding after_word word_at behind_word
and_is text = refl

header_is : (text : List ℕ) → word_expected (codes "header") (codes " header" ++ 32 ∷ text) ≡ Ok (32 ∷ text)
unfolding word_expected after_word word_at behind_word
header_is text = refl

added_again : (added : Option AddedHeader) (rest : List ℕ) → FitsAdded IsText added → EndsAction rest →
    added_at (added_text added ++ rest) ≡ Ok (added, rest)
unfolding added_at header_at
added_again None rest fits ends = rw ends.no_and refl
added_again (Some h) rest fits ends =
    let last = 32 ∷ (quoted_text h.value ++ rest) in
    let middle = codes " =" ++ last in
    let first = 32 ∷ (quoted_text h.key ++ middle) in
    let regrouped : added_text (Some h) ++ rest ≡ codes " and header" ++ first =
    assoc4 (codes " and header ") (quoted_text h.key) (codes " = ") (quoted_text h.value) rest in
    let key : text_at first ≡ Ok (h.key, middle) =
    text_space (quoted_text h.key ++ middle) ∙ text_again h.key middle fits.0 in
    let value : text_at last ≡ Ok (h.value, rest) =
    text_space (quoted_text h.value ++ rest) ∙ text_again h.value rest fits.1 in
    rw (regrouped, and_is first, header_is (quoted_text h.key ++ middle), key, equal_is last, value) refl

added_ends : (added : Option AddedHeader) (rest : List ℕ) → EndsAction rest → EndsOutput (added_text added ++ rest)
unfolding after_word word_at
added_ends None rest ends = record { apart = ends.apart; no_with = ends.no_with; no_part = ends.no_part }
added_ends (Some h) rest ends = record { apart = refl; no_with = refl; no_part = refl }

-- ---- actions

no_drop : (text : List ℕ) → after_word (codes "drop") (codes "output " ++ text) ≡ None
unfolding after_word word_at
no_drop text = refl

no_tombstone : (text : List ℕ) → after_word (codes "tombstone") (codes "output " ++ text) ≡ None
unfolding after_word word_at
no_tombstone text = refl

output_is : (text : List ℕ) → word_expected (codes "output") (codes "output " ++ text) ≡ Ok (32 ∷ text)
unfolding word_expected after_word word_at behind_word
output_is text = refl

outputs_again : (o : Output) (added : Option AddedHeader) (rest : List ℕ) → FitsOutput IsText o →
    FitsAdded IsText added → EndsAction rest →
    action_at ((output_text o ++ added_text added) ++ rest) ≡ Ok (action.Output o added, rest)
unfolding action_at outputs_at
outputs_again o added rest fits more ends =
    let next = added_text added ++ rest in
    let is = output_again o next fits (added_ends added rest ends) in
    let text : (output_text o ++ added_text added) ++ rest ≡ codes "output " ++ is.0 =
    append_assoc (output_text o) (added_text added) rest ∙ is.1 in
    rw (text, no_drop is.0, no_tombstone is.0, output_is is.0, is.2, added_again added rest more ends) refl

drop_is : (text : List ℕ) → after_word (codes "drop") (codes "drop " ++ text) ≡ Some (32 ∷ text)
unfolding after_word word_at behind_word
drop_is text = refl

drop_again : (code : ℕ) (rest : List ℕ) → IsFrom 1 (2 ^ 64 - 1) code → is_apart rest ≡ true →
    action_at ((codes "drop " ++ decimal code) ++ rest) ≡ Ok (action.Drop code, rest)
unfolding action_at drop_at
drop_again code rest is apart =
    let small : code < 2 ^ 64 = omega (arith, is.high_is) in
    let number : number_in 1 (2 ^ 64 - 1) (32 ∷ (decimal code ++ rest)) ≡ Ok (code, rest) =
    in_space 1 (2 ^ 64 - 1) (decimal code ++ rest) ∙ in_again 1 (2 ^ 64 - 1) code rest is small apart in
    let seen : is_number (word_at (32 ∷ (decimal code ++ rest))) ≡ true =
    ap is_number (named_space (decimal code ++ rest)) ∙ number_word code rest small apart in
    rw (drop_is (decimal code ++ rest), seen, number) refl

drop_is_no_tombstone : (text : List ℕ) → after_word (codes "drop") (codes "tombstone " ++ text) ≡ None
unfolding after_word word_at
drop_is_no_tombstone text = refl

tombstone_is : (text : List ℕ) → after_word (codes "tombstone") (codes "tombstone " ++ text) ≡ Some (32 ∷ text)
unfolding after_word word_at behind_word
tombstone_is text = refl

tombstone_again : (n : ℕ) (rest : List ℕ) → IsFrom 0 MAX_OUTPUT n → is_apart rest ≡ true →
    action_at ((codes "tombstone " ++ decimal n) ++ rest) ≡ Ok (action.Tombstone n, rest)
unfolding action_at tombstone_at
tombstone_again n rest is apart =
    rw (drop_is_no_tombstone (decimal n ++ rest), tombstone_is (decimal n ++ rest), number_space n rest is apart) refl

pub action_again : (a : Action) (rest : List ℕ) → FitsAction IsText a → EndsAction rest →
    action_at (action_text a ++ rest) ≡ Ok (a, rest)
unfolding action_text
action_again (action.Drop code) rest fits ends = drop_again code rest fits ends.apart
action_again (action.Tombstone n) rest fits ends = tombstone_again n rest fits ends.apart
action_again (action.Output o added) rest fits ends = outputs_again o added rest fits.0 fits.1 ends
