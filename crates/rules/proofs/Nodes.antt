-- The nodes of a condition behind others.
use Rattle.std.proofs.Common.{◌≡◌, ℕ, List, [], ◌∷◌, ◌++◌, length, Some, None, Result, Ok, Err, refl, sym, ap, ◌∙◌}
use Rattle.std.proofs.Common.{append_assoc}
use Rattle.std.specs.Prelude.{codes, insert}
use Rattle.std.proofs.lemmas.List.{append-nil}
use Rattle.wire_spec.specs.Memory.{AnswersAs}
use Rattle.rules.specs.declared.{condition.Node.Node, fault.LineFault.LineFault}
use Rattle.rules.specs.declared.condition.Node.TheVariants as node
use Rattle.rules.specs.declared.fault.LineFault.TheVariants as fault
use Rattle.rules.specs.Formulas.{Formula, Negated, before, formulas_of}
use Rattle.rules.specs.Nodes.{AreBehind, PutsAs}
use Rattle.rules.specs.Scanning.{Read, after_word, sign_expected}
use Rattle.rules.specs.Reading.{joined, enclosed_at, negated_at}

inserted : (old part : List Node) (what : Node) → insert (old ++ part) (length old) what ≡ old ++ what ∷ part
inserted [] part what = refl
inserted (first ∷ old) part what = ap (λ (nodes : List Node). first ∷ nodes) (inserted old part what)

-- the nodes of one condition and nothing else
pub alone : (new : List Node) (c : Formula) → AreBehind [] new c → formulas_of new ≡ c ∷ []
alone new c put = ap formulas_of (put.is ∙ sym (append-nil put.part)) ∙ put.whole []

-- `not` before a condition
denied : (old new : List Node) (inner : Formula) → AreBehind (old ++ node.Not ∷ []) new inner →
    AreBehind old new (Negated inner)
denied old new inner put = record {
  part = node.Not ∷ put.part;
  is = put.is ∙ append_assoc old (node.Not ∷ []) put.part;
  whole = λ more. ap (before node.Not) (put.whole more);
}

-- a node before two conditions, which is put there when the first one is read
paired : (what : Node) (join : Formula → Formula → Formula) (old middle new : List Node) (one other : Formula) →
    ((rest : List Formula) → before what (one ∷ other ∷ rest) ≡ join one other ∷ rest) →
    AreBehind old middle one → AreBehind (insert middle (length old) what) new other → AreBehind old new (join one other)
paired what join old middle new one other law first second =
    let start = ap (λ (nodes : List Node). insert nodes (length old) what) first.is ∙ inserted old first.part what in
    record {
      part = what ∷ (first.part ++ second.part);
      is = second.is ∙ ap (λ (nodes : List Node). nodes ++ second.part) start
          ∙ append_assoc old (what ∷ first.part) second.part;
      whole = λ more. ap (before what) (ap formulas_of (append_assoc first.part second.part more)
          ∙ first.whole (second.part ++ more) ∙ ap (λ (rest : List Formula). one ∷ rest) (second.whole more))
          ∙ law (formulas_of more);
    }

-- ---- what is read

pub negates : {X : Type 0} (old start new : List Node) (left : X → List ℕ) (result : Result X LineFault)
    (one : List ℕ → Read Formula) (text : List ℕ) → start ≡ old ++ node.Not ∷ [] →
    PutsAs start new left result (one text) → PutsAs old new left result (negated_at one text)
negates old start new left (Ok x) one text is put =
    (Negated put.0, rw put.1 refl, denied old new put.0 (rw (← is) put.2))
negates old start new left (Err f) one text is put = λ other. rw (put other) refl

pub joins : {X : Type 0} (what : Node) (join : Formula → Formula → Formula) (word : List ℕ)
    (second : List ℕ → Read Formula) (old middle start new : List Node) (place : ℕ) (first : Formula)
    (end rest : List ℕ) (left : X → List ℕ) (result : Result X LineFault) → place ≡ length old →
    ((one other : Formula) (more : List Formula) → before what (one ∷ other ∷ more) ≡ join one other ∷ more) →
    Some rest ≡ after_word word end → AreBehind old middle first → start ≡ insert middle place what →
    PutsAs start new left result (second rest) → PutsAs old new left result (joined word join second (first, end))
joins what join word second old middle start new place first end rest left (Ok x) there law is put begins more = (
  join first more.0,
  rw (← is, more.1) refl,
  paired what join old middle new first more.0 (law first more.0) put (rw (← there, ← begins) more.2),
)
joins what join word second old middle start new place first end rest left (Err f) there law is put begins more =
    λ other. rw (← is, more other) refl

pub joins_none : (join : Formula → Formula → Formula) (word : List ℕ) (second : List ℕ → Read Formula)
    (first : Formula) (end : List ℕ) → None ≡ after_word word end →
    joined word join second (first, end) ≡ Ok (first, end)
joins_none join word second first end none = rw (← none) refl

pub encloses : {X : Type 0} (old new : List Node) (left : X → List ℕ) (result : Result X LineFault)
    (whole : List ℕ → Read Formula) (inner : Formula) (text end : List ℕ) → whole text ≡ Ok (inner, end) →
    AreBehind old new inner → AnswersAs fault.Memory left result (sign_expected (codes ")") end) →
    PutsAs old new left result (enclosed_at whole text)
encloses old new left (Ok x) whole inner text end is put closed = (inner, rw (is, closed) refl, put)
encloses old new left (Err f) whole inner text end is put closed = λ other. rw (is, closed other) refl
