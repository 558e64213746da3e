use Rattle.std.proofs.Common.{◌≡◌, List, ◌∷◌, ◌++◌, ℕ, map, rules, sym, ap, subst, ◌∙◌}
use Rattle.std.specs.{List.flat_map, Map.Iter.deref_pair}
use Rattle.std.proofs.lemmas.Map.Iter.{rest_so_far, rest_more}
use Rattle.report.specs.Texts.{reject_line, rejects_text}
use Rattle.report.proofs.WrittenLaws.{seen_more, writes_fault, begun_part, begun_next}
use Rattle.report.proofs.writing.put_rejects.Goals as goal
use Rattle.wire_spec.specs.Writing.{HasBegun}

pub loop-code-preserved : goal.loop-code-preserved
loop-code-preserved g c =
    let text : c.as_str.result.now ≡ reject_line c.args.input c.in-Some.code.now c.in-Some.count.now = search rules in
    seen_more deref_pair (λ (listed : ℕ × ℕ). reject_line c.args.input listed.0 listed.1) c.loop-code.yielded
    (c.in-Some.code, c.in-Some.count)
    (g.W.Write.contents c.args.out.now) (g.W.Write.contents c.loop-code.out) (g.W.Write.contents c.put.new.out)
    c.as_str.result.now c.loop-code.invariant c.in_ok-put.ensures text

pub returns-in_err-line : goal.returns-in_err-line
returns-in_err-line g c =
    let text = λ (listed : ℕ × ℕ). reject_line c.args.input listed.0 listed.1 in
    let start = g.W.Write.contents c.args.out.now in let before = g.W.Write.contents c.loop-code.out in
    let all : List (ℕ × ℕ) = c.args.rejects.now.entries in let done : List (ℕ × ℕ) =
    map deref_pair c.loop-code.yielded in let left : List (ℕ × ℕ) = c.loop-code.code-iterator in
    let from : c.into_iter-code-iterator.result ≡ all = search rules in
    let whole : done ++ left ≡ all =
    sym (rest_so_far deref_pair c.loop-code.yielded c.into_iter-code-iterator.result left c.loop-code.yielded_by)
    ∙ from in
    writes_fault start before (rejects_text c.args.input all) c.from_residual.result c.from_residual.ensures.0
    (subst (λ (xs : List (ℕ × ℕ)). HasBegun start before (flat_map text xs)) whole
    (begun_part text done left start before c.loop-code.invariant))

pub returns-in_err-put : goal.returns-in_err-put
returns-in_err-put g c =
    let text = λ (listed : ℕ × ℕ). reject_line c.args.input listed.0 listed.1 in
    let start = g.W.Write.contents c.args.out.now in let before = g.W.Write.contents c.loop-code.out in let after =
    g.W.Write.contents c.put.new.out in
    let all : List (ℕ × ℕ) = c.args.rejects.now.entries in let done : List (ℕ × ℕ) =
    map deref_pair c.loop-code.yielded in let left : List (ℕ × ℕ) = c.loop-code.code-iterator in
    let x : ℕ × ℕ = (c.in-Some.code.now, c.in-Some.count.now) in
    let line : c.as_str.result.now ≡ text x = search rules in
    let from : c.into_iter-code-iterator.result ≡ all = search rules in
    let whole : done ++ left ≡ all =
    sym (rest_so_far deref_pair c.loop-code.yielded c.into_iter-code-iterator.result left c.loop-code.yielded_by)
    ∙ from in
    let next : left ≡ x ∷ c.next.new.self =
    rest_more deref_pair left c.next.new.self c.next.result (c.in-Some.code, c.in-Some.count) c.in-Some.is
    c.next.ensures.steps in
    let split : done ++ x ∷ c.next.new.self ≡ all = ap (λ (xs : List (ℕ × ℕ)). done ++ xs) (sym next) ∙ whole in
    let begun : HasBegun before after (text x) =
    subst (λ (bs : List ℕ). HasBegun before after bs) line c.in_err-put.ensures in
    writes_fault start after (rejects_text c.args.input all) c.from_residual-in_err-put.result
    c.from_residual-in_err-put.ensures.0
    (subst (λ (xs : List (ℕ × ℕ)). HasBegun start after (flat_map text xs)) split
    (begun_next text done x c.next.new.self start before after c.loop-code.invariant begun))
