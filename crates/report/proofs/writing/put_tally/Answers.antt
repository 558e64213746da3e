use Rattle.std.proofs.Common.{◌≡◌, List, ℕ, length, rules, ap, subst, ◌∙◌}
use Rattle.std.specs.Io.KnownBytes.{Appends}
use Rattle.part_log.specs.Parts.{Log}
use Rattle.fates.specs.Totals.{Totals}
use Rattle.report.specs.Texts.{items_line, rejects_text, tally_text}
use Rattle.report.proofs.WrittenLaws.{writes_fault, writes_then, writes_same, begun_first}
use Rattle.report.proofs.writing.put_tally.Goals as goal
use Rattle.wire_spec.specs.Writing.{HasBegun}

pub returns-in_err-put : goal.returns-in_err-put
returns-in_err-put g c =
    let t = c.args.tally.now in let start = g.W.Write.contents c.args.out.now in let after =
    g.W.Write.contents c.put.new.out in
    let line : List ℕ = items_line t.first.partition (length t.first.items) t.totals.records t.totals.unprogrammed
    t.totals.kept in let rejects : List ℕ = rejects_text t.first.partition t.totals.rejects in
    let text : c.as_str.result.now ≡ line = search rules in
    let begun : HasBegun start after line =
    subst (λ (bs : List ℕ). HasBegun start after bs) text c.in_err-put.ensures in
    writes_fault start after (tally_text t) c.from_residual-in_err-put.result c.from_residual-in_err-put.ensures.0
    (begun_first start after line rejects begun)

pub returns : goal.returns
returns g c =
    let t = c.args.tally.now in let start = g.W.Write.contents c.args.out.now in let after =
    g.W.Write.contents c.put.new.out in let end = g.W.Write.contents c.put_rejects.new.out in
    let r = c.put_rejects.result in let listed = c.rejects.result.now.entries in
    let line : List ℕ = items_line t.first.partition (length t.first.items) t.totals.records t.totals.unprogrammed
    t.totals.kept in let rejects : List ℕ = rejects_text t.first.partition t.totals.rejects in
    let text : c.as_str.result.now ≡ line = search rules in
    let first : Appends start after line = subst (λ (bs : List ℕ). Appends start after bs) text c.in_ok-put.ensures in
    let number : c.partition-input.result ≡ t.first.partition = c.partition-input.ensures
    ∙ ap (λ (l : Log). l.partition) c.first.ensures in
    let codes : listed ≡ t.totals.rejects = c.rejects.ensures
    ∙ ap (λ (x : Totals). x.rejects) c.counts-counts.ensures.counts in
    let same : rejects_text c.partition-input.result listed ≡ rejects =
    ap (λ (n : ℕ). rejects_text n listed) number
    ∙ ap (λ (es : List (ℕ × ℕ)). rejects_text t.first.partition es) codes in
    writes_then start after end line rejects r first (writes_same after end
    (rejects_text c.partition-input.result listed) rejects r same c.put_rejects.ensures)
