use Rattle.std.proofs.Common.{◌++◌, List, ℕ, subst}
use Rattle.std.specs.{List.flat_map, Io.KnownBytes.Appends}
use Rattle.report.specs.{Holdings.Held, Totals.Tallied, Writes.Writes}
use Rattle.report.specs.Texts.{output_rows, output_lines, tally_text, report_text}
use Rattle.report.proofs.WrittenLaws.{writes_fault, writes_then, begun_first}
use Rattle.report.proofs.writing.write.Goals as goal
use Rattle.wire_spec.proofs.Beginnings.{begun_then}
use Rattle.wire_spec.specs.Writing.{HasBegun}

pub returns-in_err-put_all_rows : goal.returns-in_err-put_all_rows
returns-in_err-put_all_rows g c =
    let s = c.args.snapshot.now in let start = g.W.Write.contents c.args.out.now in let after =
    g.W.Write.contents c.put_all_rows.new.out in
    let rows : List ℕ = flat_map output_rows s.outputs in let others : List ℕ = flat_map output_lines s.outputs
    ++ flat_map tally_text s.inputs in
    let begun : HasBegun start after rows =
    subst (λ (hs : List (List Held)). HasBegun start after (flat_map output_rows hs)) c.holdings.ensures
    c.in_err-put_all_rows.ensures in
    writes_fault start after (report_text s) c.from_residual.result c.from_residual.ensures.0
    (begun_first start after rows others begun)

pub returns-in_err-put_all_held : goal.returns-in_err-put_all_held
returns-in_err-put_all_held g c =
    let s = c.args.snapshot.now in let start = g.W.Write.contents c.args.out.now in let after =
    g.W.Write.contents c.put_all_rows.new.out in let end = g.W.Write.contents c.put_all_held.new.out in
    let rows : List ℕ = flat_map output_rows s.outputs in let lines : List ℕ = flat_map output_lines s.outputs in
    let others : List ℕ = flat_map tally_text s.inputs in
    let first : Appends start after rows =
    subst (λ (hs : List (List Held)). Appends start after (flat_map output_rows hs)) c.holdings.ensures
    c.in_ok-put_all_rows.ensures in
    let begun : HasBegun after end lines =
    subst (λ (hs : List (List Held)). HasBegun after end (flat_map output_lines hs)) c.holdings-2.ensures
    c.in_err-put_all_held.ensures in
    writes_fault start end (report_text s) c.from_residual-in_err-put_all_held.result
    c.from_residual-in_err-put_all_held.ensures.0
    (begun_then start after end rows (lines ++ others) first (begun_first after end lines others begun))

pub returns : goal.returns
returns g c =
    let s = c.args.snapshot.now in let start = g.W.Write.contents c.args.out.now in let after =
    g.W.Write.contents c.put_all_rows.new.out in let next = g.W.Write.contents c.put_all_held.new.out in
    let end = g.W.Write.contents c.put_all_tallies.new.out in let r = c.put_all_tallies.result in
    let rows : List ℕ = flat_map output_rows s.outputs in let lines : List ℕ = flat_map output_lines s.outputs in
    let others : List ℕ = flat_map tally_text s.inputs in
    let first : Appends start after rows =
    subst (λ (hs : List (List Held)). Appends start after (flat_map output_rows hs)) c.holdings.ensures
    c.in_ok-put_all_rows.ensures in
    let second : Appends after next lines =
    subst (λ (hs : List (List Held)). Appends after next (flat_map output_lines hs)) c.holdings-2.ensures
    c.in_ok-put_all_held.ensures in
    let third : Writes next end others r =
    subst (λ (ts : List Tallied). Writes next end (flat_map tally_text ts) r) c.tallies.ensures
    c.put_all_tallies.ensures in
    writes_then start after end rows (lines ++ others) r first (writes_then after next end lines others r second third)
