use Rattle.std.proofs.Common.{◌≡◌, ℕ, ◌+◌, ◌≤◌, ◌++◌, List, length, take, drop, sym, ap, subst, ◌∙◌, arith}
use Rattle.std.proofs.lemmas.List.{take-append-drop, length-take-le}
use Rattle.wire_spec.specs.declared.record.Record.{Record}
use Rattle.log_spec.specs.declared.row.Row.{Row}
use Rattle.fates.specs.Totals.{Totals}
use Rattle.item_rows.specs.declared.batch_run.BatchRun.{BatchRun}
use Rattle.item_rows.specs.Blocks.{records_from, IsPartOf, CanRun, HaveRun}
use Rattle.item_rows.proofs.RowLaws.{take_all}
use Rattle.item_rows.proofs.BlockLaws.{none_run, run_then, can_run_rest, can_run_first, is_part}
use Rattle.item_rows.proofs.batch_run.BatchRun.push_all.Goals as goal

-- so many of the records after the first ones can be run where those were
can_here : (run : BatchRun) (done count : ℕ) (old new : List (List Row)) (were are : Totals) →
    CanRun run run.origin.now.offset run.batch.now.records were → done + count ≤ length run.batch.now.records →
    HaveRun run run.origin.now.offset (take done run.batch.now.records) old new were are →
    CanRun run (run.origin.now.offset + done) (records_from done count run.batch.now.records) are
can_here run done count old new were are can within made =
    let records = run.batch.now.records in let first = run.origin.now.offset in
    let rest = can_run_rest run first (first + done) records (take done records) (drop done records) old new were are
    can (take-append-drop done records) (omega (arith, length-take-le done records (omega (arith, within)))) made in
    can_run_first run (first + done) (records_from done count records) (drop count (drop done records)) are
    (subst (λ (gs : List Record). CanRun run (first + done) gs are) (is_part records done count within).rest rest)

pub loop-done-init : goal.loop-done-init
loop-done-init c =
    let run = c.args.self.now in
    (omega arith, none_run run run.origin.now.offset c.args.all.now c.args.counts.now)

pub push_part-requires-clause-part : goal.push_part-requires-clause-part
push_part-requires-clause-part c =
    subst (λ (n : ℕ). IsPartOf n c.next-part.result) c.len-total.ensures.count c.next-part.ensures.part

pub push_part-requires-clause-run : goal.push_part-requires-clause-run
push_part-requires-clause-run c =
    let run = c.args.self.now in let count = c.next-part.result.count in
    subst (λ (f : ℕ). CanRun run (run.origin.now.offset + f) (records_from f count run.batch.now.records)
    c.loop-done.counts) (sym c.next-part.ensures.first)
    (can_here run c.loop-done.done count c.args.all.now c.loop-done.all c.args.counts.now c.loop-done.counts c.requires
    (omega (arith, c.next-part.ensures.first, c.next-part.ensures.part.within, c.len-total.ensures.count)) c.loop-done.invariant.1)

pub loop-done-preserved : goal.loop-done-preserved
loop-done-preserved c =
    let run = c.args.self.now in let records = run.batch.now.records in let offset = run.origin.now.offset in
    let done = c.loop-done.done in let first = c.next-part.result.first in let count = c.next-part.result.count in
    let here = records_from first count records in let one = c.args.all.now in let two = c.loop-done.all in
    let three = c.push_part.new.all in let were = c.args.counts.now in let are = c.loop-done.counts in
    let sum = c.push_part.new.counts in let inv = c.loop-done.invariant in
    let le : done + count ≤ length records =
    omega (arith, c.next-part.ensures.first, c.next-part.ensures.part.within, c.len-total.ensures.count) in
    let at : offset + first ≡ offset + length (take done records) =
    omega (arith, c.next-part.ensures.first, length-take-le done records inv.0) in
    let more : take done records ++ here ≡ take (done + count) records =
    ap (λ (f : ℕ). take done records ++ records_from f count records) c.next-part.ensures.first
    ∙ sym (is_part records done count le).more in (
      le,
      subst (λ (gs : List Record). HaveRun run offset gs one three were sum) more
          (run_then run offset (take done records) here one two three were are sum inv.1
          (subst (λ (o : ℕ). HaveRun run o here two three are sum) at c.in_ok-push_part.ensures)),
    )

pub returns : goal.returns
returns c =
    let run = c.args.self.now in let records = run.batch.now.records in
    let whole : take c.loop-done.done records ≡ records =
    take_all c.loop-done.done records (omega (arith, c.loop-done-test.false, c.len-total.ensures.count)) in
    subst (λ (gs : List Record). HaveRun run run.origin.now.offset gs c.args.all.now c.loop-done.all c.args.counts.now
    c.loop-done.counts) whole c.loop-done.invariant.1
