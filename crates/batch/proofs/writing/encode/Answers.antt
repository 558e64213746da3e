use Rattle.std.proofs.Common.{rules, ◌≡◌, ℕ, ℤ, ◌+◌, List, ◌++◌, All, length, sym, ap, subst, ◌∙◌, to_z, of_z}
use Rattle.std.proofs.Common.{FitsSigned, arith}
use Rattle.std.specs.Int.{w64}
use Rattle.std.proofs.{lemmas.Int.to_z-of_z, lemmas.List.Elements.All-from_recursion}
use Rattle.wire_spec.specs.{declared.record.Record.Record, RecordSpelling.RecordFits}
use Rattle.wire_spec.specs.BatchSpelling.{greatest, timestamps, records_spelling}
use Rattle.batch.proofs.{WithinLimits.spelling_length, Written.finished_is}
use Rattle.batch.proofs.writing.encode.Goals as goal

pub begin-requires-clause-most : goal.begin-requires-clause-most
begin-requires-clause-most c =
    let b = c.args.batch.now in
    let same : c.as_slice-records.result.now ≡ b.records = search rules in
    let size : c.records_len-records_size.result ≡ length
    (records_spelling 0 b.records) = c.records_len-records_size.ensures.size
    ∙ ap (λ (rs : List Record). length (records_spelling 0 rs)) same in
    omega (arith, size, spelling_length b, c.requires.few_bytes)

pub put_records-requires-clause-fit : goal.put_records-requires-clause-fit
put_records-requires-clause-fit c =
    let same : c.as_slice-records.result.now ≡ c.args.batch.now.records = search rules in
    subst (λ (rs : List Record). All RecordFits rs) (sym same)
    (All-from_recursion RecordFits c.args.batch.now.records c.requires.records)

pub returns : goal.returns
returns c =
    let b = c.args.batch.now in
    let rs = c.as_slice-records.result.now in
    let g = c.greatest_of-greatest.result in
    let same : rs ≡ b.records = search rules in
    let n = 61 + c.records_len-records_size.result in
    let size : n ≡ 61 + length (records_spelling 0 b.records) =
    ap (λ (k : ℕ). 61 + k) (c.records_len-records_size.ensures.size
    ∙ ap (λ (x : List Record). length (records_spelling 0 x)) same) in
    let base_fits : FitsSigned w64 c.base_of.result = search rules in
    let base : to_z w64 (of_z w64 c.base_of.result) ≡ b.base_timestamp =
    to_z-of_z w64 c.base_of.result base_fits ∙ c.base_of.ensures in
    let top_fits : FitsSigned w64 g = search rules in
    let top : to_z w64 (of_z w64 g) ≡ greatest (timestamps b.base_timestamp b.records) = to_z-of_z w64 g top_fits
    ∙ c.greatest_of-greatest.ensures ∙ ap (λ (t : ℤ). greatest (timestamps t rs)) base
    ∙ ap (λ (x : List Record). greatest (timestamps b.base_timestamp x)) same in
    let reserved : c.reserve_exact.new.self.items ≡ c.in_ok-out.out.items = search rules in
    let written : c.put_records.new.out.items ≡ c.in_ok-out.out.items ++ records_spelling 0 b.records =
    c.in_ok-put_records.ensures ∙ ap (λ (front : List ℕ). front ++ records_spelling 0 rs) reserved
    ∙ ap (λ (x : List Record). c.in_ok-out.out.items ++ records_spelling 0 x) same in
    finished_is b n (length rs) (to_z w64 (of_z w64 g)) c.in_ok-out.out.items c.put_records.new.out.items
    c.finish.result.items size top (ap length same) c.in_ok-out.ensures written c.finish.ensures
