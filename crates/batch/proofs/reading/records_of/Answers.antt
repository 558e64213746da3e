use Rattle.std.proofs.Common.{◌≡◌, ◌+◌, suc, ◌∷◌, [], ◌++◌, drop, get_or, drop-cons, arith}
use Rattle.std.proofs.{lemmas.List.drop_all, lemmas.Result.err_from_is_err_and}
use Rattle.wire_spec.specs.BatchReading.{records_at}
use Rattle.batch.proofs.Loop.{goes_on, ends, is_done, is_over}
use Rattle.batch.proofs.reading.records_of.Goals as goal

pub returns-in_err-record : goal.returns-in_err-record
returns-in_err-record c =
    let l = c.loop-place in let bytes = c.args.bytes.now in
    let p = err_from_is_err_and c.from_residual-in_err-record.result c.from_residual-in_err-record.ensures.1 in
    rw (p.1, p.2) (ends c.in_err-record.field-0.0 l.list.items c.args.count l.place (drop l.at bytes)
    (records_at c.args.count 0 (drop 61 bytes)) c.loop-place-test.true c.in_err-record.ensures.gives l.invariant.read)

pub loop-place-preserved : goal.loop-place-preserved
loop-place-preserved c =
    let l = c.loop-place in let bytes = c.args.bytes.now in let record_is = c.in_ok-record in
    let e : c.push.new.self.items ≡ l.list.items ++ record_is.record ∷ [] = c.in_ok-push.ensures.items in
    record {
      within = record_is.ensures.within;
      read = rw e (goes_on l.list.items c.args.count l.place (drop l.at bytes) record_is.record
          (drop (l.at + record_is.used) bytes) (records_at c.args.count 0 (drop 61 bytes)) c.loop-place-test.true
          record_is.ensures.gives l.invariant.read);
    }

pub returns-then-at-end : goal.returns-then-at-end
returns-then-at-end c =
    let l = c.loop-place in let bytes = c.args.bytes.now in
    λ _. is_over l.list.items c.args.count l.place (get_or bytes l.at 0) (drop (suc l.at) bytes) (drop l.at bytes)
    (records_at c.args.count 0 (drop 61 bytes)) (omega arith) (drop-cons bytes l.at 0 (omega arith)) l.invariant.read

pub returns : goal.returns
returns c =
    let l = c.loop-place in let bytes = c.args.bytes.now in
    is_done l.list.items c.args.count l.place (drop l.at bytes) (records_at c.args.count 0 (drop 61 bytes))
    (omega arith) (drop_all l.at bytes (omega arith)) l.invariant.read
