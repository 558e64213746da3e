use Rattle.std.proofs.Common.{refl}
use Rattle.std.proofs.{lemmas.List.Elements.All-from_recursion, lemmas.Result.on_ok_weaker, lemmas.Int.to_z-of_z}
use Rattle.std.specs.Int.{w32, w64}
use Rattle.wire_spec.specs.RecordSpelling.{HeaderFits}
use Rattle.kafka_record.specs.Parts.{record_with}
use Rattle.kafka_record.proofs.Written.{body_is}
use Rattle.kafka_record.proofs.writing.put_body.Goals as goal

pub put_counted-requires-clause-fit : goal.put_counted-requires-clause-fit
put_counted-requires-clause-fit c = All-from_recursion HeaderFits c.args.headers.now c.requires.headers

pub returns-clause-ok : goal.returns-clause-ok
returns-clause-ok c =
    on_ok_weaker c.put_counted.result (λ e. body_is c.args.delta _ _ (record_with c.args.timestamp_delta c.args.key.now
    c.args.value.now c.args.headers.now) c.args.headers.now
    c.args.out.now.items c.put_deltas.new.out.items c.put_nullable.new.out.items c.put_nullable-2.new.out.items
    c.put_counted.new.out.items (to_z-of_z w32 c.args.delta c.ranges.delta)
    (to_z-of_z w64 c.args.timestamp_delta c.requires.timestamp) refl
    c.in_ok-put_deltas.ensures.ok c.in_ok-put_nullable.ensures.ok c.in_ok-put_nullable-2.ensures.ok e)
    c.put_counted.ensures.ok
