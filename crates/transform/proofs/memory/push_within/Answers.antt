use Rattle.std.proofs.Common.{◌≡◌, ◌+◌, Err, length, None, Ok, refl, rules, Some, arith, Result, subst, sym}
use Rattle.log_spec.proofs.FittingBatches.{fits_log}
use Rattle.batch_reader.specs.Readings.{ReadsBatch}
use Rattle.batch_reader.specs.declared.reader.ReadFault.TheVariants as read
use Rattle.transform.specs.declared.stream.StreamFault.TheVariants as fault
use Rattle.transform.specs.declared.{memory.Reached.Reached, stream.StreamFault.StreamFault}
use Rattle.transform.specs.{Transforms.Pushes, Transformed.PushesWithin}
use Rattle.transform.proofs.StreamLaws.{begun, goes_on, at_end, unread, unpushed, was_placed}
use Rattle.transform.proofs.MemoryLaws.{unheard, past}
use Rattle.transform.proofs.memory.push_within.Goals as goal

pub loop-init : goal.loop-init
loop-init g c =
    begun c.args.program.now c.args.reader.now c.args.stream.now None c.position.result c.requires.open
    c.position.ensures

pub push-requires : goal.push-requires
push-requires g c = fits_log c.in-Some.batch (search rules)

pub returns-in-None : goal.returns-in-None
returns-in-None g c =
    let reads : ReadsBatch c.loop.reader (Ok None) c.next.new.self = search rules in
    was_placed (at_end c.args.program.now c.args.reader.now c.args.stream.now None c.loop.reader c.next.new.self
    c.loop.stream c.loop.stream None None c.loop.place c.loop.invariant reads refl)

pub returns-in_err-next : goal.returns-in_err-next
returns-in_err-next g c =
    let why = c.in_err-next.field-0.0 in
    let reads : ReadsBatch c.loop.reader (Err why) c.next.new.self = search rules in
    let is : c.from_residual.result ≡ Err (fault.Read why) = search rules in
    subst (λ (r : Result Reached StreamFault). PushesWithin c.args.program.now c.args.limit c.args.reader.now
    c.args.stream.now r c.next.new.self c.loop.stream c.loop.place) (sym is)
    (was_placed (unread c.args.program.now c.args.reader.now c.args.stream.now None c.loop.reader c.next.new.self
    c.loop.stream c.loop.stream None None c.loop.place c.loop.invariant why (Err (fault.Read why)) reads refl refl))

pub returns-in_err-push-in-Some : goal.returns-in_err-push-in-Some
returns-in_err-push-in-Some g c =
    let why = c.in_err-push-in-Some.field-0.0 in let batch = c.in-Some.batch in
    let reads : ReadsBatch c.loop.reader (Ok (Some batch)) c.next.new.self = search rules in
    let pushes : Pushes c.args.program.now batch c.loop.stream (Err why) c.push.new.self = search rules in
    let is : c.from_residual-in_err-push-in-Some.result ≡ Err (fault.Transform why) = search rules in
    subst (λ (r : Result Reached StreamFault). PushesWithin c.args.program.now c.args.limit c.args.reader.now
    c.args.stream.now r c.next.new.self c.push.new.self c.loop.place) (sym is)
    (was_placed (unpushed c.args.program.now c.args.reader.now c.args.stream.now None c.loop.reader c.next.new.self
    c.loop.stream c.push.new.self None None c.loop.place c.loop.invariant batch why (Err (fault.Transform why)) reads
    pushes refl))

pub bytes_written-requires : goal.bytes_written-requires
bytes_written-requires g c =
    let batch = c.in-Some.batch in let after = c.next.new.self in let now = c.push.new.self in
    let reads : ReadsBatch c.loop.reader (Ok (Some batch)) after = search rules in
    let pushes : Pushes c.args.program.now batch c.loop.stream (Ok tt) now = search rules in
    let more : now.counts.records ≡ c.loop.stream.counts.records + length batch.records = search rules in
    let next = goes_on c.args.program.now c.args.reader.now c.args.stream.now None c.loop.reader after c.loop.stream
    now None None c.loop.place c.loop.invariant batch c.position-in-loop.result reads pushes more
    c.position-in-loop.ensures (unheard _) in
    omega (arith, next.follows.count, c.requires.few)

pub returns-then-bytes_written-limit : goal.returns-then-bytes_written-limit
returns-then-bytes_written-limit g c =
    let batch = c.in-Some.batch in let after = c.next.new.self in let now = c.push.new.self in
    let place = c.position-in-loop.result in
    let reads : ReadsBatch c.loop.reader (Ok (Some batch)) after = search rules in
    let pushes : Pushes c.args.program.now batch c.loop.stream (Ok tt) now = search rules in
    let more : now.counts.records ≡ c.loop.stream.counts.records + length batch.records = search rules in
    let next = goes_on c.args.program.now c.args.reader.now c.args.stream.now None c.loop.reader after c.loop.stream
    now None None c.loop.place c.loop.invariant batch place reads pushes more c.position-in-loop.ensures (unheard _) in
    past c.args.program.now c.args.limit c.args.reader.now c.args.stream.now after now place next
    (omega (arith, c.bytes_written.ensures, c.if-bytes_written-limit.true))

pub loop-preserved : goal.loop-preserved
loop-preserved g c =
    let batch = c.in-Some.batch in let after = c.next.new.self in let now = c.push.new.self in
    let reads : ReadsBatch c.loop.reader (Ok (Some batch)) after = search rules in
    let pushes : Pushes c.args.program.now batch c.loop.stream (Ok tt) now = search rules in
    let more : now.counts.records ≡ c.loop.stream.counts.records + length batch.records = search rules in
    goes_on c.args.program.now c.args.reader.now c.args.stream.now None c.loop.reader after c.loop.stream now None
    None c.loop.place c.loop.invariant batch c.position-in-loop.result reads pushes more c.position-in-loop.ensures
    (unheard _)

pub returns : goal.returns
returns g c =
    was_placed (unread c.args.program.now c.args.reader.now c.args.stream.now None c.loop.reader c.loop.reader
    c.loop.stream c.loop.stream None None c.loop.place c.loop.invariant read.Read (Err (fault.Read read.Read)) refl
    refl refl)
