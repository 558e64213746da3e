use Rattle.std.proofs.Common.{◌≡◌, ◌∙◌, ℕ, ◌+◌, [], ◌∷◌, ap, Err, length, None, Ok, refl, rules, Some, subst}
use Rattle.log_spec.proofs.FittingBatches.{fits_log}
use Rattle.fates.specs.Totals.{Totals}
use Rattle.batch_reader.specs.Readings.{ReadsBatch}
use Rattle.batch_reader.specs.declared.reader.Position.{Position}
use Rattle.batch_reader.specs.declared.reader.ReadFault.TheVariants as read
use Rattle.transform.specs.declared.stream.StreamFault.TheVariants as fault
use Rattle.transform.specs.Tellings.{telling, AddsTellings}
use Rattle.transform.specs.Transforms.{Pushes}
use Rattle.transform.proofs.StreamLaws.{begun, goes_on, at_end, unread, unpushed, was_told}
use Rattle.transform.proofs.stream.push_all.Goals as goal

pub loop-init : goal.loop-init
loop-init g c =
    begun c.args.program.now c.args.reader.now c.args.stream.now (g.V.Watch.told c.args.watch.now)
    c.args.reader.now.given c.requires refl

pub push-requires : goal.push-requires
push-requires g c = fits_log c.in-Some.batch (search rules)

pub returns-in-None : goal.returns-in-None
returns-in-None g c =
    let told = g.V.Watch.told in
    let reads : ReadsBatch c.loop.reader (Ok None) c.next.new.self = search rules in
    was_told (at_end c.args.program.now c.args.reader.now c.args.stream.now (told c.args.watch.now) c.loop.reader
    c.next.new.self c.loop.stream c.loop.stream (told c.loop.watch) (told c.loop.watch) c.loop.reader.given
    c.loop.invariant reads refl)

pub returns-in_err-next : goal.returns-in_err-next
returns-in_err-next g c =
    let why = c.in_err-next.field-0.0 in let told = g.V.Watch.told in
    let reads : ReadsBatch c.loop.reader (Err why) c.next.new.self = search rules in
    let is : c.from_residual.result ≡ Err (fault.Read why) = search rules in
    was_told (unread c.args.program.now c.args.reader.now c.args.stream.now (told c.args.watch.now) c.loop.reader
    c.next.new.self c.loop.stream c.loop.stream (told c.loop.watch) (told c.loop.watch) c.loop.reader.given
    c.loop.invariant why c.from_residual.result reads refl is)

pub returns-in_err-push-in-Some : goal.returns-in_err-push-in-Some
returns-in_err-push-in-Some g c =
    let why = c.in_err-push-in-Some.field-0.0 in let batch = c.in-Some.batch in let told = g.V.Watch.told in
    let reads : ReadsBatch c.loop.reader (Ok (Some batch)) c.next.new.self = search rules in
    let pushes : Pushes c.args.program.now batch c.loop.stream (Err why) c.push.new.self = search rules in
    let is : c.from_residual-in_err-push-in-Some.result ≡ Err (fault.Transform why) = search rules in
    was_told (unpushed c.args.program.now c.args.reader.now c.args.stream.now (told c.args.watch.now) c.loop.reader
    c.next.new.self c.loop.stream c.push.new.self (told c.loop.watch) (told c.loop.watch) c.loop.reader.given
    c.loop.invariant batch why c.from_residual-in_err-push-in-Some.result reads pushes is)

pub loop-preserved : goal.loop-preserved
loop-preserved g c =
    let batch = c.in-Some.batch in let told = g.V.Watch.told in let next = c.position.result in
    let after = c.next.new.self in let now = c.push.new.self in
    let reads : ReadsBatch c.loop.reader (Ok (Some batch)) after = search rules in
    let pushes : Pushes c.args.program.now batch c.loop.stream (Ok tt) now = search rules in
    let more : now.counts.records ≡ c.loop.stream.counts.records + length batch.records = search rules in
    let records : c.records.result ≡ now.counts.records =
    c.records.ensures ∙ ap (λ (counts : Totals). counts.records) c.counts.ensures in
    let tells : AddsTellings (told c.loop.watch) (telling after.given now.counts.records ∷ [])
    (told c.batch_done.new.self) =
    subst (λ (p : Position). AddsTellings (told c.loop.watch) (telling p now.counts.records ∷ [])
    (told c.batch_done.new.self)) c.position.ensures
    (subst (λ (n : ℕ). AddsTellings (told c.loop.watch) (telling next n ∷ []) (told c.batch_done.new.self)) records
    c.batch_done.ensures) in
    goes_on c.args.program.now c.args.reader.now c.args.stream.now (told c.args.watch.now) c.loop.reader after
    c.loop.stream now (told c.loop.watch) (told c.batch_done.new.self) c.loop.reader.given c.loop.invariant batch
    after.given reads pushes more refl tells

pub returns : goal.returns
returns g c =
    let told = g.V.Watch.told in
    was_told (unread c.args.program.now c.args.reader.now c.args.stream.now (told c.args.watch.now) c.loop.reader
    c.loop.reader c.loop.stream c.loop.stream (told c.loop.watch) (told c.loop.watch) c.loop.reader.given
    c.loop.invariant read.Read (Err (fault.Read read.Read)) refl refl refl)
