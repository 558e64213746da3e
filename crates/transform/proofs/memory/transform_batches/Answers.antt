use Rattle.std.proofs.Common.{◌≡◌, ◌<◌, ◌≤◌, ◌^◌, arith, length, Ok, Err, Result, rules, subst}
use Rattle.batch_reader.specs.Readings.{Inlet}
use Rattle.transform.specs.declared.{memory.Reached.Reached, stream.StreamFault.StreamFault}
use Rattle.transform.specs.{Transforms.Flow, Transforms.EndsFlow}
use Rattle.transform.specs.Transformed.{IsMadeOf, PushesTo, PushesPast, PushesWithin, bytes_written}
use Rattle.transform.proofs.MemoryLaws.{start_of, reader_of, stopped, passed, passed_last, all_made}
use Rattle.transform.proofs.memory.transform_batches.Goals as goal

pub returns-in-Err : goal.returns-in-Err
returns-in-Err c =
    let program = c.args.program.now in let origin = c.args.origin.now in let bytes = c.args.bytes.now in
    let limit = c.args.limit in let few : length bytes < 2 ^ 64 = omega arith in
    let pushed = c.push_within-reached.new in let result : Result Reached StreamFault = Err c.in-Err.fault in
    let reader : c.in_ok-reader.reader ≡ reader_of bytes = search rules in
    let start : c.new-stream.result ≡ start_of origin = search rules in
    let to : PushesTo program (reader_of bytes) (start_of origin) (Err c.in-Err.fault) pushed.reader pushed.stream
    pushed.place =
    subst (λ (f : Flow). PushesWithin program limit (reader_of bytes) f result pushed.reader pushed.stream pushed.place)
    start
    (subst (λ (i : Inlet). PushesWithin program limit i c.new-stream.result result pushed.reader pushed.stream
    pushed.place) reader c.in-Err.ensures) in
    stopped program origin bytes few limit pushed.reader pushed.stream pushed.place c.in-Err.fault c.stop_of.result to
    c.stop_of.ensures

pub returns-in-Ok-Limit : goal.returns-in-Ok-Limit
returns-in-Ok-Limit c =
    let program = c.args.program.now in let origin = c.args.origin.now in let bytes = c.args.bytes.now in
    let limit = c.args.limit in let few : length bytes < 2 ^ 64 = omega arith in
    let pushed = c.push_within-reached.new in
    let reader : c.in_ok-reader.reader ≡ reader_of bytes = search rules in
    let start : c.new-stream.result ≡ start_of origin = search rules in
    let is : c.push_within-reached.result ≡ Ok Reached.Limit = search rules in
    let far : PushesPast program limit (reader_of bytes) (start_of origin) pushed.stream pushed.place =
    subst (λ (r : Result Reached StreamFault). PushesWithin program limit (reader_of bytes) (start_of origin) r
    pushed.reader pushed.stream pushed.place) is
    (subst (λ (f : Flow). PushesWithin program limit (reader_of bytes) f c.push_within-reached.result pushed.reader
    pushed.stream pushed.place) start
    (subst (λ (i : Inlet). PushesWithin program limit i c.new-stream.result c.push_within-reached.result pushed.reader
    pushed.stream pushed.place) reader c.push_within-reached.ensures)) in
    λ other. passed program origin bytes few limit pushed.stream pushed.place far

pub returns-then-bytes_written-limit : goal.returns-then-bytes_written-limit
returns-then-bytes_written-limit c =
    let program = c.args.program.now in let origin = c.args.origin.now in let bytes = c.args.bytes.now in
    let limit = c.args.limit in let few : length bytes < 2 ^ 64 = omega arith in
    let pushed = c.push_within-reached.new in
    let ended : EndsFlow pushed.stream (Ok tt) c.end.new.self = c.in-Ok.ensures in
    let reader : c.in_ok-reader.reader ≡ reader_of bytes = search rules in
    let start : c.new-stream.result ≡ start_of origin = search rules in
    let is : c.push_within-reached.result ≡ Ok Reached.End = search rules in
    let to : PushesTo program (reader_of bytes) (start_of origin) (Ok tt) pushed.reader pushed.stream pushed.place =
    subst (λ (r : Result Reached StreamFault). PushesWithin program limit (reader_of bytes) (start_of origin) r
    pushed.reader pushed.stream pushed.place) is
    (subst (λ (f : Flow). PushesWithin program limit (reader_of bytes) f c.push_within-reached.result pushed.reader
    pushed.stream pushed.place) start
    (subst (λ (i : Inlet). PushesWithin program limit i c.new-stream.result c.push_within-reached.result pushed.reader
    pushed.stream pushed.place) reader c.push_within-reached.ensures)) in
    let more : limit < bytes_written c.end.new.self.outputs =
    omega (arith, c.bytes_written.ensures, c.if-bytes_written-limit.true) in
    λ other. passed_last program origin bytes few limit pushed.reader pushed.stream c.end.new.self pushed.place to ended
    more

pub returns : goal.returns
returns c =
    let program = c.args.program.now in let origin = c.args.origin.now in let bytes = c.args.bytes.now in
    let limit = c.args.limit in let few : length bytes < 2 ^ 64 = omega arith in
    let pushed = c.push_within-reached.new in
    let ended : EndsFlow pushed.stream (Ok tt) c.end.new.self = c.in-Ok.ensures in
    let made : IsMadeOf pushed.place.batches c.end.new.self c.in_ok-made_of.field-0 = c.in_ok-made_of.ensures in
    let reader : c.in_ok-reader.reader ≡ reader_of bytes = search rules in
    let start : c.new-stream.result ≡ start_of origin = search rules in
    let is : c.push_within-reached.result ≡ Ok Reached.End = search rules in
    let to : PushesTo program (reader_of bytes) (start_of origin) (Ok tt) pushed.reader pushed.stream pushed.place =
    subst (λ (r : Result Reached StreamFault). PushesWithin program limit (reader_of bytes) (start_of origin) r
    pushed.reader pushed.stream pushed.place) is
    (subst (λ (f : Flow). PushesWithin program limit (reader_of bytes) f c.push_within-reached.result pushed.reader
    pushed.stream pushed.place) start
    (subst (λ (i : Inlet). PushesWithin program limit i c.new-stream.result c.push_within-reached.result pushed.reader
    pushed.stream pushed.place) reader c.push_within-reached.ensures)) in
    let within : bytes_written c.end.new.self.outputs ≤ limit =
    omega (arith, c.bytes_written.ensures, c.if-bytes_written-limit.false) in
    all_made program origin bytes few limit pushed.reader pushed.stream c.end.new.self pushed.place
    c.in_ok-made_of.field-0 to ended within made
