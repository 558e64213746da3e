use Rattle.std.proofs.Common.{rules}
use Rattle.batch.specs.Streams.{kept_bytes}
use Rattle.batch_reader.specs.Readings.{ReadsOn}
use Rattle.batch_reader.proofs.ReadingLaws.{begins_with}
use Rattle.batch_reader.proofs.reader.Pieces.refused.Goals as goal

pub returns-in-Ok : goal.returns-in-Ok
returns-in-Ok g c =
    let front = kept_bytes c.args.self.now.stream in
    let before = g.R.Read.remaining c.args.reader.now in
    let after = g.R.Read.remaining c.show.new.reader in
    let more : ReadsOn front before c.show.new.bytes.items after = search rules in
    begins_with before after front more.0 c.in-Ok.bytes c.in_ok-size.size more.1 (search rules)
