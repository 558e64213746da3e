use Rattle.std.proofs.Common.{rules}
use Rattle.batch_reader.proofs.ReadingLaws.{reads}
use Rattle.batch_reader.proofs.reader.Pieces.next.Goals as goal

pub returns-clause-gives : goal.returns-clause-gives
returns-clause-gives g c =
    reads c.args.self.now.stream c.next_of.new.feed (g.R.Read.remaining c.args.reader.now)
    (g.R.Read.remaining c.next_of.new.reader) c.args.self.now.given c.next_of.new.position c.next_of.result
    (search rules) (search rules)
