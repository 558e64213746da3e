use Rattle.std.proofs.Common.{rules}
use Rattle.batch_text.proofs.ListingLaws.{begun, goes_on, refused}
use Rattle.batch_text.proofs.listing.list_all.Goals as goal

pub loop-batches-init : goal.loop-batches-init
loop-batches-init g c = (
  begun c.args.listing (g.R.Read.remaining c.args.reader.now) (g.W.Write.contents c.args.writer.now)
      c.in_ok-pieces.pieces.stream (search rules),
  search rules,
)

pub loop-batches-preserved : goal.loop-batches-preserved
loop-batches-preserved g c =
    let l = c.loop-batches in let rest = g.R.Read.remaining in let text = g.W.Write.contents in (
      goes_on c.args.listing (rest c.args.reader.now) (text c.args.writer.now) (text l.writer) l.pieces.stream
          c.next.new.self.stream (rest l.reader) (rest c.next.new.reader) l.batches l.position l.invariant.0
          (text c.put.new.writer) c.in_ok-position-in-Ok-Some.position c.in-Ok-Some.batch (search rules) (search rules)
          (search rules) (search rules),
      search rules,
    )

pub returns-in-Err : goal.returns-in-Err
returns-in-Err g c =
    let l = c.loop-batches in let rest = g.R.Read.remaining in let text = g.W.Write.contents in
    refused c.args.listing (rest c.args.reader.now) (text c.args.writer.now) (text l.writer) l.pieces.stream
    c.next.new.self.stream (rest l.reader) (rest c.next.new.reader) l.batches l.position l.invariant.0 l.pieces.given
    c.next.new.self.given c.in-Err.fault c.fault_after.result (search rules) (search rules) c.fault_after.ensures
