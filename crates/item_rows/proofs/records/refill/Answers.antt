use Rattle.std.proofs.Common.{[]}
use Rattle.item_rows.proofs.PartLaws.{can_run_part, part_rows}
use Rattle.item_rows.proofs.records.refill.Goals as goal

pub push_part-requires-clause-run : goal.push_part-requires-clause-run
push_part-requires-clause-run c =
    can_run_part c.args.run.now c.args.part.first c.args.part.count c.requires.fits c.requires.part.within
    c.new-counts.result c.requires.origin c.new-counts.ensures.records

pub returns : goal.returns
returns c =
    let made = c.in_ok-push_part.ensures in (
      part_rows c.args.run.now c.args.part.first c.args.part.count c.requires.fits c.requires.part.within _ _ _ _ _
          c.requires.first c.requires.outputs c.clear_each.ensures made,
      record {
        fates = made.fates;
        fates_are = made.fates_are;
        counts_are = made.counts.counts [] c.new-counts.ensures.counts;
      },
    )
