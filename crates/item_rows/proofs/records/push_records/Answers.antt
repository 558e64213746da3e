use Rattle.std.proofs.Common.{[], arith}
use Rattle.item_rows.proofs.records.push_records.Goals as goal

pub push_all-requires : goal.push_all-requires
push_all-requires c =
    let fits = c.len-fits.ensures.fits in record {
      origin = c.requires;
      fits = fits.each;
      few = omega (arith, fits.count, c.requires.offset);
      counted = omega (arith, fits.count, c.new-counts.ensures.records);
    }

pub returns : goal.returns
returns c =
    let made = c.in_ok-push_all.ensures in (
      record {
        fates = made.fates;
        fates_are = made.fates_are;
        counts_are = made.counts.counts [] c.new-counts.ensures.counts;
      },
      made.rows,
    )
