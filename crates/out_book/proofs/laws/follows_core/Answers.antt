use Rattle.out_book.specs.declared.book.Delivered.TheVariants.{Added, Already}
use Rattle.out_book.specs.CoreTie.{FollowsCore}
use Rattle.out_book.proofs.TieLaws.{adds_in_core, repeats_in_core}
use Rattle.out_book.proofs.laws.follows_core.Goals as goal

follows : FollowsCore
follows w outputs old new walk of rows (Added count) within core are d =
    adds_in_core w outputs old new walk of rows count within core are d.0 d.1 d.2 d.3
follows w outputs old new walk of rows Already within core are d = repeats_in_core w outputs old new walk core d.1 d.2

pub returns : goal.returns
returns c = follows
