use Rattle.std.proofs.Common.{arith}
use Rattle.fates.proofs.RejectLaws.{taken_off, listed_here, same_counts, summed}
use Rattle.fates.proofs.rejects.sum_rejects.Goals as goal

pub list_all-requires : goal.list_all-requires
list_all-requires c = λ code. let few = c.requires.few code in omega (arith, few)

pub count_all-requires-clause-listed : goal.count_all-requires-clause-listed
count_all-requires-clause-listed c =
    listed_here c.args.others.now.entries c.args.rejects.now.entries c.list_all.new.rejects.entries c.in-Ok.ensures.ok

pub count_all-requires-clause-few : goal.count_all-requires-clause-few
count_all-requires-clause-few c = λ code.
    let same = same_counts c.args.others.now.entries c.args.rejects.now.entries c.list_all.new.rejects.entries
    c.in-Ok.ensures.ok code in
    omega (arith, same, c.requires.few code)

pub returns-in-Ok-clause-ok : goal.returns-in-Ok-clause-ok
returns-in-Ok-clause-ok c =
    summed c.args.others.now.entries c.args.rejects.now.entries c.list_all.new.rejects.entries
    c.count_all.new.rejects.entries c.requires.some c.requires.others c.in-Ok.ensures.ok c.count_all.ensures

pub returns-in-Err-clause-err : goal.returns-in-Err-clause-err
returns-in-Err-clause-err c =
    taken_off c.args.others.now.entries c.list_all.new.rejects.entries c.args.rejects.now c.unlist_all.new.rejects
    c.len-rising.ensures.ordered c.requires.some c.in-Err.ensures.err c.unlist_all.ensures
