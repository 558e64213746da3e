use Rattle.std.proofs.Common.{[], ◌∷◌, ◌++◌}
use Rattle.fates.specs.declared.fate.Fate.TheVariants.{Unprogrammed, Kept, Rejected}
use Rattle.fates.proofs.CountLaws.{unprogrammed_more, kept_more, rejected_more}
use Rattle.fates.proofs.counts.Counts.add.Goals as goal

pub invariant_of-self : goal.invariant_of-self
invariant_of-self c =
    let s = c.self.inside in let i = c.self.invariant in
    (i.0 ++ Unprogrammed ∷ [], unprogrammed_more i.0 s.records s.unprogrammed s.kept s.rejects.entries i.1)

pub invariant_of-self-in-Kept : goal.invariant_of-self-in-Kept
invariant_of-self-in-Kept c =
    let s = c.self.inside in let i = c.self.invariant in
    (i.0 ++ Kept ∷ [], kept_more i.0 s.records s.unprogrammed s.kept s.rejects.entries i.1)

pub invariant_of-self-in-Rejected : goal.invariant_of-self-in-Rejected
invariant_of-self-in-Rejected c =
    let s = c.self.inside in let i = c.self.invariant in (
      i.0 ++ Rejected c.in-Rejected.code ∷ [],
      rejected_more i.0 s.records s.unprogrammed s.kept c.in-Rejected.code s.rejects.entries
          c.count_rejects.new.rejects.entries i.1 c.in_ok-count_rejects-in-Rejected.ensures.ok,
    )
