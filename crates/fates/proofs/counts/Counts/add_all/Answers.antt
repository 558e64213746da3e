use Rattle.std.proofs.Common.{◌+◌, ◌<◌, ◌^◌, ◌++◌, subst, sym, arith}
use Rattle.fates.specs.Totals.{Totals, totals}
use Rattle.fates.proofs.CountLaws.{lists_some, few_sums, both_counted}
use Rattle.fates.proofs.counts.Counts.add_all.Goals as goal

pub sum_rejects-requires-clause-some : goal.sum_rejects-requires-clause-some
sum_rejects-requires-clause-some c =
    let s = c.self.inside in let i = c.self.invariant in
    lists_some i.0 (totals s.records s.unprogrammed s.kept s.rejects.entries) i.1

pub sum_rejects-requires-clause-others : goal.sum_rejects-requires-clause-others
sum_rejects-requires-clause-others c =
    let s = c.others.inside in let i = c.others.invariant in
    lists_some i.0 (totals s.records s.unprogrammed s.kept s.rejects.entries) i.1

pub sum_rejects-requires-clause-few : goal.sum_rejects-requires-clause-few
sum_rejects-requires-clause-few c = λ code.
    let s = c.self.inside in let i = c.self.invariant in let t = c.others.inside in let j = c.others.invariant in
    let sc : Totals = totals s.records s.unprogrammed s.kept s.rejects.entries in
    let tc : Totals = totals t.records t.unprogrammed t.kept t.rejects.entries in
    let few : sc.records + tc.records < 2 ^ 63 =
    subst (λ (d : Totals). sc.records + d.records < 2 ^ 63) (sym c.others.view_is)
    (subst (λ (d : Totals). d.records + c.args.others.now.records < 2 ^ 63) (sym c.self.view_is) c.requires) in
    let sums = few_sums i.0 j.0 sc tc code (2 ^ 63) i.1 j.1 few in
    omega (arith, sums)

pub invariant_of-self-2 : goal.invariant_of-self-2
invariant_of-self-2 c =
    let s = c.self.inside in let i = c.self.invariant in let t = c.others.inside in let j = c.others.invariant in (
      i.0 ++ j.0,
      both_counted i.0 j.0 s.records s.unprogrammed s.kept t.records t.unprogrammed t.kept s.rejects.entries
          t.rejects.entries c.sum_rejects.new.rejects.entries i.1 j.1 c.in_ok-sum_rejects.ensures.ok,
    )
