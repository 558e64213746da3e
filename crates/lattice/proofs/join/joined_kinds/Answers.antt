use Rattle.std.proofs.Common.{◌<◌, length, ◌∙◌, arith, length-set}
use Rattle.verifier_spec.specs.declared.state.Abs.TheVariants as abs
use Rattle.verifier_spec.specs.Joins.{joined_kind}
use Rattle.verifier_spec.proofs.Joins.{pairwise_from, pairwise_more}
use Rattle.lattice.proofs.join.joined_kinds.Goals as goal

pub loop-register-preserved : goal.loop-register-preserved
loop-register-preserved c =
    let joined = c.loop-register.joined in
    let register = c.loop-register.register in
    let long = c.loop-register.invariant.0 in
    let inside : register < length joined = omega (arith, long) in (
      length-set joined register c.joined_kind.result ∙ long,
      pairwise_more (joined_kind c.args.a.now c.args.b.now) abs.None c.args.kinds.now c.args.others.now joined register
          c.joined_kind.result inside c.joined_kind.ensures c.loop-register.invariant.1,
    )

pub returns : goal.returns
returns c =
    let long = c.loop-register.invariant.0 in
    pairwise_from (joined_kind c.args.a.now c.args.b.now) abs.None c.args.kinds.now c.args.others.now
    c.loop-register.joined (omega (arith, long)) (omega (arith, long))
    (λ k under. c.loop-register.invariant.1 k (omega (arith, long)))
