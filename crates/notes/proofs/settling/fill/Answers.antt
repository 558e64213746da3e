use Rattle.std.proofs.Common.{ap, ◌∙◌, arith, length, Option, None}
use Rattle.std.proofs.lemmas.List.{length-replicate}
use Rattle.machine_spec.specs.Image.{helpers_of}
use Rattle.verifier_spec.specs.{declared.state.Abstract.Abstract, Annotation.claim_at}
use Rattle.notes.specs.Derived.{pair_at}
use Rattle.notes.proofs.Derived.{derived_same}
use Rattle.notes.proofs.settling.fill.Goals as goal

pub returns : goal.returns
returns c =
    let long = ap length c.requires ∙ length-replicate {A = Option Abstract} (length c.args.code.now) None in
    c.derive.ensures.states
    ∙ derived_same (helpers_of c.args.table) c.args.code.now (pair_at c.args.pairs.now)
    (claim_at c.put_all.new.states)
    (λ k under. c.put_all.ensures.each k (omega (arith, under, c.put_all.ensures.length, long)))
