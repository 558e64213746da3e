use Rattle.std.proofs.Common.{◌∙◌, sym, arith}
use Rattle.bpf_asm.specs.Operands.{is_sign}
use Rattle.bpf_asm.proofs.Scanning.{passed_more, passed_here, passed_all}
use Rattle.bpf_asm.proofs.operand.sign_place.Goals as goal

pub loop-place-preserved : goal.loop-place-preserved
loop-place-preserved c =
    passed_more is_sign c.args.text.now c.loop-place.place (omega arith) (sym c.is_sign.ensures ∙ c.if-is_sign.false)
    c.loop-place.invariant

pub returns-then-is_sign-clause-is : goal.returns-then-is_sign-clause-is
returns-then-is_sign-clause-is c =
    sym (passed_here is_sign c.args.text.now c.loop-place.place (omega arith) (sym c.is_sign.ensures
    ∙ c.if-is_sign.true) c.loop-place.invariant)

pub returns-clause-is : goal.returns-clause-is
returns-clause-is c =
    omega (arith, passed_all is_sign c.args.text.now c.loop-place.place (omega arith) c.loop-place.invariant)
