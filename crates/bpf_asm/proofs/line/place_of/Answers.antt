use Rattle.std.proofs.Common.{sym, ◌==◌, ℕ, get_or, arith}
use Rattle.std.proofs.lemmas.Bool.{eq-eqb, ne_eqb}
use Rattle.bpf_asm.proofs.Scanning.{passed_more, passed_here, passed_all}
use Rattle.bpf_asm.proofs.line.place_of.Goals as goal

pub loop-place-preserved : goal.loop-place-preserved
loop-place-preserved c =
    passed_more (λ (b : ℕ). b == c.args.byte) c.args.text.now c.loop-place.place (omega arith)
    (ne_eqb (get_or c.args.text.now c.loop-place.place 0) c.args.byte (λ e. omega arith)) c.loop-place.invariant

pub returns-then-text-place-clause-is : goal.returns-then-text-place-clause-is
returns-then-text-place-clause-is c =
    sym (passed_here (λ (b : ℕ). b == c.args.byte) c.args.text.now c.loop-place.place (omega arith)
    (eq-eqb (get_or c.args.text.now c.loop-place.place 0) c.args.byte (omega arith)) c.loop-place.invariant)

pub returns-clause-is : goal.returns-clause-is
returns-clause-is c =
    let here = passed_all (λ (b : ℕ). b == c.args.byte) c.args.text.now c.loop-place.place (omega arith)
    c.loop-place.invariant in
    omega arith
