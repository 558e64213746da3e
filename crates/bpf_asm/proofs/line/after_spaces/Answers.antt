use Rattle.std.proofs.Common.{◌∙◌, sym, get_or, arith}
use Rattle.std.proofs.{lemmas.Bool.ne_eqb, lemmas.List.take_rest}
use Rattle.bpf_asm.proofs.Scanning.{spaces_more, spaces_end}
use Rattle.bpf_asm.proofs.line.after_spaces.Goals as goal

pub loop-place-preserved : goal.loop-place-preserved
loop-place-preserved c =
    spaces_more c.args.text.now c.loop-place.place (omega arith) (omega arith) c.loop-place.invariant

pub returns-then-text-place-ne32 : goal.returns-then-text-place-ne32
returns-then-text-place-ne32 c =
    take_rest c.args.text.now c.loop-place.place ∙ sym (spaces_end c.args.text.now c.loop-place.place (omega arith)
    (ne_eqb (get_or c.args.text.now c.loop-place.place 0) 32 (λ e. omega arith)) c.loop-place.invariant)
