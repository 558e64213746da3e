use Rattle.std.proofs.Common.{get_or, ◌-◌, arith}
use Rattle.std.proofs.lemmas.Bool.{ne_eqb}
use Rattle.bpf_asm.proofs.Scanning.{ends_in_space, ends_in_other}
use Rattle.bpf_asm.proofs.line.before_spaces.Goals as goal

pub loop-end-preserved : goal.loop-end-preserved
loop-end-preserved c = record {
  within = omega arith;
  so_far = ends_in_space c.args.text.now c.loop-end.end (omega arith) c.loop-end.invariant.within (omega arith)
      c.loop-end.invariant.so_far;
}

pub returns-then-text-end-ne32 : goal.returns-then-text-end-ne32
returns-then-text-end-ne32 c =
    ends_in_other c.args.text.now c.loop-end.end (omega arith) c.loop-end.invariant.within
    (ne_eqb (get_or c.args.text.now (c.loop-end.end - 1) 0) 32 (λ e. omega arith)) c.loop-end.invariant.so_far
