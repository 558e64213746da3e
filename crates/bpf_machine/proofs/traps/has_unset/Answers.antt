use Rattle.std.proofs.Common.{◌≡◌, ◌+◌, false, sym, ap, ◌∙◌, is_none}
use Rattle.bpf_machine.specs.Views.{stack_of}
use Rattle.bpf_machine.proofs.Loads.{unset_open}
use Rattle.bpf_machine.proofs.traps.has_unset.Goals as goal

pub loop-k-preserved : goal.loop-k-preserved
loop-k-preserved c =
    let set : is_none (stack_of c.args.stack.now (c.args.place + c.loop-k.k)) ≡ false = ap is_none (sym c.get.ensures)
    ∙ sym c.is_unset.ensures ∙ c.if-is_unset.false in
    let opened = unset_open (stack_of c.args.stack.now) c.args.place c.args.count c.loop-k.k c.loop-k-test.true in
    sym (rw set at opened) ∙ c.loop-k.invariant
