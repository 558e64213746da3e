use Rattle.std.proofs.Common.{rules}
use Rattle.machine_spec.specs.Machine.{state_after}
use Rattle.bpf_machine.proofs.machine.Machine.straight_step.Goals as goal

pub returns-in-Move : goal.returns-in-Move
unfolding state_after
returns-in-Move c = search (rules, c.set.ensures c.args.run.now.given.now)

pub returns-in-Compute : goal.returns-in-Compute
unfolding state_after
returns-in-Compute c = search (rules, c.set-in-Compute.ensures c.args.run.now.given.now)

pub returns-in-Load : goal.returns-in-Load
unfolding state_after
returns-in-Load c = search (rules, c.set-in-Load.ensures c.args.run.now.given.now)

pub returns-in-Unary : goal.returns-in-Unary
unfolding state_after
returns-in-Unary c = search (rules, c.set-in-Unary.ensures c.args.run.now.given.now)
