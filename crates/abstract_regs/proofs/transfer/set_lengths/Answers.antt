use Rattle.machine_spec.specs.declared.instruction.Region.TheVariants as region
use Rattle.verifier_spec.proofs.Proper.{with_lengths_proper}
use Rattle.abstract_regs.proofs.transfer.set_lengths.Goals as goal

pub returns-in-Key-clause-proper : goal.returns-in-Key-clause-proper
returns-in-Key-clause-proper c =
    with_lengths_proper c.args.state.now region.Key c.args.range c.requires.state c.requires.range
    (rw c.in-Key.is at c.requires.inside)

pub returns-in-Value-clause-proper : goal.returns-in-Value-clause-proper
returns-in-Value-clause-proper c =
    with_lengths_proper c.args.state.now region.Value c.args.range c.requires.state c.requires.range
    (rw c.in-Value.is at c.requires.inside)
