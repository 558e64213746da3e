use Rattle.machine_spec.specs.declared.instruction.Region.TheVariants as region
use Rattle.verifier_spec.proofs.Proper.{length_range_order}
use Rattle.lattice.proofs.kinds.length_range.Goals as goal

pub returns-in-Key-clause-ordered : goal.returns-in-Key-clause-ordered
returns-in-Key-clause-ordered c = length_range_order c.args.state.now region.Key

pub returns-in-Value-clause-ordered : goal.returns-in-Value-clause-ordered
returns-in-Value-clause-ordered c = length_range_order c.args.state.now region.Value
