use Rattle.bpf_isa.proofs.Walk.{placed_small, placed_registers}
use Rattle.bpf_isa.proofs.code.Code.get.Goals as goal

pub returns-clause-is_small : goal.returns-clause-is_small
returns-clause-is_small c = placed_small _ _ c.args.k _ c.self.invariant.image.is_code c.get.ensures

pub returns-clause-has_registers : goal.returns-clause-has_registers
returns-clause-has_registers c = placed_registers _ _ c.args.k _ c.self.invariant.image.is_code c.get.ensures
