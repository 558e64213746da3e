use Rattle.std.proofs.Common.{arith}
use Rattle.bpf_isa.proofs.Slots.{code_some, code_few}
use Rattle.bpf_isa.proofs.code.Code.len.Goals as goal

pub returns-clause-is_positive : goal.returns-clause-is_positive
returns-clause-is_positive c = omega (arith, code_some _ _ c.self.invariant.image.is_code)

pub returns-clause-is_small : goal.returns-clause-is_small
returns-clause-is_small c = omega (arith, code_few _ _ c.self.invariant.image.is_code)
