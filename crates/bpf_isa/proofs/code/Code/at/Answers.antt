use Rattle.bpf_isa.proofs.Walk.{number_within}
use Rattle.bpf_isa.proofs.code.Code.at.Goals as goal

pub returns-clause-is_within : goal.returns-clause-is_within
returns-clause-is_within c = number_within c.args.self.now c.args.slot c.entry.result c.entry.ensures
