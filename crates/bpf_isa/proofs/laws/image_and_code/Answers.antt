use Rattle.bpf_isa.proofs.Walk.{one_image}
use Rattle.bpf_isa.proofs.Reading.{one_code, code_read, read_code}
use Rattle.bpf_isa.proofs.laws.image_and_code.Goals as goal

pub returns-clause-one_image : goal.returns-clause-one_image
returns-clause-one_image c = one_image

pub returns-clause-one_code : goal.returns-clause-one_code
returns-clause-one_code c = one_code

pub returns-clause-reads : goal.returns-clause-reads
returns-clause-reads c = λ image code. (code_read image code, read_code image code)
