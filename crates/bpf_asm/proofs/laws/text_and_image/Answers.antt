use Rattle.bpf_asm.proofs.CodeTexts.{text_again}
use Rattle.bpf_asm.proofs.laws.text_and_image.Goals as goal

pub returns : goal.returns
returns c = text_again
