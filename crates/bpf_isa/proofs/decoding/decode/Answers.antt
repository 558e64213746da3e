use Rattle.std.proofs.Common.{sym, ◌∙◌}
use Rattle.bpf_isa.proofs.Reading.{if_ok_code}
use Rattle.bpf_isa.proofs.decoding.decode.Goals as goal

pub returns-then-has_size-clause-is_code : goal.returns-then-has_size-clause-is_code
returns-then-has_size-clause-is_code c =
    if_ok_code c.args.image.now c.read_code.result (sym c.has_size.ensures ∙ c.if-has_size.true) c.read_code.ensures
