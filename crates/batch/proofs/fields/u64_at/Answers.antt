use Rattle.std.proofs.Common.{drop, ap, ◌∙◌}
use Rattle.std.proofs.lemmas.List.{take_rest}
use Rattle.byteorder.specs.Endian.{big_number}
use Rattle.batch.proofs.Numbers.{eight_bytes}
use Rattle.batch.proofs.fields.u64_at.Goals as goal

pub returns : goal.returns
returns c = c.read_u64.ensures ∙ ap (big_number 8) (take_rest c.args.bytes.now c.args.at)
    ∙ eight_bytes (drop c.args.at c.args.bytes.now)
