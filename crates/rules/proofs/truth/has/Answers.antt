use Rattle.std.proofs.Common.{◌∙◌, ap, sym, arith}
use Rattle.std.proofs.lemmas.List.{length-take, take_all}
use Rattle.rules.specs.Meaning.{occurs}
use Rattle.rules.proofs.truth.has.Goals as goal

pub slice_bounds-occurs-end : goal.slice_bounds-occurs-end
slice_bounds-occurs-end c = omega (arith, length-take 65536 c.args.bytes.now)

pub returns-else-bytes-gt-LOOKED_AT : goal.returns-else-bytes-gt-LOOKED_AT
returns-else-bytes-gt-LOOKED_AT c =
    c.occurs-else-bytes-gt-LOOKED_AT.ensures
    ∙ ap (occurs c.args.text.now) (sym (take_all 65536 c.args.bytes.now (omega arith)))
