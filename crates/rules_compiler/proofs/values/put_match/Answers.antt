use Rattle.std.proofs.Common.{◌<◌, length, arith}
use Rattle.rules_compiler.proofs.Lengths.{match_step}
use Rattle.rules_compiler.proofs.values.put_match.Goals as goal

pub loop-k-preserved : goal.loop-k-preserved
loop-k-preserved c =
    let low : c.loop-k.k < length c.args.text.now = omega arith in
    match_step c.args.base _ c.loop-k.code.items c.put_byte.new.code.items c.args.text.now c.loop-k.k low c.loop-k.invariant
    c.in_ok-put_byte.ensures
