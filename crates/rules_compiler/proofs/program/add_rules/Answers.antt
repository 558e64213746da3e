use Rattle.std.proofs.Common.{rules, ◌≡◌, ◌+◌, ◌<◌, length, get_or, refl, arith}
use Rattle.rules.specs.Limits.{FitsText, FitsLine}
use Rattle.rules_compiler.proofs.Loops.{next_rule, code_step, fits_step, code_end}
use Rattle.rules_compiler.proofs.Lengths.{rest_refused}
use Rattle.rules_compiler.proofs.program.add_rules.Goals as goal

pub loop-k-preserved : goal.loop-k-preserved
loop-k-preserved c =
    let low : c.loop-k.k < length c.args.rules.now = omega arith in
    let at : c.index-rules-k.result ≡ get_or c.args.rules.now c.loop-k.k c.index-rules-k.result =
    first_of (cc, search rules) in
    let is = next_rule c.args.rules.now c.loop-k.k c.index-rules-k.result low at in
    record {
      code = code_step _ _ _ _ _ _ is c.loop-k.invariant.code c.in_ok-add_rule.ensures.code;
      fits = fits_step (FitsLine FitsText) _ _ _ is c.loop-k.invariant.fits;
      few = c.in_ok-add_rule.ensures.few;
      low = omega arith;
    }

pub returns-clause-code : goal.returns-clause-code
returns-clause-code c = code_end _ _ c.args.rules.now c.loop-k.k (omega arith) c.loop-k.invariant.code

pub returns-in_err-add_rule-clause-refused : goal.returns-in_err-add_rule-clause-refused
returns-in_err-add_rule-clause-refused c =
    let low : c.loop-k.k < length c.args.rules.now = omega arith in
    let at : c.index-rules-k.result ≡ get_or c.args.rules.now c.loop-k.k c.index-rules-k.result =
    first_of (cc, search rules) in
    let is = next_rule c.args.rules.now c.loop-k.k c.index-rules-k.result low at in
    let refused = rest_refused c.args.code.now.items c.loop-k.code.items c.args.rules.now c.loop-k.k (c.loop-k.k + 1)
    c.index-rules-k.result _ c.loop-k.invariant.low c.loop-k.invariant.code is c.loop-k.invariant.few refl c.in_err-add_rule.ensures.refused in
    search (rules, refused)
