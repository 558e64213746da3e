use Rattle.std.proofs.Common.{rules, ◌≡◌, ◌<◌, length, get_or, arith, sym, subst, List}
use Rattle.std.specs.List.{AllByRecursion}
use Rattle.rules.specs.Limits.{FitsText, IsText, FitsLine}
use Rattle.rules.specs.Lines.{Line}
use Rattle.rules_compiler.proofs.Loops.{next_rule, fits_step, past_all}
use Rattle.rules_compiler.proofs.text_bytes.rules_have_texts.Goals as goal

pub loop-k-preserved : goal.loop-k-preserved
loop-k-preserved c =
    let low : c.loop-k.k < length c.args.rules.now = omega arith in
    let at : c.index-rules-k.result ≡ get_or c.args.rules.now c.loop-k.k c.index-rules-k.result = first_of (cc, search rules) in
    let is = next_rule c.args.rules.now c.loop-k.k c.index-rules-k.result low at in
    record {
      fits = fits_step (FitsLine FitsText) _ _ _ is c.loop-k.invariant.fits;
      all = λ rest. c.loop-k.invariant.all
          (subst (λ (l : List Line). AllByRecursion (FitsLine IsText) l) (sym is) (c.rule_has_texts.ensures, rest));
    }

pub returns : goal.returns
returns c = c.loop-k.invariant.all (past_all (FitsLine IsText) c.args.rules.now c.loop-k.k (omega arith))
