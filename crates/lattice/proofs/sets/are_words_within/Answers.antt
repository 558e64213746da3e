use Rattle.std.proofs.Common.{rules, arith, sym}
use Rattle.lattice.proofs.Below.{words_cover, word_covers}
use Rattle.lattice.proofs.sets.are_words_within.Goals as goal

pub returns-then-inner-word : goal.returns-then-inner-word
returns-then-inner-word c =
    let same = word_covers c.args.inner.now c.args.outer.now c.loop-word.word (omega arith) (search rules) in
    let differs = c.if-inner-word.true in
    grind arith

pub returns : goal.returns
returns c = sym (words_cover c.args.inner.now c.args.outer.now (λ w under. c.loop-word.invariant w (omega arith)))
