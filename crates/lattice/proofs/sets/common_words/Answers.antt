use Rattle.std.proofs.Common.{ℕ, bit_and, slice_index, ◌∙◌, arith, length-set}
use Rattle.std.proofs.{lemmas.List.Edits.fill_by_more, lemmas.List.FromFn.fill_by_all}
use Rattle.lattice.proofs.sets.common_words.Goals as goal

pub loop-word-preserved : goal.loop-word-preserved
loop-word-preserved c =
    let both = λ (k : ℕ). bit_and (slice_index c.args.words.now k) (slice_index c.args.others.now k) in
    let (long, each) = c.loop-word.invariant in
    let word = c.loop-word.word in (
      length-set c.loop-word.common word (both word) ∙ long,
      fill_by_more both c.loop-word.common word 0 (omega (arith, long)) each,
    )

pub returns : goal.returns
returns c =
    let both = λ (k : ℕ). bit_and (slice_index c.args.words.now k) (slice_index c.args.others.now k) in
    let (long, each) = c.loop-word.invariant in
    fill_by_all both c.loop-word.common 8 0 long (λ k under. each k (omega arith))
