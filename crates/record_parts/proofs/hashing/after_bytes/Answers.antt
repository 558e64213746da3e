use Rattle.std.proofs.Common.{arith, sym, ◌∙◌, ◌<◌, length}
use Rattle.std.proofs.lemmas.Bool.{eqb-true, eqb-false}
use Rattle.record_parts.proofs.Words.{after-parts, after-none, after-rest}
use Rattle.record_parts.proofs.hashing.after_bytes.Goals as goal

pub returns-then-is_empty : goal.returns-then-is_empty
returns-then-is_empty c =
    let rest = c.as_chunks.result.1.now in
    sym (after-none c.after_words-hash.result rest (eqb-true _ _ (sym c.is_empty.ensures ∙ c.if-is_empty.true)))
    ∙ after-parts c.args.hash c.after_words-hash.result c.args.bytes.now rest c.as_chunks.result.0.now
    c.as_chunks.ensures.front c.as_chunks.ensures.back c.after_words-hash.ensures

pub returns-else-is_empty : goal.returns-else-is_empty
returns-else-is_empty c =
    let rest = c.as_chunks.result.1.now in
    let some : 0 < length rest = omega (arith, eqb-false _ _ (sym c.is_empty.ensures ∙ c.if-is_empty.false)) in
    rw c.word_of.ensures (sym (after-rest c.after_words-hash.result rest some (omega arith))
    ∙ after-parts c.args.hash c.after_words-hash.result c.args.bytes.now rest c.as_chunks.result.0.now
    c.as_chunks.ensures.front c.as_chunks.ensures.back c.after_words-hash.ensures)
