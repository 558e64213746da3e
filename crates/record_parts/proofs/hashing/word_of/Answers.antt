use Rattle.record_parts.proofs.Words.{padded_word}
use Rattle.record_parts.proofs.hashing.word_of.Goals as goal

pub returns : goal.returns
returns c =
    padded_word c.args.rest.now c.copy_from_slice.new.self c.from_le_bytes.result c.copy_from_slice.ensures.after
    c.requires c.from_le_bytes.ensures
