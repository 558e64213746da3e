use Rattle.std.proofs.Common.{◌/◌, length}
use Rattle.crc32c.proofs.Blocks.{after-blocks}
use Rattle.crc32c.proofs.after_rest.Goals as goal

pub returns : goal.returns
returns c =
    let bytes = c.args.bytes.now in
    let whole = after-blocks c.args.r 4 (length bytes / 4) bytes c.as_chunks.result.1.now c.as_chunks.result.0.now
    c.as_chunks.ensures.front c.as_chunks.ensures.back in
    cc
