use Rattle.std.proofs.Common.{rules, ◌≡◌, ℕ, ◌<◌, Ok, take, slice_index}
use Rattle.wire_spec.specs.BatchReading.{size_at}
use Rattle.batch.proofs.Found.{is_whole}
use Rattle.batch.proofs.packed.packed_of.Goals as goal

pub whole_of-requires-clause-whole : goal.whole_of-requires-clause-whole
whole_of-requires-clause-whole c =
    let fits : (i : ℕ) → slice_index c.args.bytes i < 256 = search rules in
    let sized : size_at c.args.bytes ≡ Ok c.in_ok-size.size = search rules in
    let cut : c.truncate.new.self ≡ take c.in_ok-size.size c.args.bytes = search rules in
    is_whole c.args.bytes c.truncate.new.self c.in_ok-size.size fits sized cut
