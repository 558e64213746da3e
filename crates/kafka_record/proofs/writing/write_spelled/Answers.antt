use Rattle.std.proofs.Common.{◌≡◌, ◌+◌, List, ℕ, ◌++◌, length, ap, ◌∙◌, arith, pos}
use Rattle.std.specs.Int.{w32, w64}
use Rattle.std.proofs.lemmas.Int.{to_z-of_z}
use Rattle.wire_spec.specs.Varint.{varint}
use Rattle.kafka_record.proofs.Written.{spelled_is, spelled_size}
use Rattle.kafka_record.proofs.writing.write_spelled.Goals as goal

pub returns-clause-ok : goal.returns-clause-ok
returns-clause-ok c =
    let time = to_z-of_z w64 c.args.timestamp_delta c.ranges.timestamp_delta in
    let delta = to_z-of_z w32 c.args.delta c.ranges.delta in
    let parts = c.args.parts.now in
    let before = 1 + c.len64.result + c.len32.result + length parts in
    let first : c.push_len.new.out.items ≡ c.args.out.now.items ++ varint (pos before) =
    c.push_len.ensures.items ∙ ap (λ (xs : List ℕ). xs ++ varint (pos before)) c.reserve.ensures.items in (
      spelled_is c.args.timestamp_delta _ c.args.delta _ c.len64.result c.len32.result c.args.out.now.items
          c.push_len.new.out.items c.push_deltas.new.out.items c.extend_from_slice.new.self.items parts time delta
          c.len64.ensures.size c.len32.ensures.size first c.push_deltas.ensures.items
          c.in_ok-extend_from_slice.ensures.items,
      omega (
        arith,
        c.if-size-most.false,
        c.string_len-size.ensures.size,
        spelled_size c.args.timestamp_delta _ c.args.delta _ c.len64.result c.len32.result parts time delta
            c.len64.ensures.size c.len32.ensures.size,
      ),
    )
