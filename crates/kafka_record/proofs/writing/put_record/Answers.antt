use Rattle.std.proofs.Common.{◌≡◌, ℕ, ℤ, List, ◌++◌, length, ap, ◌∙◌, append_assoc, to_z, of_z, pos}
use Rattle.std.specs.Int.{w32, w64}
use Rattle.std.proofs.{lemmas.Int.to_z-of_z, lemmas.Result.on_ok_weaker}
use Rattle.wire_spec.specs.{Varint.varint, RecordSpelling.record_body}
use Rattle.kafka_record.specs.Parts.{record_with}
use Rattle.kafka_record.proofs.writing.put_record.Goals as goal

pub returns-clause-ok : goal.returns-clause-ok
returns-clause-ok c =
    let old = c.args.out.now.items in
    let body : ℤ → ℤ → List ℕ = λ d t. record_body d (record_with t c.args.key.now c.args.value.now c.args.headers.now)
    in
    let delta = c.args.delta in
    let time = c.args.timestamp_delta in
    let same : body (to_z w32 (of_z w32 delta)) (to_z w64 (of_z w64 time)) ≡ body delta time =
    ap (λ (d : ℤ). body d (to_z w64 (of_z w64 time))) (to_z-of_z w32 delta c.ranges.delta)
    ∙ ap (body delta) (to_z-of_z w64 time c.ranges.timestamp_delta) in
    let long = c.body_len.ensures.size ∙ ap length same in
    let first : c.put_len.new.out.items ≡ old ++ varint (pos (length (body delta time))) = c.in_ok-put_len.ensures.ok
    ∙ ap (λ (n : ℕ). old ++ varint (pos n)) long in
    on_ok_weaker c.put_body.result
    (λ e. e ∙ (ap (λ (b : List ℕ). c.put_len.new.out.items ++ b) same
    ∙ (ap (λ (s : List ℕ). s ++ body delta time) first
    ∙ append_assoc old (varint (pos (length (body delta time)))) (body delta time))))
    c.put_body.ensures.ok
