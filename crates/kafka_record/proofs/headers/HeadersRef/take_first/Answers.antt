use Rattle.std.proofs.Common.{◌≡◌, ◌∙◌, [], ℕ, List, drop, slice_get, sym, ap}
use Rattle.wire_spec.specs.declared.record.Header.{Header}
use Rattle.kafka_record.specs.{declared.headers.HeadersIn.HeadersIn, HeaderSources.headers_of}
use Rattle.kafka_record.specs.SpelledHeaders.{headers_in}
use Rattle.kafka_record.proofs.HeadersLaws.{none_in}
use Rattle.kafka_record.proofs.headers.HeadersRef.take_first.Goals as goal

none_left : (c : goal.Then-count-eq0) → c.args.self.now ≡ []
none_left c =
    let after = drop c.in-Spelled.start c.in-Spelled.bytes.now in
    sym c.self.view_is ∙ ap (λ (s : HeadersIn). headers_of s) c.in-Spelled.is
    ∙ ap (λ (n : ℕ). headers_in n after) c.if-count-eq0.true ∙ none_in after

pub returns-then-count-eq0-clause-first : goal.returns-then-count-eq0-clause-first
returns-then-count-eq0-clause-first c = sym (ap (λ (hs : List Header). slice_get hs 0) (none_left c))

pub returns-then-count-eq0-clause-rest : goal.returns-then-count-eq0-clause-rest
returns-then-count-eq0-clause-rest c = none_left c ∙ sym (ap (λ (hs : List Header). drop 1 hs) (none_left c))
