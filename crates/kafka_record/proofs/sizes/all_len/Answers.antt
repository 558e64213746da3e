use Rattle.std.proofs.Common.{rules, ◌≡◌, ◌∙◌, List, All, length, sym, ap, subst, arith}
use Rattle.std.specs.List.{flat_map}
use Rattle.wire_spec.specs.{declared.record.Header.Header, RecordSpelling.HeaderFits, RecordSpelling.header}
use Rattle.wire_spec.proofs.RecordLaws.{length-headers}
use Rattle.kafka_record.specs.{declared.headers.HeadersIn.HeadersIn, HeaderSources.headers_of}
use Rattle.kafka_record.proofs.Within.{recursion_from_All}
use Rattle.kafka_record.proofs.sizes.all_len.Goals as goal

pub headers_len-requires-clause-fit : goal.headers_len-requires-clause-fit
headers_len-requires-clause-fit c =
    subst (λ (hs : List Header). All HeaderFits hs) (sym c.headers.view_is
    ∙ ap (λ (s : HeadersIn). headers_of s) c.in-List.is) c.requires.fit

pub returns-in-Spelled-clause-small : goal.returns-in-Spelled-clause-small
returns-in-Spelled-clause-small c =
    let size : length c.spelled_bytes.result.now ≡ length (flat_map header c.args.headers.now) = search rules in
    omega (
      arith,
      size,
      length-headers c.args.headers.now (recursion_from_All HeaderFits c.args.headers.now c.requires.fit),
    )
