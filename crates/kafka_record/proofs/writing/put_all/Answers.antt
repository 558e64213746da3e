use Rattle.std.proofs.Common.{◌∙◌, List, All, sym, ap, subst}
use Rattle.wire_spec.specs.{declared.record.Header.Header, RecordSpelling.HeaderFits}
use Rattle.kafka_record.specs.{declared.headers.HeadersIn.HeadersIn, HeaderSources.headers_of}
use Rattle.kafka_record.proofs.writing.put_all.Goals as goal

pub put_headers-requires : goal.put_headers-requires
put_headers-requires c =
    subst (λ (hs : List Header). All HeaderFits hs) (sym c.headers.view_is
    ∙ ap (λ (s : HeadersIn). headers_of s) c.in-List.is) c.requires
