-- Where the headers of a record are.
use Rattle.std.specs.Prelude.{List, drop, ⊤}
use Rattle.wire_spec.specs.declared.record.Header.{Header}
use Rattle.kafka_record.specs.{declared.headers.HeadersIn.HeadersIn, SpelledHeaders.headers_in}
use Rattle.kafka_record.specs.SpelledHeaders.{AreSpelled}
use Rattle.kafka_record.specs.declared.headers.HeadersIn.TheVariants as source

-- the headers that are somewhere
abbrev pub headers_of : HeadersIn → List Header
headers_of (source.List given) = given.now
headers_of (source.Spelled bytes start end count) = headers_in count (drop start bytes.now)

-- they are there
abbrev pub AreThere : HeadersIn → Type 0
AreThere (source.List given) = ⊤
AreThere (source.Spelled bytes start end count) = AreSpelled bytes.now start end count
