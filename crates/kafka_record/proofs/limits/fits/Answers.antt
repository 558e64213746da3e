use Rattle.std.proofs.Common.{List, All, IsTrue, subst, rules, ◌↔◌}
use Rattle.wire_spec.specs.{declared.record.Header.Header, RecordSpelling.HeaderFits}
use Rattle.kafka_record.proofs.Within.{fits_iff}
use Rattle.kafka_record.proofs.limits.fits.Goals as goal

pub returns-then-headers-le-MAX_HEADERS : goal.returns-then-headers-le-MAX_HEADERS
returns-then-headers-le-MAX_HEADERS c =
    let all = subst (λ (hs : List Header). IsTrue c.headers_fit.result ↔ All HeaderFits hs) c.slice_of-headers.ensures
    c.headers_fit.ensures in
    fits_iff c.args.record.now c.headers_fit.result (search rules) (search rules) (search rules) (search rules) all
