use Rattle.std.proofs.Common.{◌≡◌, ℕ, ◌-◌, ◌<◌, ◌≤◌, List, length, drop, slice_get, slice_index_or, Ok, ok_or, Fits, w8}
use Rattle.std.proofs.Common.{sym, ap, arith}
use Rattle.wire_spec.specs.declared.record.Header.{Header}
use Rattle.wire_spec.proofs.Varints.{IsBytes}
use Rattle.kafka_record.specs.SpelledHeaders.{any_header_at, AreSpelled}
use Rattle.kafka_record.specs.declared.fault.RecordFault.TheVariants.{Bad}
use Rattle.kafka_record.proofs.{Answered.read_ok, HeadersLaws.IsFirst, HeadersLaws.first_is, HeadersLaws.is_first}
use Rattle.kafka_record.proofs.HeadersLaws.{not_refused}
use Rattle.kafka_record.proofs.headers.first_spelled.Goals as goal

pub unreachable-requires : goal.unreachable-requires
unreachable-requires c =
    let one = is_first c.args.bytes.now c.args.start c.args.end c.args.count c.requires.some c.requires.spelled in
    not_refused (any_header_at (drop c.args.start c.args.bytes.now)) one.0 c.in-Err.field-0 one.1
    c.in-Err.ensures.gives c.in-Err.ensures.bad

first : (bytes : List ℕ) (start end count after : ℕ) (h : Header) → ((i : ℕ) → Fits w8 (slice_index_or bytes i 0)) →
    0 < count → AreSpelled bytes start end count →
    ok_or (any_header_at (drop start bytes)) Bad ≡ Ok (h, drop after bytes) → after ≤ length bytes →
    IsFirst bytes start end count (count - 1) after h
first bytes start end count after h small some spelled read le =
    let fits : IsBytes bytes = λ i. omega (arith, small i) in
    first_is bytes start end count after h fits some spelled (read_ok _ _ read) le

pub returns-clause-first : goal.returns-clause-first
returns-clause-first c =
    ap (λ (hs : List Header). slice_get hs 0) (first c.args.bytes.now c.args.start c.args.end c.args.count c.in-Ok.after _
    c.type_inv.bytes c.requires.some c.requires.spelled c.in-Ok.ensures.gives c.in-Ok.ensures.within.1).all

pub returns-clause-rest : goal.returns-clause-rest
returns-clause-rest c =
    sym (ap (λ (hs : List Header). drop 1 hs) (first c.args.bytes.now c.args.start c.args.end c.args.count c.in-Ok.after _
    c.type_inv.bytes c.requires.some c.requires.spelled c.in-Ok.ensures.gives c.in-Ok.ensures.within.1).all)

pub returns-clause-spelled : goal.returns-clause-spelled
returns-clause-spelled c = (first c.args.bytes.now c.args.start c.args.end c.args.count c.in-Ok.after _
    c.type_inv.bytes c.requires.some c.requires.spelled c.in-Ok.ensures.gives c.in-Ok.ensures.within.1).rest
