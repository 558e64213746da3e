use Rattle.std.proofs.Common.{◌+◌, ◌-◌, ◌≤◌, [], arith, length, take, drop, subst, unwrap_or, option_map, Option}
use Rattle.std.proofs.lemmas.List.{length-take}
use Rattle.bytes.proofs.Ranges.{slice_range-slice_range}
use Rattle.kafka_record.specs.declared.spans.Extent.{Extent}
use Rattle.kafka_record.specs.Extents.{extent_bytes, IsExtentWithin, IsPartWithin}
use Rattle.kafka_record.proofs.by_ref.cut_packed.Goals as goal

pub returns-in-Some : goal.returns-in-Some
returns-in-Some c =
    let bytes = c.args.bytes.now in
    let extent = c.in-Some.extent in
    let within : IsExtentWithin (length bytes) extent =
    subst (IsPartWithin (length bytes)) c.in-Some.is c.requires.within in
    let short : c.args.end ≤ length (take (extent.end - extent.start) (drop extent.start bytes)) =
    subst (λ (x : Option Extent). c.args.end ≤ length (unwrap_or (option_map (extent_bytes bytes) x) [])) c.in-Some.is
    c.requires.end in
    let ends : extent.start + c.args.end ≤ extent.end =
    omega (arith, within.order, short, length-take (extent.end - extent.start) (drop extent.start bytes)) in
    rw (
      c.in-Some.is,
      slice_range-slice_range bytes extent.start extent.end c.args.start c.args.end c.requires.order
          ends,
    ) c.slice.ensures.ok
