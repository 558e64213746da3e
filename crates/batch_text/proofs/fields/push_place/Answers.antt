use Rattle.std.proofs.Common.{length, refl}
use Rattle.batch_text.specs.Lines.{place_part}
use Rattle.batch_text.proofs.TextLaws.{pushed_four, place_is}
use Rattle.batch_text.proofs.fields.push_place.Goals as goal

pub returns : goal.returns
returns c =
    let bytes = c.args.bytes.now in
    pushed_four c.push_count-3.result _ _ _ _ _ _ _ _ _ (place_part c.args.position bytes) c.in_ok-push_count.ensures
    c.in_ok-push_long.ensures c.in_ok-push_count-2.ensures c.push_count-3.ensures
    (place_is c.args.position c.u32_at.result (length bytes) bytes c.u32_at.ensures refl)
