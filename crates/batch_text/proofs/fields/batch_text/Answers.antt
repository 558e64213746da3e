use Rattle.std.proofs.Common.{rules, ◌≡◌, [], ◌++◌, string_bytes}
use Rattle.batch_text.specs.Lines.{place_part}
use Rattle.batch_text.proofs.TextLaws.{four}
use Rattle.batch_text.proofs.fields.batch_text.Goals as goal

pub returns : goal.returns
returns c =
    let place = place_part c.args.position c.args.bytes.now in
    let placed : string_bytes c.push_place.new.text ≡ [] ++ place = search rules in
    four [] _ _ _ _ _ _ _ _ placed c.in_ok-push_times.ensures c.in_ok-push_producer.ensures
    c.in_ok-push_str.ensures.bytes
