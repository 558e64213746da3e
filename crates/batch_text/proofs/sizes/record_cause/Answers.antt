use Rattle.std.proofs.Common.{rules, ◌≡◌, ◌==◌, false, ◌++◌, List, ℕ, [], drop, string_bytes, ap, ◌∙◌, codes}
use Rattle.std.proofs.Common.{option_map}
use Rattle.batch_text.specs.{Lines.count_field, Causes.after_records, Causes.fault_cause}
use Rattle.batch_text.proofs.CauseLaws.{record_is, rest_is}
use Rattle.batch_text.proofs.sizes.record_cause.Goals as goal
use Rattle.batch.proofs.Written.{row}

pub returns : goal.returns
returns c =
    let other : (c.args.number == c.u32_at.result) ≡ false = search rules in
    let first : string_bytes c.push_count.new.text ≡ [] ++ count_field (codes "record ") c.args.number = search rules in
    let left = option_map (λ rest. rest.now) c.after_records.result in
    let left_is : left ≡ after_records c.args.number (drop 61 c.args.bytes.now) =
    c.after_records.ensures ∙ ap (λ (l : List ℕ). after_records c.args.number l) (rest_is c.args.bytes.now) in
    record_is c.args.number c.u32_at.result c.args.bytes.now (string_bytes c.push_fault.new.text) left
    c.u32_at.ensures other left_is
    (row [] (string_bytes c.push_count.new.text) (string_bytes c.push_fault.new.text)
    (count_field (codes "record ") c.args.number) (fault_cause left) first c.in_ok-push_fault.ensures)
