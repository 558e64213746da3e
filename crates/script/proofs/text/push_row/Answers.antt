use Rattle.std.proofs.Common.{◌≡◌, ℕ, List, ◌++◌, Option, OnOk, option_map, subst}
use Rattle.std.specs.String.{string_bytes}
use Rattle.wire_spec.specs.declared.record.Header.{Header}
use Rattle.script.specs.Texts.{row_line}
use Rattle.script.proofs.text.push_row.Goals as goal

pub returns : goal.returns
returns c =
    let row = c.args.row.now in
    let key = option_map (λ k. k.now) c.key.result in
    let Line = λ (k : Option (List ℕ)) (v : Option (List ℕ)) (hs : List Header). OnOk c.push_line.result
    (string_bytes c.push_line.new.text ≡ string_bytes c.args.text.now
    ++ row_line c.args.output (record { input = row.input; number = row.number; offset = row.offset; timestamp = row.timestamp; key = k; value = v; headers = hs })) in
    subst (λ (k : Option (List ℕ)). Line k row.value row.headers) c.key.ensures
    (subst (λ (v : Option (List ℕ)). Line key v row.headers) c.value.ensures
    (subst (λ (hs : List Header). Line key (option_map (λ v. v.now) c.value.result) hs) c.headers-headers.ensures
    c.push_line.ensures))
