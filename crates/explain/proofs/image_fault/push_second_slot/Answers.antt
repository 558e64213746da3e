use Rattle.std.proofs.Common.{◌≡◌, ℕ, List, ◌++◌, OnOk, codes, string_bytes, ap, ◌∙◌, subst, append_assoc}
use Rattle.explain.specs.ImageFaults.{bytes_line}
use Rattle.explain.proofs.image_fault.push_second_slot.Goals as goal

pub returns : goal.returns
returns c =
    let old = string_bytes c.args.text.now in
    let line = bytes_line c.args.bytes.now in
    let before : string_bytes c.push_str.new.self ≡ old ++ codes "second slot:" = c.in_ok-push_str.ensures.bytes in
    subst (λ (xs : List ℕ). OnOk c.push_bytes_line.result (string_bytes c.push_bytes_line.new.text ≡ xs))
    (ap (λ (xs : List ℕ). xs ++ line) before ∙ append_assoc old (codes "second slot:") line)
    c.push_bytes_line.ensures
