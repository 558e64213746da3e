use Rattle.std.proofs.Common.{◌≡◌, ◌∙◌, ap, sym, Some, ℕ, true}
use Rattle.script.specs.Words.{is_number}
use Rattle.script.proofs.Reading.{number-read}
use Rattle.script.proofs.words.number.Goals as goal

pub returns : goal.returns
returns c =
    let number : is_number c.args.word.now ≡ true = ap is_number (sym c.as_bytes.ensures.value)
    ∙ (sym c.is_number.ensures ∙ c.if-not-is_number.false) in
    ap (λ (n : ℕ). Some n) c.unwrap_or.ensures
    ∙ number-read c.args.word.now c.parse.result c.parse.ensures.value.0 number
