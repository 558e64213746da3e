use Rattle.std.proofs.Common.{◌∙◌, sym}
use Rattle.std.specs.Str.Parse.{ParsesUnsigned}
use Rattle.program_file.proofs.Numbers.{slot_padded, slot_ascii, slot_parsed}
use Rattle.program_file.proofs.slot_number.slot_named.Goals as goal

pub returns-then-is_padded : goal.returns-then-is_padded
returns-then-is_padded c = slot_padded c.args.word.now (sym c.is_padded.ensures ∙ c.if-is_padded.true)

pub returns-in_default : goal.returns-in_default
returns-in_default c = slot_ascii c.args.word.now c.in_default.ensures.cases.0

pub returns : goal.returns
returns c =
    let parsed : ParsesUnsigned 32 10 c.args.word.now c.parse.result = rw c.in-Ok.ensures.cases.0 at
    c.parse.ensures.value.0 in
    c.ok.ensures.value
    ∙ slot_parsed c.args.word.now c.parse.result parsed (sym c.is_padded.ensures ∙ c.if-is_padded.false)
