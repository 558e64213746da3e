use Rattle.std.proofs.Common.{◌≡◌, option_map, rules, string_bytes}
use Rattle.machine_spec.specs.Image.{program_of}
use Rattle.explain.specs.Explanations.{listing, refusal_at}
use Rattle.explain.proofs.Explained.{within, explained}
use Rattle.explain.proofs.explanation.explain_image.Goals as goal

pub explained-requires : goal.explained-requires
explained-requires c =
    within (program_of c.args.image.now c.args.table) c.in_ok-code.code c.in_ok-code.ensures.is_code
    c.in_ok-code.ensures.exact c.in-Ok.ensures.proper c.in_ok-fault.fault c.in_ok-fault.ensures

pub returns-in-Ok-explained : goal.returns-in-Ok-explained
returns-in-Ok-explained c =
    let code = c.in_ok-code.code in
    let claims = c.in-Ok.states.items in
    let fault = c.in_ok-fault.fault in
    let explanation = c.in-Ok-explained.explanation in
    let lines : string_bytes explanation.lines ≡ listing c.args.coverage code claims fault = search rules in
    let refusal : explanation.refusal ≡ option_map (refusal_at c.args.table code claims) fault = search rules in
    explained (program_of c.args.image.now c.args.table) code c.in_ok-code.ensures.is_code c.in_ok-code.ensures.exact
    c.in-Ok.ensures.proper c.args.coverage claims fault explanation c.in-Ok.ensures.states
    c.in_ok-fault.ensures lines refusal
