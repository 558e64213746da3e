use Rattle.std.proofs.Common.{◌≡◌, length, rules, ap, ◌∙◌}
use Rattle.machine_spec.specs.Image.{program_of}
use Rattle.commands.specs.Images.{accepted_line}
use Rattle.commands.proofs.image.check.Goals as goal

pub returns-in-Err : goal.returns-in-Err
returns-in-Err c = c.refusal_of.ensures.refusal (program_of c.args.image.now c.args.table) c.in-Err.ensures.answer

pub returns-in-Ok-accepted : goal.returns-in-Ok-accepted
returns-in-Ok-accepted c =
    let count : c.len.result ≡ length c.in-Ok.verified.code = search rules in
    let answer = c.in-Ok.ensures.answer in (
      record {
        code = c.in-Ok.verified.code;
        read = answer.read;
        claims = c.in-Ok.verified.claims;
        annotation = answer.annotation;
      },
      c.in-Ok-accepted.ensures ∙ ap accepted_line count,
    )
