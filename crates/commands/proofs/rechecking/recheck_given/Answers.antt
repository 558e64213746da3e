use Rattle.std.proofs.Common.{◌∙◌}
use Rattle.commands.proofs.RecheckLaws.{accepted_told, refused_told}
use Rattle.commands.proofs.rechecking.recheck_given.Goals as goal

pub returns-in_ok-print_accepted-in-Ok : goal.returns-in_ok-print_accepted-in-Ok
returns-in_ok-print_accepted-in-Ok g c =
    let accepted = rw c.deref.ensures at c.in-Ok.ensures in
    accepted_told _ _ c.args.given.now _ _ accepted.0 (c.as_str.ensures.value ∙ accepted.1)
    c.in_ok-print_accepted-in-Ok.ensures.ok

pub returns-in_ok-tell_refusal-in-Err-Image : goal.returns-in_ok-tell_refusal-in-Err-Image
returns-in_ok-tell_refusal-in-Err-Image g c =
    refused_told _ c.args.given.now _ _ (rw (c.in-Err-Image.field-0-is, c.deref.ensures) at c.in-Err-Image.ensures)
