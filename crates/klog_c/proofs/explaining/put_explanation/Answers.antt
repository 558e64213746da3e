use Rattle.std.proofs.Common.{inl, string_bytes, rules}
use Rattle.program_file.specs.Choice.{program_in}
use Rattle.klog_c.specs.Explained.{IsExplained}
use Rattle.klog_c.proofs.explaining.put_explanation.Goals as goal

pub returns-in-Ok : goal.returns-in-Ok
returns-in-Ok c =
    let says : IsExplained c.args.extent (program_in c.args.given.now) (string_bytes c.in-Ok.found) =
    (c.explain_image-explanation.result, search rules, search rules) in
    inl (c.in-Ok.found, says, c.fill.ensures)
