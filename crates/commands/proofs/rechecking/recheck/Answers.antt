use Rattle.std.proofs.Common.{rules, ◌∙◌}
use Rattle.commands.proofs.RecheckLaws.{of_list}
use Rattle.commands.proofs.rechecking.recheck.Goals as goal

pub returns : goal.returns
returns g c = record {
  kept = search rules;
  printed = λ list known. of_list c.read_text.ensures.kept (c.as_str.ensures.value ∙ c.in-Ok.ensures.read list known)
      c.in-Err-recheck_text.ensures.told c.tell.ensures;
}
