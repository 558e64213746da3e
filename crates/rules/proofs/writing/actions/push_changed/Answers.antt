use Rattle.std.proofs.Common.{Some}
use Rattle.std.specs.Prelude.{codes}
use Rattle.rules.specs.Writing.{record_text, from_text, to_text, quoted_text}
use Rattle.rules.proofs.Appends.{pushed6}
use Rattle.rules.proofs.writing.actions.push_changed.Goals as goal

pub returns : goal.returns
returns c =
    rw (
      c.in_ok-push_text.ensures,
      c.in_ok-extend_from_slice-2.ensures.items,
      c.in_ok-push_to.ensures,
      c.in_ok-push_from.ensures,
      c.in_ok-extend_from_slice.ensures.items,
      c.in_ok-push_small.ensures,
    ) (pushed6 c.args.out.now.items (record_text c.args.number) (codes " with value") (from_text c.args.cut.0)
    (to_text (Some c.args.cut.1)) (codes " = ") (quoted_text c.args.text.now))
