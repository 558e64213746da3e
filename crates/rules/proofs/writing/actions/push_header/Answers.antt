use Rattle.std.specs.Prelude.{codes}
use Rattle.rules.specs.Writing.{quoted_text}
use Rattle.rules.proofs.Appends.{pushed4}
use Rattle.rules.proofs.writing.actions.push_header.Goals as goal

pub returns : goal.returns
returns c =
    rw (
      c.in_ok-push_text-2.ensures,
      c.in_ok-extend_from_slice-2.ensures.items,
      c.in_ok-push_text.ensures,
      c.in_ok-extend_from_slice.ensures.items,
    ) (pushed4 c.args.out.now.items (codes " and header ") (quoted_text c.args.header.now.key) (codes " = ")
    (quoted_text c.args.header.now.value))
