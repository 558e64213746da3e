use Rattle.exec.specs.Runs.{HaveBytes}
use Rattle.exec.proofs.headers.are_all_bytes.Given as goal

abbrev pub invariant-loop-i : goal.invariant-loop-i
invariant-loop-i l = HaveBytes l.given l.i
