use Rattle.std.proofs.{Common.sym, Common.rules, Common.FitsSigned, lemmas.Int.to_z-of_z}
use Rattle.std.specs.Int.{w32}
use Rattle.abstract_regs.proofs.Passes.{arguments_right}
use Rattle.abstract_regs.proofs.transfer.call_numbered.Goals as goal

pub call-requires-clause-right : goal.call-requires-clause-right
call-requires-clause-right c =
    let fits : FitsSigned w32 c.args.number = search rules in
    let is = rw (to_z-of_z w32 c.args.number fits) at c.in-Some.ensures in
    arguments_right c.args.state.now c.args.number c.in-Some.helper c.requires.passes (sym is)
