use Rattle.std.proofs.Common.{◌-◌, map, sym, ◌∙◌, arith}
use Rattle.std.specs.Arc.{arc_value}
use Rattle.program_table.proofs.TableLaws.{version_of-previous, program_at, no_program_at}
use Rattle.program_table.proofs.table.program_at.Goals as goal

pub returns-then-number-programs : goal.returns-then-number-programs
returns-then-number-programs c =
    sym (version_of-previous (map (λ program. arc_value program) c.args.programs.now) c.args.version
    c.if-version-eq0.false
    ∙ no_program_at (λ program. arc_value program) c.args.programs.now (c.args.version - 1) (omega arith))

pub returns : goal.returns
returns c =
    program_at (λ program. arc_value program) c.args.programs.now (c.args.version - 1) c.index-programs-number.result
    (omega arith) c.index-programs-number.is
    ∙ sym (version_of-previous (map (λ program. arc_value program) c.args.programs.now) c.args.version
    c.if-version-eq0.false)
