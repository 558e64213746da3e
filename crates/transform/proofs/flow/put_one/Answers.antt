use Rattle.std.proofs.Common.{refl}
use Rattle.transform.proofs.FillLaws.{not_put}
use Rattle.transform.proofs.flow.put_one.Goals as goal

pub returns-in-Err : goal.returns-in-Err
returns-in-Err g c = (
  refl,
  not_put c.args.output c.args.rows.now c.args.outlets.now c.index-outlets-output.result c.put.new.self c.in-Err.fault
      c.requires.within c.in-Err.ensures,
)
